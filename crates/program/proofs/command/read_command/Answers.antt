use Rattle.program.proofs.Common.{texts, Row, IsRow, row_of, ◌≡◌, ◌∷◌, [], ℕ, List, ap, sym, subst, ◌∙◌, IfSome, IfNone}
use Rattle.program.specs.declared.command.Command.{Command}
use Rattle.program.proofs.WordTexts.{three_texts, four_texts}
use Rattle.program.proofs.command.read_command.Goals as goal

pub returns-in-len3 : goal.returns-in-len3
returns-in-len3 c =
    let words = c.as_slice.result.now in
    let a = c.name-item-then-this-lt4.result in
    let b = c.one-item-then-this-lt4.result in
    let d = c.two-item.result in
    let x = c.as_str-in-len3.result.now in
    let y = c.as_str-in-len3-2.result.now in
    let z = c.as_str-in-len3-3.result.now in
    let is : texts c.args.words.now.items ≡ x ∷ y ∷ z ∷ [] =
    ap texts (sym c.as_slice.ensures.value)
    ∙ three_texts words a b d x y z c.in-len3.len_at_least c.in-len3.len_below
    c.name-item-then-this-lt4.is c.one-item-then-this-lt4.is
    c.two-item.is c.as_str-in-len3.ensures.value c.as_str-in-len3-2.ensures.value
    c.as_str-in-len3-3.ensures.value in
    record {
      row =
          subst (λ (ws : List (List ℕ)). IfSome c.with_two.result (λ (command : Command). IsRow ws (row_of command))) (sym is)
          c.with_two.ensures.row;
      none = subst (λ (ws : List (List ℕ)). IfNone c.with_two.result ((row : Row) → IsRow ws row → ⊥)) (sym is) c.with_two.ensures.none;
    }

pub returns-in-len4 : goal.returns-in-len4
returns-in-len4 c =
    let words = c.as_slice.result.now in
    let a = c.name-item-then-this-lt5.result in
    let b = c.one-item-then-this-lt5.result in
    let d = c.two-item-then-this-lt5.result in
    let e = c.three-item.result in
    let x = c.as_str-in-len4.result.now in
    let y = c.as_str-in-len4-2.result.now in
    let z = c.as_str-in-len4-3.result.now in
    let t = c.as_str-in-len4-4.result.now in
    let is : texts c.args.words.now.items ≡ x ∷ y ∷ z ∷ t ∷ [] =
    ap texts (sym c.as_slice.ensures.value)
    ∙ four_texts words a b d e x y z t c.in-len4.len_at_least c.in-len4.len_below
    c.name-item-then-this-lt5.is c.one-item-then-this-lt5.is
    c.two-item-then-this-lt5.is c.three-item.is
    c.as_str-in-len4.ensures.value c.as_str-in-len4-2.ensures.value c.as_str-in-len4-3.ensures.value c.as_str-in-len4-4.ensures.value in
    record {
      row =
          subst (λ (ws : List (List ℕ)). IfSome c.with_three.result (λ (command : Command). IsRow ws (row_of command))) (sym is)
          c.with_three.ensures.row;
      none = subst (λ (ws : List (List ℕ)). IfNone c.with_three.result ((row : Row) → IsRow ws row → ⊥)) (sym is) c.with_three.ensures.none;
    }

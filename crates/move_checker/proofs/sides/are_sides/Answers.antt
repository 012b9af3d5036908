use Rattle.move_checker.proofs.Common.{◌≡◌, ◌+◌, ◌-◌, ℕ, List, length, reverse, take, drop, ap, sym, ◌∙◌, arith}
use Rattle.move_checker.proofs.SideLemmas.{same_before, same_behind, sides_same}
use Rattle.move_checker.proofs.sides.are_sides.Goals as goal

pub returns-then-are_before : goal.returns-then-are_before
returns-then-are_before c =
    let before : List ℕ = c.args.halves.before in
    let behind : List ℕ = c.args.halves.behind in
    let walk : List ℕ = c.args.walk.now in
    let start : c.args.start + c.len.result - length before ≡ c.args.start = omega (arith, c.len.ensures) in
    let place : c.args.start + c.len.result ≡ c.args.start + length before = omega (arith, c.len.ensures) in (
      λ t. sides_same before behind walk c.args.start
          (c.are_before.ensures.0 c.if-are_before.true ∙ ap (λ (k : ℕ). take (length before) (drop k walk)) start)
          (c.are_behind.ensures.0 t ∙ ap (λ (k : ℕ). take (length behind) (drop k walk)) place),
      λ same. c.are_behind.ensures.1
          (same_behind before behind walk c.args.start same ∙ ap (λ (k : ℕ). take (length behind) (drop k walk)) (sym place)),
    )

pub returns-else-are_before : goal.returns-else-are_before
returns-else-are_before c =
    let before : List ℕ = c.args.halves.before in
    let start : c.args.start + c.len.result - length before ≡ c.args.start = omega (arith, c.len.ensures) in (
      λ t. absurd (cc),
      λ same. c.are_before.ensures.1
          (same_before before c.args.halves.behind c.args.walk.now c.args.start same
          ∙ ap (λ (k : ℕ). take (length before) (drop k c.args.walk.now)) (sym start)),
    )

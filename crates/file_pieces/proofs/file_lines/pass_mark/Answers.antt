use Rattle.file_pieces.proofs.Common.{IsOn, PassesByte, Reads, bytes_left, Stands, ◌≡◌, ℕ, List, Bool, true, false, Some, [], ◌∷◌, arith, rules, file_of, unmarked}
use Rattle.file_pieces.proofs.ReadingLemmas.{told}
use Rattle.file_pieces.proofs.FileLineLemmas.{passes_told, put_told, no_mark_first, no_mark_second, no_mark_third, mark_passed}
use Rattle.file_pieces.proofs.file_lines.pass_mark.Goals as goal
use Rattle.file_pieces.proofs.file_lines.pass_mark.Goals.{After-pass_byte-2, After-pass_byte-3, In_ok-pass_byte, In_ok-pass_byte-2, In_ok-pass_byte-3}

-- what is left of the file behind the place of the first byte of a mark, passed over or not
first_left : (g : _) (c : In_ok-pass_byte g) (passed : Bool) → c.in_ok-pass_byte.field-0 ≡ passed → (f : List ℕ)
    → file_of (g.S.Shelf.held c.args.shelf.now) c.args.name.now ≡ Some f → Reads c.args.pieces.now f
    → Reads c.pass_byte.new.pieces f × PassesByte passed 239 f (bytes_left c.pass_byte.new.pieces f)
first_left g c passed so f is reads = grind (arith, bytes_left, passes_told)

-- and of the second
second_left : (g : _) (c : In_ok-pass_byte-2 g) (passed : Bool) → c.in_ok-pass_byte-2.field-0 ≡ passed → (f : List ℕ)
    → file_of (g.S.Shelf.held c.args.shelf.now) c.args.name.now ≡ Some f → Reads c.pass_byte.new.pieces f
    → Reads c.pass_byte-2.new.pieces f × PassesByte passed 187 (bytes_left c.pass_byte.new.pieces f) (bytes_left c.pass_byte-2.new.pieces f)
second_left g c passed so f is reads = grind (arith, passes_told)

-- and of the third
third_left : (g : _) (c : In_ok-pass_byte-3 g) (passed : Bool) → c.in_ok-pass_byte-3.field-0 ≡ passed → (f : List ℕ)
    → file_of (g.S.Shelf.held c.args.shelf.now) c.args.name.now ≡ Some f → Reads c.pass_byte-2.new.pieces f
    → Reads c.pass_byte-3.new.pieces f
    × PassesByte passed 191 (bytes_left c.pass_byte-2.new.pieces f) (bytes_left c.pass_byte-3.new.pieces f)
third_left g c passed so f is reads = grind (arith, passes_told)

pub returns-then-not-branch-clause-line : goal.returns-then-not-branch-clause-line
returns-then-not-branch-clause-line g c =
    let at = goal.at.returns-then-not-branch-clause-line g c in
    let other : c.in_ok-pass_byte.field-0 ≡ false = search rules in
    let line : Stands c.pass_byte.new.line [] =
    put_told false c.in_ok-pass_byte.field-0 c.args.line.now c.pass_byte.new.line 239 [] other c.in_ok-pass_byte.ensures.line
    (record { same = c.requires.line.same; begun = c.requires.line.begun }) in
    told (λ (f : List ℕ). Reads c.args.pieces.now f → IsOn 1 (unmarked f) c.pass_byte.new.line 1 (bytes_left c.pass_byte.new.pieces f))
    (file_of (g.S.Shelf.held c.args.shelf.now) c.args.name.now) (λ f is reads.
    no_mark_first f (bytes_left c.pass_byte.new.pieces f) c.pass_byte.new.line
    (first_left g at.In_ok-pass_byte false other f is reads).1 line)

pub returns-then-not-branch-clause-begun : goal.returns-then-not-branch-clause-begun
returns-then-not-branch-clause-begun g c =
    let other : c.in_ok-pass_byte.field-0 ≡ false = search rules in
    let line : Stands c.pass_byte.new.line [] =
    put_told false c.in_ok-pass_byte.field-0 c.args.line.now c.pass_byte.new.line 239 [] other c.in_ok-pass_byte.ensures.line
    (record { same = c.requires.line.same; begun = c.requires.line.begun }) in
    rw line.begun (omega arith)

-- the first byte of the mark was passed over, and the line holds it
first_passed : (g : _) (c : After-pass_byte-2 g) → c.in_ok-pass_byte.field-0 ≡ true
first_passed g c = search rules

first_line : (g : _) (c : After-pass_byte-2 g) → Stands c.pass_byte.new.line (239 ∷ [])
first_line g c =
    put_told true c.in_ok-pass_byte.field-0 c.args.line.now c.pass_byte.new.line 239 [] (first_passed g c) c.in_ok-pass_byte.ensures.line
    (record { same = c.requires.line.same; begun = c.requires.line.begun })

-- and so was the second one
second_passed : (g : _) (c : After-pass_byte-3 g) → c.in_ok-pass_byte-2.field-0 ≡ true
second_passed g c = search rules

second_line : (g : _) (c : After-pass_byte-3 g) → Stands c.pass_byte.new.line (239 ∷ [])
    → Stands c.pass_byte-2.new.line (239 ∷ 187 ∷ [])
second_line g c first =
    put_told true c.in_ok-pass_byte-2.field-0 c.pass_byte.new.line c.pass_byte-2.new.line 187 (239 ∷ []) (second_passed g c)
    c.in_ok-pass_byte-2.ensures.line first

pub returns-then-not-branch-2-clause-line : goal.returns-then-not-branch-2-clause-line
returns-then-not-branch-2-clause-line g c =
    let at = goal.at.returns-then-not-branch-2-clause-line g c in
    let other : c.in_ok-pass_byte-2.field-0 ≡ false = search rules in
    let line : Stands c.pass_byte-2.new.line (239 ∷ []) =
    put_told false c.in_ok-pass_byte-2.field-0 c.pass_byte.new.line c.pass_byte-2.new.line 187 (239 ∷ []) other
    c.in_ok-pass_byte-2.ensures.line (first_line g at.After-pass_byte-2) in
    told (λ (f : List ℕ). Reads c.args.pieces.now f → IsOn 1 (unmarked f) c.pass_byte-2.new.line 1 (bytes_left c.pass_byte-2.new.pieces f))
    (file_of (g.S.Shelf.held c.args.shelf.now) c.args.name.now) (λ f is reads.
    let first = first_left g at.In_ok-pass_byte true (first_passed g at.After-pass_byte-2) f is reads in
    let last = second_left g at.In_ok-pass_byte-2 false other f is first.0 in
    no_mark_second f (bytes_left c.pass_byte.new.pieces f) (bytes_left c.pass_byte-2.new.pieces f) c.pass_byte-2.new.line first.1 last.1
    line)

pub returns-then-not-branch-3-clause-line : goal.returns-then-not-branch-3-clause-line
returns-then-not-branch-3-clause-line g c =
    let at = goal.at.returns-then-not-branch-3-clause-line g c in
    let other : c.in_ok-pass_byte-3.field-0 ≡ false = search rules in
    let line : Stands c.pass_byte-3.new.line (239 ∷ 187 ∷ []) =
    put_told false c.in_ok-pass_byte-3.field-0 c.pass_byte-2.new.line c.pass_byte-3.new.line 191 (239 ∷ 187 ∷ []) other
    c.in_ok-pass_byte-3.ensures.line (second_line g at.After-pass_byte-3 (first_line g at.After-pass_byte-2)) in
    told (λ (f : List ℕ). Reads c.args.pieces.now f → IsOn 1 (unmarked f) c.pass_byte-3.new.line 1 (bytes_left c.pass_byte-3.new.pieces f))
    (file_of (g.S.Shelf.held c.args.shelf.now) c.args.name.now) (λ f is reads.
    let first = first_left g at.In_ok-pass_byte true (first_passed g at.After-pass_byte-2) f is reads in
    let second = second_left g at.In_ok-pass_byte-2 true (second_passed g at.After-pass_byte-3) f is first.0 in
    let last = third_left g at.In_ok-pass_byte-3 false other f is second.0 in
    no_mark_third f (bytes_left c.pass_byte.new.pieces f) (bytes_left c.pass_byte-2.new.pieces f) (bytes_left c.pass_byte-3.new.pieces f)
    c.pass_byte-3.new.line first.1 second.1 last.1 line)

pub returns-clause-line : goal.returns-clause-line
returns-clause-line g c =
    let at = goal.at.returns-clause-line g c in
    let passed : c.in_ok-pass_byte-3.field-0 ≡ true = search rules in
    let anew : Stands c.clear.new.self [] = record { same = c.clear.ensures.same; begun = c.clear.ensures.begun } in
    told (λ (f : List ℕ). Reads c.args.pieces.now f → IsOn 1 (unmarked f) c.clear.new.self 1 (bytes_left c.pass_byte-3.new.pieces f))
    (file_of (g.S.Shelf.held c.args.shelf.now) c.args.name.now) (λ f is reads.
    let first = first_left g at.In_ok-pass_byte true (first_passed g at.After-pass_byte-2) f is reads in
    let second = second_left g at.In_ok-pass_byte-2 true (second_passed g at.After-pass_byte-3) f is first.0 in
    let third = third_left g at.In_ok-pass_byte-3 true passed f is second.0 in
    mark_passed f (bytes_left c.pass_byte.new.pieces f) (bytes_left c.pass_byte-2.new.pieces f) (bytes_left c.pass_byte-3.new.pieces f)
    c.clear.new.self first.1 second.1 third.1 anew)

use Rattle.file_pieces.proofs.Common.{IsOn, Reading, Reads, bytes_left, arith, ◌≡◌, ℕ, List, Option, Some, IfSome, ◌∷◌, subst, file_of}
use Rattle.file_pieces.proofs.ReadingLemmas.{Taken, told, at_told}
use Rattle.file_pieces.proofs.FileLineLemmas.{puts_on}
use Rattle.file_pieces.proofs.file_lines.take_byte.Goals as goal

pub returns-in-Some-eq10-clause-line : goal.returns-in-Some-eq10-clause-line
returns-in-Some-eq10-clause-line g c = grind (arith, told, bytes_left, at_told)

pub returns-in-Some-clause-line : goal.returns-in-Some-clause-line
returns-in-Some-clause-line g c =
    let file_told : Option (List ℕ) = file_of (g.S.Shelf.held c.args.shelf.now) c.args.name.now in
    let old : Reading = c.args.pieces.now in
    let new : Reading = c.next.new.self in
    let byte : ℕ = c.in-Some.byte in
    let took : IfSome file_told (Taken old new (Some byte)) = grind arith in
    told (λ (file : List ℕ). Reads old file → (first : ℕ) (all : List ℕ)
    → IsOn first all c.args.line.now c.args.number.now (bytes_left old file)
    → IsOn first all c.push.new.self c.args.number.now (bytes_left new file)) file_told (λ file is reads first all on.
    let t : Reads new file × (bytes_left old file ≡ byte ∷ bytes_left new file) =
    at_told (Taken old new (Some byte)) file_told file is took reads in
    puts_on first all c.args.line.now c.push.new.self c.args.number.now byte (bytes_left new file) c.in-Some.byte-test.1 c.push.ensures
    (subst (λ (l : List ℕ). IsOn first all c.args.line.now c.args.number.now l) t.1 on))

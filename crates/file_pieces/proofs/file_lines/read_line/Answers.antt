use Rattle.file_pieces.proofs.Common.{IsOn, ReadsLine, StandsBehind, IsNumbered, Reads, bytes_left, ◌≡◌, ℕ, List, Option, Some, IfSome, ap, ◌∙◌, subst, arith, Files, file_of, words_here}
use Rattle.file_pieces.specs.declared.file_lines.Taken.TheVariants.{Open, Found, End}
use Rattle.file_pieces.proofs.ReadingLemmas.{told, at_told, filled_kept}
use Rattle.file_pieces.proofs.FileLineLemmas.{reads_on, takes_on}
use Rattle.file_pieces.proofs.file_lines.read_line.Goals as goal

pub loop-found-preserved : goal.loop-found-preserved
loop-found-preserved g c =
    let name : List ℕ = c.args.name.now in
    let file : Option (List ℕ) = file_of (g.S.Shelf.held c.args.shelf.now) name in
    let now : Option (List ℕ) = file_of (g.S.Shelf.held c.loop-found.shelf) name in
    let same : now ≡ file = ap (λ (h : Option Files). file_of h name) c.loop-found.invariant.held in
    record {
      reads =
          reads_on file now c.args.pieces.now c.loop-found.pieces c.take_byte.new.pieces same c.loop-found.invariant.reads
          c.in_ok-take_byte.ensures.reads;
      line =
          takes_on file now c.args.pieces.now c.loop-found.pieces c.take_byte.new.pieces c.args.line.now c.loop-found.line
          c.take_byte.new.line
          c.args.number.now c.loop-found.number c.take_byte.new.number Open c.in_ok-take_byte.field-0 same c.in-Open.is
          c.loop-found.invariant.reads c.loop-found.invariant.line c.in_ok-take_byte.ensures.line;
      numbered =
          subst (λ t. IsNumbered t c.take_byte.new.number c.take_byte.new.line.begun c.take_byte.new.pieces.place) c.in-Open.is
          c.in_ok-take_byte.ensures.numbered;
      later = omega (arith, c.loop-found.invariant.later, c.take_byte.ensures.later);
      lazy = λ within. grind (arith, filled_kept);
      limit = c.take_byte.ensures.limit ∙ c.loop-found.invariant.limit;
      held = c.take_byte.ensures.only_reads.same_files ∙ c.loop-found.invariant.held;
      faults = omega (arith, c.loop-found.invariant.faults, c.take_byte.ensures.only_reads.never_falls);
    }

pub returns-in-Found-clause-line : goal.returns-in-Found-clause-line
returns-in-Found-clause-line g c =
    let name : List ℕ = c.args.name.now in
    let file : Option (List ℕ) = file_of (g.S.Shelf.held c.args.shelf.now) name in
    let now : Option (List ℕ) = file_of (g.S.Shelf.held c.loop-found.shelf) name in
    let same : now ≡ file = ap (λ (h : Option Files). file_of h name) c.loop-found.invariant.held in
    let Ends : List ℕ → Type 0 = λ f. Reads c.args.pieces.now f → (first : ℕ) (all : List ℕ)
    → IsOn first all c.args.line.now c.args.number.now (bytes_left c.args.pieces.now f)
    → StandsBehind (Found c.in-Found.found) first all c.take_byte.new.line c.take_byte.new.number (bytes_left c.take_byte.new.pieces f) in
    let ends : IfSome file Ends =
    takes_on file now c.args.pieces.now c.loop-found.pieces c.take_byte.new.pieces c.args.line.now c.loop-found.line c.take_byte.new.line
    c.args.number.now c.loop-found.number c.take_byte.new.number (Found c.in-Found.found) c.in_ok-take_byte.field-0 same c.in-Found.is
    c.loop-found.invariant.reads c.loop-found.invariant.line c.in_ok-take_byte.ensures.line in
    told (λ (f : List ℕ). Reads c.args.pieces.now f → (first : ℕ) (all : List ℕ)
    → IsOn first all c.args.line.now c.args.number.now (bytes_left c.args.pieces.now f)
    → ReadsLine first all (Some c.in-Found.found) (words_here c.take_byte.new.line.done) c.take_byte.new.number
    (bytes_left c.take_byte.new.pieces
    f) × Unit {0}) file (λ f is reads first all on. (at_told Ends file f is ends reads first all on, tt))

pub returns-in-End-clause-line : goal.returns-in-End-clause-line
returns-in-End-clause-line g c =
    let name : List ℕ = c.args.name.now in
    let file : Option (List ℕ) = file_of (g.S.Shelf.held c.args.shelf.now) name in
    let now : Option (List ℕ) = file_of (g.S.Shelf.held c.loop-found.shelf) name in
    let same : now ≡ file = ap (λ (h : Option Files). file_of h name) c.loop-found.invariant.held in
    takes_on file now c.args.pieces.now c.loop-found.pieces c.take_byte.new.pieces c.args.line.now c.loop-found.line c.take_byte.new.line
    c.args.number.now c.loop-found.number c.take_byte.new.number End c.in_ok-take_byte.field-0 same c.in-End.is
    c.loop-found.invariant.reads c.loop-found.invariant.line c.in_ok-take_byte.ensures.line

use Rattle.file_pieces.proofs.Common.{Reads, ℕ, List, length, inl, inr, ap, arith, file_of}
use Rattle.file_pieces.proofs.ReadingLemmas.{Taken, told, at_told, next_byte}
use Rattle.file_pieces.proofs.pieces.Pieces.next.Goals as goal

pub returns-clause-byte : goal.returns-clause-byte
returns-clause-byte g c =
    told (Taken c.args.self.now c.pop.new.self c.pop.result) (file_of (g.S.Shelf.held c.args.shelf.now) c.args.name.now) (λ file is reads.
    next_byte c.args.self.now c.have_byte.new.self c.pop.new.self file c.pop.result c.have_byte.ensures.place
    (at_told (λ (f : List ℕ). Reads c.args.self.now f → Reads c.have_byte.new.self f)
    (file_of (g.S.Shelf.held c.args.shelf.now) c.args.name.now) file is c.in_ok-have_byte.ensures.file reads)
    (λ none. elim c.in_ok-have_byte.ensures.more [
      | inl both ↦ both.0
      | inr some ↦ absurd (omega (arith, some, ap length none))
    ])
    c.pop.ensures.byte)

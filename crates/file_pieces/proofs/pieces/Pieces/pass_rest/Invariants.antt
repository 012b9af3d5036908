use Rattle.file_pieces.proofs.Common.{Reads, read_so_far, ◌≡◌, ◌+◌, ◌-◌, ◌≤◌, IfSome, if◌then◌else◌, file_of}
use Rattle.file_pieces.proofs.pieces.Pieces.pass_rest.Given as goal

-- the file is read on
abbrev pub invariant-loop-self : goal.invariant-loop-self
invariant-loop-self g l =
    record {
      file : IfSome (file_of (g.S.Shelf.held l.initial.shelf) l.name) (λ file. Reads l.initial.self file → Reads l.self file);
      later : l.initial.self.place ≤ l.self.place;
      limit : l.self.limit ≡ l.initial.self.limit;
      held : g.S.Shelf.held l.shelf ≡ g.S.Shelf.held l.initial.shelf;
      faults : g.S.Shelf.faults l.initial.shelf ≤ g.S.Shelf.faults l.shelf;
    }

abbrev pub decreases-loop-self : goal.decreases-loop-self
decreases-loop-self g l = l.self.limit - read_so_far l.self + (if l.self.ended then 0 else 1)

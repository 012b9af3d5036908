use Rattle.file_pieces.proofs.Common.{Reads, bytes_left, read_so_far, ◌≡◌, ◌+◌, ◌-◌, ◌≤◌, ◌++◌, length, IfSome, if◌then◌else◌, file_of}
use Rattle.file_pieces.proofs.pieces.Pieces.gather_rest.Given as goal

-- the file is read on, and what was read is gathered
abbrev pub invariant-loop-into : goal.invariant-loop-into
invariant-loop-into g l =
    record {
      file : IfSome (file_of (g.S.Shelf.held l.initial.shelf) l.name) (λ file. Reads l.initial.self file →
          Reads l.self file × (l.into.items ++ bytes_left l.self file ≡ l.initial.into.items ++ bytes_left l.initial.self file));
      count : l.initial.self.place + length l.into.items ≡ l.self.place + length l.initial.into.items;
      later : l.initial.self.place ≤ l.self.place;
      limit : l.self.limit ≡ l.initial.self.limit;
      held : g.S.Shelf.held l.shelf ≡ g.S.Shelf.held l.initial.shelf;
      faults : g.S.Shelf.faults l.initial.shelf ≤ g.S.Shelf.faults l.shelf;
    }

abbrev pub decreases-loop-into : goal.decreases-loop-into
decreases-loop-into g l = l.self.limit - read_so_far l.self + (if l.self.ended then 0 else 1)

use Rattle.file_pieces.proofs.Common.{IsOn, Reads, bytes_left, read_so_far, ◌≡◌, ℕ, List, ◌+◌, ◌-◌, ◌≤◌, IfSome, if◌then◌else◌, file_of}
use Rattle.file_pieces.proofs.file_lines.read_line.Given as goal

-- the lines so far are blank, and the present one is put together
abbrev pub invariant-loop-found : goal.invariant-loop-found
invariant-loop-found g l =
    record {
      reads : IfSome (file_of (g.S.Shelf.held l.initial.shelf) l.name) (λ file. Reads l.initial.pieces file → Reads l.pieces file);
      line : IfSome (file_of (g.S.Shelf.held l.initial.shelf) l.name) (λ file. Reads l.initial.pieces file →
          (first : ℕ) (all : List ℕ) → IsOn first all l.initial.line l.initial.number (bytes_left l.initial.pieces file)
          → IsOn first all l.line l.number (bytes_left l.pieces file));
      numbered : l.number + (if l.line.begun then 1 else 0) ≤ l.pieces.place + 1;
      later : l.initial.number ≤ l.number;
      lazy : l.pieces.place ≤ read_so_far l.initial.pieces
          → (l.shelf ≡ l.initial.shelf) × (read_so_far l.pieces ≡ read_so_far l.initial.pieces);
      limit : l.pieces.limit ≡ l.initial.pieces.limit;
      held : g.S.Shelf.held l.shelf ≡ g.S.Shelf.held l.initial.shelf;
      faults : g.S.Shelf.faults l.initial.shelf ≤ g.S.Shelf.faults l.shelf;
    }

abbrev pub decreases-loop-found : goal.decreases-loop-found
decreases-loop-found g l = l.pieces.limit + 1 - l.pieces.place

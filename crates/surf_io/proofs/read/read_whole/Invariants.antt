use Rattle.surf_io.proofs.Common.{◌+◌, ◌-◌, ◌≡◌, ◌≤◌, vec_len, IfSome, file_of}
use Rattle.surf_io.proofs.Reading.{IsReadUpTo}
use Rattle.surf_io.proofs.read.read_whole.Given as goal

abbrev pub invariant-loop-bytes : goal.invariant-loop-bytes
invariant-loop-bytes g l =
    (l.filled ≤ vec_len l.bytes)
    × (l.filled ≤ l.limit)
    × (vec_len l.bytes ≤ l.most)
    × IfSome (file_of (g.S.Shelf.held l.initial.shelf) l.name) (IsReadUpTo l.filled l.bytes.items)
    × (g.S.Shelf.held l.shelf ≡ g.S.Shelf.held l.initial.shelf)
    × (g.S.Shelf.faults l.initial.shelf ≤ g.S.Shelf.faults l.shelf)

abbrev pub decreases-loop-bytes : goal.decreases-loop-bytes
decreases-loop-bytes g l = l.limit + 1 - l.filled

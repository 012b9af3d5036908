use Rattle.off_reader.proofs.Common.{◌≡◌}
use Rattle.off_reader.proofs.RingLemmas.{IsCornersTo}
use Rattle.off_reader.proofs.ring.read_corners.Given as goal

abbrev pub invariant-loop : goal.invariant-loop
invariant-loop l = IsCornersTo l.vertices l.initial.cursor l.counter l.cursor l.in_range l.faces.pending
    × (l.faces.mesh ≡ l.initial.faces.mesh)

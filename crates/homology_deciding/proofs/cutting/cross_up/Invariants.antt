use Rattle.homology_deciding.proofs.Common.{GrewBy, IsWayUp, way_share, ◌≡◌, ◌<◌, List, length, DartName}
use Rattle.homology_deciding.proofs.cutting.cross_up.Given as goal

-- the way so far, and what it gave
abbrev pub invariant-loop-step : goal.invariant-loop-step
invariant-loop-step l =
    (l.at.0 < length l.tree.surface.now.mesh.faces)
    × ((way : List DartName) × IsWayUp l.tree.surface.now l.tree.split.now l.fn.face.0 way l.at.0
    × (length way ≡ l._step) × GrewBy l.tree.surface.now.table (way_share l.tree.surface.now l.amount way) l.fn.numbers l.numbers)

use Rattle.homology_deciding.proofs.Common.{IsWayUp, ◌≡◌, ◌<◌, length}
use Rattle.homology_deciding.proofs.heights.climb.Given as goal

-- the way so far
abbrev pub invariant-loop-step : goal.invariant-loop-step
invariant-loop-step l =
    (l.at.0 < length l.tree.surface.now.mesh.faces)
    × IsWayUp l.tree.surface.now l.tree.split.now l.fn.face.0 l.way.items l.at.0 × (length l.way.items ≡ l._step)

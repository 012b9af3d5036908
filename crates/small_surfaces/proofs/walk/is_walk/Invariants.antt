use Rattle.small_surfaces.proofs.WalkLemmas.{IsWalkSoFar}
use Rattle.small_surfaces.proofs.walk.is_walk.Given as goal

abbrev pub invariant-loop-place : goal.invariant-loop-place
invariant-loop-place l = IsWalkSoFar l.surface.mesh l.vertices l.place

use Rattle.compact_surfaces.proofs.Common.{lift_by, ◌≡◌, map, take}
use Rattle.compact_surfaces.proofs.covered.lifts_of.Given as goal

abbrev pub invariant-loop-place : goal.invariant-loop-place
invariant-loop-place l = l.lifts.items ≡ map (lift_by l.faces l.ways) (take l.place l.walks)

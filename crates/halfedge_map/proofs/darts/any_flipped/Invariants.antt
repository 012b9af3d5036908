use Rattle.halfedge_map.proofs.Common.{◌≡◌, ℕ, ◌<◌, false, is_flipped}
use Rattle.halfedge_map.proofs.darts.any_flipped.Given as goal

abbrev pub invariant-loop-face : goal.invariant-loop-face
invariant-loop-face l = (f : ℕ) → f < l.face → is_flipped l.signs f ≡ false

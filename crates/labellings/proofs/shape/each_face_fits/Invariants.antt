use Rattle.labellings.proofs.Common.{FitsFace, ℕ, ◌<◌}
use Rattle.labellings.proofs.shape.each_face_fits.Given as goal

abbrev pub invariant-loop-face : goal.invariant-loop-face
invariant-loop-face l = (f : ℕ) → f < l.face → FitsFace l.faces l.labelling f

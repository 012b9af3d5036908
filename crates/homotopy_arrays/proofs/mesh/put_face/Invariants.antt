use Rattle.homotopy_arrays.proofs.Common.{◌≡◌, take}
use Rattle.homotopy_arrays.proofs.mesh.put_face.Given as goal

-- the corners so far
abbrev pub invariant-loop-corner : goal.invariant-loop-corner
invariant-loop-corner l = l.faces ≡ record { mesh = l.initial.faces.mesh; pending = take l.corner-index l.face }

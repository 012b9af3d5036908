use Rattle.doubling.proofs.Common.{◌≡◌, take, numbers}
use Rattle.doubling.proofs.building.put_face.Given as goal

abbrev pub invariant-loop-corner : goal.invariant-loop-corner
invariant-loop-corner l = l.double ≡ record { mesh = l.initial.double.mesh; pending = take l.corner-index (numbers l.ring) }

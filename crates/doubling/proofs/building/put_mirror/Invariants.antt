use Rattle.doubling.proofs.Common.{mirror_face, ◌≡◌, take, numbers}
use Rattle.doubling.proofs.building.put_mirror.Given as goal

abbrev pub invariant-loop-place : goal.invariant-loop-place
invariant-loop-place l =
    l.double ≡ record { mesh = l.initial.double.mesh; pending = take l.place (mirror_face l.count (numbers l.ring)) }

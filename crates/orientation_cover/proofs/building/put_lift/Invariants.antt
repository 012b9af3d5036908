use Rattle.orientation_cover.proofs.Common.{◌≡◌, take}
use Rattle.orientation_cover.proofs.CoverLemmas.{lift_of_face}
use Rattle.orientation_cover.proofs.building.put_lift.Given as goal

abbrev pub invariant-loop-at : goal.invariant-loop-at
invariant-loop-at l =
    l.cover ≡ record { mesh = l.initial.cover.mesh; pending = take l.at (lift_of_face l.faces l.ways l.upper l.face.0) }

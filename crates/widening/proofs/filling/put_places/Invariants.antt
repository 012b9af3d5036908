use Rattle.widening.proofs.Common.{◌≡◌, take}
use Rattle.widening.proofs.filling.put_places.Given as goal

abbrev pub invariant-loop-place : goal.invariant-loop-place
invariant-loop-place l =
    l.wide ≡ record { degree = l.fn.wide.degree; faces = l.fn.wide.faces; places = take l.place-index l.narrow.places }

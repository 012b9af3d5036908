use Rattle.move_lifting.proofs.Common.{◌≡◌, take}
use Rattle.move_lifting.proofs.reducing.wheel_of.Given as goal

abbrev pub invariant-loop-spoke : goal.invariant-loop-spoke
invariant-loop-spoke l = l.places.items ≡ take l.spoke l.polygon.places

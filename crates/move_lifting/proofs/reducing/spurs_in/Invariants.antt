use Rattle.move_lifting.proofs.Common.{spurs_of, ◌≡◌, take}
use Rattle.move_lifting.proofs.reducing.spurs_in.Given as goal

abbrev pub invariant-loop-step : goal.invariant-loop-step
invariant-loop-step l = l.spurs ≡ spurs_of (take l.step-index l.steps)

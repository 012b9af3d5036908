use Rattle.move_lifting.proofs.Common.{HasWalk, take, All}
use Rattle.move_lifting.proofs.spoke_walks.SpokeWalks.has_all.Given as goal

abbrev pub invariant-loop-spoke : goal.invariant-loop-spoke
invariant-loop-spoke l = All (HasWalk l.self) (take l.spoke-index l.front)

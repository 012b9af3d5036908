use Rattle.move_lifting.proofs.Common.{◌≡◌, ◌≤◌, take, numbers}
use Rattle.move_lifting.proofs.inserting.common_start.Given as goal

abbrev pub invariant-loop-place : goal.invariant-loop-place
invariant-loop-place l = record {
  within : l.place ≤ l.most;
  kept : l.walk ≡ l.fn.walk;
  same : take l.place (numbers l.approach) ≡ take l.place l.fn.walk.walk;
}

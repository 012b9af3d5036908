use Rattle.move_lifting.proofs.Common.{backward, ◌≡◌, ◌+◌, take, drop, length, get_or, numbers}
use Rattle.move_lifting.proofs.inserting.back_along.Given as goal

abbrev pub invariant-loop-done : goal.invariant-loop-done
invariant-loop-done l = record {
  long : length l.back.items + 1 ≡ l.done;
  so_far : numbers l.back.items ≡ take (length l.back.items) (backward (get_or (numbers l.walk) 0 0) (drop 1 (numbers l.walk)));
}

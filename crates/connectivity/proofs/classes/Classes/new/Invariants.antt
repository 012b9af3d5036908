use Rattle.connectivity.proofs.Common.{◌≡◌, range_with_len}
use Rattle.connectivity.proofs.classes.Classes.new.Given as goal

abbrev pub invariant-loop-number : goal.invariant-loop-number
invariant-loop-number l = l.parents.items ≡ range_with_len 0 l.number

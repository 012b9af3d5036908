use Rattle.pair_commands.proofs.Common.{◌≡◌, length}
use Rattle.pair_commands.proofs.deciding.order_of.Given as goal

abbrev pub invariant-loop-pair : goal.invariant-loop-pair
invariant-loop-pair l = length l.starts.items ≡ l.pair

use Rattle.component_deciding.proofs.Common.{◌≡◌, range_with_len}
use Rattle.component_deciding.proofs.OrderLemmas.{pairs_of}
use Rattle.component_deciding.proofs.pair_decider.PairDecider.as_listed.Given as goal

abbrev pub invariant-loop-pair : goal.invariant-loop-pair
invariant-loop-pair l = pairs_of l.order.items ≡ range_with_len 0 l.pair

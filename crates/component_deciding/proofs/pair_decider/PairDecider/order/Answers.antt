use Rattle.component_deciding.proofs.Common.{Placed, IsPermutation-map, IsPermutation-trans}
use Rattle.component_deciding.proofs.pair_decider.PairDecider.order.Goals as goal

pub returns : goal.returns
returns c =
    IsPermutation-trans _ _ _ c.in_ok-order.ensures
    (IsPermutation-map (λ (entry : Placed). entry.pair) c.in_ok-order.order.items c.sort.new.self.items c.in_ok-sort.ensures.permutation)

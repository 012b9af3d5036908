use Rattle.pair_commands.proofs.Common.{HoldsUpTo, mesh_of_decider, ◌≡◌, length}
use Rattle.pair_commands.proofs.PairDecisions.{IsDecidedAt}
use Rattle.pair_commands.proofs.deciding.decide_all.Given as goal

-- the decisions on the pairs so far
abbrev pub invariant-loop-at : goal.invariant-loop-at
invariant-loop-at l =
    record {
      same : mesh_of_decider l.decider ≡ mesh_of_decider l.fn.decider;
      each : length l.decisions.items ≡ length l.order.items;
      right : HoldsUpTo (IsDecidedAt (mesh_of_decider l.fn.decider) l.walks.walks) l.order.items l.at l.decisions.items;
    }

use Rattle.surf_model.proofs.Common.{◌≡◌, ◌+◌, ◌≤◌, ◌++◌, map, length, take, vec_capacity}
use Rattle.surf_model.proofs.edge_list.append.Given as goal

abbrev pub invariant-loop-side : goal.invariant-loop-side
invariant-loop-side l = record {
  room : length l.fn.darts.items + length l.sides ≤ vec_capacity l.darts;
  put : l.darts.items ≡ l.fn.darts.items ++ map (λ side. side.dart) (take l.side-index l.sides);
}

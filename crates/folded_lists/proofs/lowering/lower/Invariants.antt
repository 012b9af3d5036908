use Rattle.folded_lists.proofs.Common.{lower_move, ◌≡◌, length, map, take}
use Rattle.folded_lists.proofs.lowering.lower.Given as goal

abbrev pub invariant-loop-k : goal.invariant-loop-k
invariant-loop-k l =
    l.below ≡ record { moves = map (lower_move l.faces.count (length l.faces.faces)) (take l.k l.list.moves); peak = l.list.peak }

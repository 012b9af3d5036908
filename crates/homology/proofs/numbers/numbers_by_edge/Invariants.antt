use Rattle.homology.proofs.Common.{edge_number, AreTableNumbers, take}
use Rattle.homology.proofs.numbers.numbers_by_edge.Given as goal

-- an entry for each edge, with the numbers of the lines so far
abbrev pub invariant-loop-k : goal.invariant-loop-k
invariant-loop-k l = AreTableNumbers l.sides l.of_edge.items (edge_number (take l.k l.numbers))

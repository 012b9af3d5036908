use Rattle.connectivity.proofs.ComponentLemmas.{JoinsEdgesUpTo}
use Rattle.connectivity.proofs.vertices.components.Given as goal

abbrev pub invariant-loop-edge : goal.invariant-loop-edge
invariant-loop-edge l = JoinsEdgesUpTo l.faces l.sides l.vertices l.edge

use Rattle.manifold_check.proofs.NumberLemmas.{AreNumbered}
use Rattle.manifold_check.proofs.numbering.number.Given as goal

abbrev pub invariant-loop-vertex : goal.invariant-loop-vertex
invariant-loop-vertex l = AreNumbered l.faces l.least l.vertex l.count l.places.items

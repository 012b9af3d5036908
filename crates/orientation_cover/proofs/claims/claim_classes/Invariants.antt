use Rattle.orientation_cover.proofs.ClassLemmas.{CarriesUpTo}
use Rattle.orientation_cover.proofs.claims.claim_classes.Given as goal

abbrev pub invariant-loop-edge : goal.invariant-loop-edge
invariant-loop-edge l = CarriesUpTo l.faces l.sides l.claims l.edge

use Rattle.walk_classes.proofs.ClassLemmas.{alike_itself, alike_back, alike_on}
use Rattle.walk_classes.proofs.laws.classes_are_of_an_equivalence.Goals as goal

pub returns : goal.returns
returns c = record { reflexive = alike_itself; symmetric = alike_back; transitive = alike_on }

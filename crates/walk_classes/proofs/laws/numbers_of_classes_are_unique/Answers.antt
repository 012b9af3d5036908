use Rattle.walk_classes.proofs.ClassLemmas.{one_numbering}
use Rattle.walk_classes.proofs.laws.numbers_of_classes_are_unique.Goals as goal

pub returns : goal.returns
returns c = one_numbering

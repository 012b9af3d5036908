use Rattle.walk_classes.proofs.ClassLemmas.{told_by_numbers}
use Rattle.walk_classes.proofs.laws.numbers_tell_classes.Goals as goal

pub returns : goal.returns
returns c = told_by_numbers

use Rattle.component_deciding.proofs.FreeTold.{whole_decide_free}
use Rattle.component_deciding.proofs.word_finder.WordFinder.sides.Goals as goal

pub returns-in-Whole-clause-free : goal.returns-in-Whole-clause-free
returns-in-Whole-clause-free c = rw c.in-Whole.is (whole_decide_free c.in-Whole.labelled c.labels.ensures.labelled)

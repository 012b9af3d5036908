use Rattle.walk_translate.proofs.Common.{IsLabelledByCut}
use Rattle.walk_translate.proofs.LabelLemmas.{cut_is_good}
use Rattle.walk_translate.proofs.deciding.word_by.Goals as goal

pub word_of-requires-clause-good : goal.word_of-requires-clause-good
word_of-requires-clause-good c =
    let surface = c.args.surface.now in
    let labelled : IsLabelledByCut surface c.in-Some.good = rw c.in-Some.is at c.requires.labels in
    rw c.faces-faces.ensures.mesh (cut_is_good surface c.in-Some.good c.faces-faces.ensures.valid labelled)

use Rattle.free_loops.proofs.Common.{arith, ap, ◌≡◌, LabellingView, cut_is_good}
use Rattle.std.proofs.Common.{inl, inr}
use Rattle.free_loops.proofs.DecidingLemmas.{labelled_wheel}
use Rattle.free_loops.proofs.word.free_word_of.Goals as goal

pub word_of-requires-clause-good : goal.word_of-requires-clause-good
word_of-requires-clause-good c =
    rw c.faces-faces.ensures.mesh (cut_is_good c.args.surface.now c.args.good.now c.faces-faces.ensures.valid c.requires.labelled)

pub cyclic_form_of-requires-clause-good : goal.cyclic_form_of-requires-clause-good
cyclic_form_of-requires-clause-good c =
    rw c.faces-faces.ensures.mesh (cut_is_good c.args.surface.now c.args.good.now c.faces-faces.ensures.valid c.requires.labelled)

pub cyclic_form_of-requires-clause-full : goal.cyclic_form_of-requires-clause-full
cyclic_form_of-requires-clause-full c =
    let read : c.labelling.result.now.degree ≡ c.args.good.now.degree = ap (λ (l : LabellingView). l.degree) c.labelling.ensures in
    let good = cut_is_good c.args.surface.now c.args.good.now c.faces-faces.ensures.valid c.requires.labelled in
    labelled_wheel c.args.surface.now c.args.good.now c.faces-faces.ensures.valid c.requires.labelled
    (elim good.degree [ inl more ↦ more | inr four ↦ absurd (omega (arith, four.0)) ])

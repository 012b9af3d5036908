use Rattle.labellings.proofs.Common.{IsDenialVerdict, IsFirstLabelFault, Denial, LabelFault, OutOfMemory, DenialVerdict, Label, ◌≡◌, ◌⊎◌, inl, inr, ◌∙◌, List, ℕ, Result, Ok, Err, IfOk, FaceList}
use Rattle.std.specs.Prelude.{◌≢◌}
use Rattle.labellings.proofs.VerdictLemmas.{one_verdict}
use Rattle.labellings.proofs.verdict.check_denial.Goals as goal

-- the verdict on labels with this fault is the only one
only : {E : Type 0} (r : Result DenialVerdict E) (mesh : FaceList) (first second : List ℕ) (denial : Denial) (fault : LabelFault)
    (verdict : DenialVerdict)
    → (fault ≡ OutOfMemory) ⊎ IsFirstLabelFault mesh denial.labelling fault → IsDenialVerdict mesh first second denial verdict
    → IfOk r (λ given. (fault ≢ OutOfMemory) × (given ≡ Label fault))
    → IfOk r (λ given. given ≡ verdict)
only (Err e) mesh first second denial fault verdict fails is given = tt
only (Ok v) mesh first second denial fault verdict (inl memory) is given = absurd (given.0 memory)
only (Ok v) mesh first second denial fault verdict (inr fails) is given =
    given.1 ∙ one_verdict mesh first second denial (Label fault) verdict fails is

pub returns-in-Err-clause-exact : goal.returns-in-Err-clause-exact
returns-in-Err-clause-exact c =
    λ verdict is.
    only c.verdict_on_labels.result c.args.faces.now c.args.first.now c.args.second.now c.args.denial c.in-Err.fault verdict
    c.in-Err.ensures.fault is
    c.verdict_on_labels.ensures

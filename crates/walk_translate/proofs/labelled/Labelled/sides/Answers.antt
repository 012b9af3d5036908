use Rattle.walk_translate.proofs.Common.{subst, DoDecide, IsWordUnder, LabelledView}
use Rattle.walk_translate.proofs.DecidingLemmas.{under_decide}
use Rattle.walk_translate.proofs.labelled.Labelled.sides.Goals as goal

pub returns-clause-decide : goal.returns-clause-decide
returns-clause-decide c =
    subst (λ (l : LabelledView). DoDecide l.surface.mesh (IsWordUnder l)) c.self.view_is
    (under_decide (record { surface = c.self.inside.surface; labels = c.self.inside.labels }) c.self.invariant.0)

use Rattle.std.proofs.lemmas.Result.{IfOk-weaker}
use Rattle.walk_translate.proofs.LabelLemmas.{surface_labelling}
use Rattle.walk_translate.proofs.labels.label_surface.Goals as goal

pub returns : goal.returns
returns c =
    IfOk-weaker c.label_by_cut.result _ _ (λ found h. surface_labelling c.args.surface.now found c.faces.ensures.valid h)
    c.label_by_cut.ensures

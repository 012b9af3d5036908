use Rattle.walk_translate.proofs.Common.{flat_wheel_of_good, IsGood, ◌≡◌, ◌∙◌, sym}
use Rattle.walk_translate.proofs.LabelLemmas.{cut_is_good}
use Rattle.walk_translate.proofs.SpokedLemmas.{five_then, points_decide, states_decide}
use Rattle.walk_translate.proofs.spoked.Spoked.answer.Goals as goal

pub answer_by-requires-clause-own : goal.answer_by-requires-clause-own
answer_by-requires-clause-own c =
    let surface = c.args.self.now.surface.now in
    let labelling = c.args.self.now.good.now in
    let same : c.labelling.result.now ≡ labelling = c.labelling.ensures in
    let four : labelling.degree ≡ 4 = rw same at (sym c.degree.ensures ∙ c.if-degree-eq4.true) in
    flat_wheel_of_good surface.mesh labelling (cut_is_good surface labelling c.requires.oriented c.requires.labelled) four

pub answer_by-requires-clause-decides : goal.answer_by-requires-clause-decides
answer_by-requires-clause-decides c =
    let same : c.labelling.result.now ≡ c.args.self.now.good.now = c.labelling.ensures in
    let four : c.args.self.now.good.now.degree ≡ 4 = rw same at (sym c.degree.ensures ∙ c.if-degree-eq4.true) in
    points_decide c.args.self.now.surface.now c.args.self.now.good.now c.requires.oriented c.requires.labelled four

pub answer_by-requires-else-degree-eq4-clause-decides : goal.answer_by-requires-else-degree-eq4-clause-decides
answer_by-requires-else-degree-eq4-clause-decides c =
    let surface = c.args.self.now.surface.now in
    let labelling = c.args.self.now.good.now in
    let same : c.labelling.result.now ≡ labelling = c.labelling.ensures in
    let good : IsGood surface.mesh labelling = cut_is_good surface labelling c.requires.oriented c.requires.labelled in
    let other : labelling.degree ≡ 4 → ⊥ = λ e. c.if-degree-eq4.false (c.degree.ensures ∙ rw same e) in
    states_decide surface labelling c.requires.oriented c.requires.labelled (five_then surface.mesh labelling good other)

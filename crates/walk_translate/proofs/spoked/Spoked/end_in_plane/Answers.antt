use Rattle.walk_translate.proofs.Common.{flat_next, Vector, origin, flat_wheel_of_good, quad_path_leads_to_sum, quad_path, ◌≡◌, List, ℕ, ap, ◌∙◌, arith, ap₂, to_z, of_z, w64, ints, led}
use Rattle.walk_translate.proofs.DecidingLemmas.{vector}
use Rattle.walk_translate.proofs.LabelLemmas.{cut_is_good}
use Rattle.walk_translate.proofs.spoked.Spoked.end_in_plane.Goals as goal

pub fold-requires-clause-belongs : goal.fold-requires-clause-belongs
fold-requires-clause-belongs c =
    let surface = c.args.self.now.surface.now in
    let labelling = c.args.self.now.good.now in
    flat_wheel_of_good surface.mesh labelling (cut_is_good surface labelling c.requires.spoked.oriented c.requires.spoked.labelled)
    c.requires.four

pub returns : goal.returns
returns c =
    let mesh = c.args.self.now.surface.now.mesh in
    let labelling = c.args.self.now.good.now in
    let path : List ℕ = quad_path mesh labelling c.args.walk.now in
    let start : c.new-form.result ≡ origin = c.new-form.ensures in
    let there : c.fold.new.form ≡ led flat_next labelling.places origin path =
    c.in_ok-fold.ensures.state c.if-not-branch.false ∙ ap (λ (s : Vector). led flat_next labelling.places s path) start in
    let right : to_z w64 (of_z w64 c.x-x.result) ≡ c.x-x.result = omega (arith, ints, c.x-x.type_inv) in
    let up : to_z w64 (of_z w64 c.y-y.result) ≡ c.y-y.result = omega (arith, ints, c.y-y.type_inv) in (
      c.in_ok-fold.ensures.walk.0 c.if-not-branch.false,
      (
        c.requires.four,
        ap₂ vector (right ∙ c.x-x.ensures) (up ∙ c.y-y.ensures) ∙ there ∙ quad_path_leads_to_sum mesh labelling c.args.walk.now,
      ),
    )

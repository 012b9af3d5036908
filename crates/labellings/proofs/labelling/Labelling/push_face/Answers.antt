use Rattle.labellings.proofs.Common.{FaceLabels, LabellingView, ◌≡◌, ◌<◌, ◌-◌, ◌^◌, ◌+◌, ◌∷◌, [], ◌++◌, length, arith, refl, ap, ◌∙◌, rules}
use Rattle.labellings.proofs.StoredLabellingLemmas.{length-faces, stored_labelling-push, IsStoredLabelling-push}
use Rattle.labellings.proofs.labelling.Labelling.push_face.Goals as goal

pub invariant_of-self-2 : goal.invariant_of-self-2
invariant_of-self-2 c =
    let i = c.self.inside in
    let labels : c.extend_from_slice.new.self.items ≡ i.labels.items ++ c.args.labels.now = search rules in
    let signs : c.push-2.new.self.items ≡ i.signs.items ++ c.args.flipped ∷ [] = search rules in
    let ends : c.push.new.self.items ≡ i.ends.items ++ (length i.labels.items + length c.args.labels.now) ∷ [] = search rules in
    let few : length i.ends.items < 2 ^ 32 - 1 = omega
    (arith, c.requires.faces, length-faces _ _ _ _ _ c.args.self.now c.self.invariant c.self.view_is) in
    rw (labels, signs, ends) (IsStoredLabelling-push i.signs.items i.ends.items i.labels.items i.places.items c.args.flipped
    c.args.labels.now _ c.self.invariant refl few c.requires.labels)

pub returns-clause-ok : goal.returns-clause-ok
returns-clause-ok c =
    let i = c.self.inside in
    let face : FaceLabels = record { flipped = c.args.flipped; labels = c.args.labels.now } in
    let labels : c.extend_from_slice.new.self.items ≡ i.labels.items ++ c.args.labels.now = search rules in
    let signs : c.push-2.new.self.items ≡ i.signs.items ++ c.args.flipped ∷ [] = search rules in
    let ends : c.push.new.self.items ≡ i.ends.items ++ (length i.labels.items + length c.args.labels.now) ∷ [] = search rules in
    rw (labels, signs, ends) (
    ap (λ faces. let view : LabellingView = record { degree = i.degree; faces = faces; places = i.places.items } in view)
    (stored_labelling-push i.degree i.signs.items i.ends.items i.labels.items i.places.items c.args.flipped c.args.labels.now _
    c.self.invariant refl)
    ∙ ap (λ (v : LabellingView). let view : LabellingView =
    record { degree = v.degree; faces = v.faces ++ face ∷ []; places = v.places } in view) c.self.view_is
    )

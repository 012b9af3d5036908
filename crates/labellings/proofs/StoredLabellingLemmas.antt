-- A labelling as it lies in memory.
use Rattle.labellings.proofs.Common.{FaceLabels, LabellingView, labels_at, signs_of, ◌≡◌, ℕ, zero, suc, ◌+◌, ◌-◌, ◌^◌, ◌<◌, ◌≤◌, Bool, List, [], ◌∷◌, ◌++◌, length, map, get_or, take, drop, refl, ap, sym, subst, ◌∙◌, inl, inr, arith, cases_lt, common_steps, length-append, length_push, get_or_append_left, get_or_push}
use Rattle.labellings.specs.StoredLabellings.{with_signs, stored_labelling, IsStoredLabelling}
use Rattle.surf_model.proofs.PartsLemmas.{length-parts, get_or-parts, part_within, parts-push, EndsRise-push, EndsRise-last}
use Rattle.surf_model.specs.Parts.{parts, EndsRise}

abbrev face_labels : Bool → List ℕ → FaceLabels
face_labels flipped labels = record { flipped = flipped; labels = labels }

length-with_signs : (signs : List Bool) (ps : List (List ℕ)) → length signs ≡ length ps → length (with_signs signs ps) ≡ length ps
length-with_signs [] [] e = refl
length-with_signs [] (p ∷ ps) e = absurd (omega arith)
length-with_signs (s ∷ signs) [] e = absurd (omega arith)
length-with_signs (s ∷ signs) (p ∷ ps) e = ap suc (length-with_signs signs ps (omega arith))

signs-with_signs : (signs : List Bool) (ps : List (List ℕ)) → length signs ≡ length ps
    → map (λ (face : FaceLabels). face.flipped) (with_signs signs ps) ≡ signs
signs-with_signs [] ps e = refl
signs-with_signs (s ∷ signs) [] e = absurd (omega arith)
signs-with_signs (s ∷ signs) (p ∷ ps) e = ap (λ rest. s ∷ rest) (signs-with_signs signs ps (omega arith))

labels-with_signs : (signs : List Bool) (ps : List (List ℕ)) (f : ℕ) (d : FaceLabels) → length signs ≡ length ps → f < length ps
    → (get_or (with_signs signs ps) f d).labels ≡ get_or ps f []
labels-with_signs [] [] f d e h = absurd (omega arith)
labels-with_signs [] (p ∷ ps) f d e h = absurd (omega arith)
labels-with_signs (s ∷ signs) [] f d e h = absurd (omega arith)
labels-with_signs (s ∷ signs) (p ∷ ps) zero d e h = refl
labels-with_signs (s ∷ signs) (p ∷ ps) (suc f) d e h = labels-with_signs signs ps f d (omega arith) (omega arith)

with_signs-push : (signs : List Bool) (ps : List (List ℕ)) (s : Bool) (p : List ℕ) → length signs ≡ length ps →
    with_signs (signs ++ s ∷ []) (ps ++ p ∷ []) ≡ with_signs signs ps ++ face_labels s p ∷ []
with_signs-push [] [] s p e = refl
with_signs-push [] (q ∷ ps) s p e = absurd (omega arith)
with_signs-push (r ∷ signs) [] s p e = absurd (omega arith)
with_signs-push (r ∷ signs) (q ∷ ps) s p e = ap (λ rest. face_labels r q ∷ rest) (with_signs-push signs ps s p (omega arith))

-- where the labels of a face lie
pub record LabelsLieAt (labelling : LabellingView) (signs : List Bool) (ends labels : List ℕ) (f : ℕ) : Type 0 where
  pub few : f < length ends
  pub each : length signs ≡ length ends
  pub rises : get_or (0 ∷ ends) f 0 ≤ get_or ends f 0
  pub within : get_or ends f 0 ≤ length labels
  pub short : get_or ends f 0 - get_or (0 ∷ ends) f 0 < 2 ^ 32
  pub signs_are : signs_of labelling ≡ signs
  pub is : labels_at labelling f ≡ take (get_or ends f 0 - get_or (0 ∷ ends) f 0) (drop (get_or (0 ∷ ends) f 0) labels)
  pub size : length (labels_at labelling f) ≡ get_or ends f 0 - get_or (0 ∷ ends) f 0
  pub label : (t : ℕ) → t < length (labels_at labelling f)
      → get_or (labels_at labelling f) t 0 ≡ get_or labels (get_or (0 ∷ ends) f 0 + t) 0

lie-at : (degree : ℕ) (signs : List Bool) (ends labels places : List ℕ) (f : ℕ) → IsStoredLabelling signs ends labels places →
    f < length (stored_labelling degree signs ends labels places).faces
    → LabelsLieAt (stored_labelling degree signs ends labels places) signs ends labels f
lie-at degree signs ends labels places f s h =
    grind (arith, common_steps, parts, length-parts, length-with_signs, part_within, labels-with_signs, get_or-parts, signs-with_signs)

pub labels_lie_at : (degree : ℕ) (signs : List Bool) (ends labels places : List ℕ) (view : LabellingView) (f : ℕ)
    → IsStoredLabelling signs ends labels places →
    stored_labelling degree signs ends labels places ≡ view → f < length view.faces → LabelsLieAt view signs ends labels f
labels_lie_at degree signs ends labels places view f s e =
    subst (λ (v : LabellingView). f < length v.faces → LabelsLieAt v signs ends labels f) e (lie-at degree signs ends labels places f s)

pub length-faces : (degree : ℕ) (signs : List Bool) (ends labels places : List ℕ) (view : LabellingView)
    → IsStoredLabelling signs ends labels places →
    stored_labelling degree signs ends labels places ≡ view → length view.faces ≡ length ends
length-faces degree signs ends labels places view s e = grind (arith, length-with_signs, parts, length-parts)

-- one face more
pub stored_labelling-push : (degree : ℕ) (signs : List Bool) (ends labels places : List ℕ) (s : Bool) (face : List ℕ) (m : ℕ)
    → IsStoredLabelling signs ends labels places →
    m ≡ length labels + length face →
    (stored_labelling degree (signs ++ s ∷ []) (ends ++ m ∷ []) (labels ++ face) places).faces
    ≡ (stored_labelling degree signs ends labels places).faces ++ face_labels s face ∷ []
stored_labelling-push degree signs ends labels places s face m i e = grind (arith, parts-push, with_signs-push, parts, length-parts)

pub IsStoredLabelling-push : (signs : List Bool) (ends labels places : List ℕ) (s : Bool) (face : List ℕ) (m : ℕ)
    → IsStoredLabelling signs ends labels places →
    m ≡ length labels + length face → length ends < 2 ^ 32 - 1 → length face < 2 ^ 32 →
    IsStoredLabelling (signs ++ s ∷ []) (ends ++ m ∷ []) (labels ++ face) places
IsStoredLabelling-push signs ends labels places s face m i e few short =
    let last = EndsRise-last ends (length labels) i.rising in
    record {
      each_face = length_push signs s ∙ ap (λ n. n + 1) i.each_face ∙ sym (length_push ends m);
      rising = subst (EndsRise 0 (ends ++ m ∷ [])) (e ∙ sym (length-append labels face))
          (EndsRise-push 0 ends (length labels) m i.rising (omega arith));
      few_faces = omega (arith, length_push ends m);
      few_labels = λ f below. elim (cases_lt f (length ends)) [
        | inl inside ↦ rw (get_or_append_left ends (m ∷ []) 0 f inside, get_or_append_left (0 ∷ ends) (m ∷ []) 0 f (omega arith))
            (i.few_labels f inside)
        | inr outside ↦
            let at : f ≡ length ends = omega (arith, length_push ends m) in
            let end : get_or (ends ++ m ∷ []) f 0 ≡ m = get_or_push ends m 0 f (sym at) in
            let start : get_or ((0 ∷ ends) ++ m ∷ []) f 0 ≡ length labels =
            get_or_append_left (0 ∷ ends) (m ∷ []) 0 f (omega arith) ∙ ap (λ k. get_or (0 ∷ ends) k 0) at ∙ last in
            omega arith
      ];
      few_places = i.few_places;
    }

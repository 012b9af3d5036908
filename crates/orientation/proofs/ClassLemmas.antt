-- Classes of faces, and that coherent signs that keep the least face of each are unique.
use Rattle.orientation.proofs.Common.{partners_swap, joined_step, joined_trans, IsFaceStep, IsLeastOfClass, IsLeastKept, differ, Fit, ◌≡◌, ◌≢◌, ◌⊎◌, inl, inr, ℕ, zero, suc, ◌+◌, ◌<◌, Bool, true, false, List, [], ◌∷◌, length, refl, sym, ◌∙◌, subst, arith, cases_lt, ext_get_or, FaceList, IsFaceList, IsPath, AreJoined, IsCoherent, is_flipped}
use Rattle.orientation.proofs.Fitting.{fit_if_opposite}

pub step_back : (mesh : FaceList) (f g : ℕ) → IsFaceStep mesh f g → IsFaceStep mesh g f
step_back mesh f g h =
    record { side = h.partner; partner = h.side; partners = partners_swap mesh h.side h.partner h.partners; from = h.to; to = h.from }

pub joined_back : {A : Type 0} (step : A → A → Type 0) → ((a b : A) → step a b → step b a) → (x y : A) → AreJoined step x y
    → AreJoined step y x
joined_back {A} step back x y h = turned x h.0 h.1
  where
    turned : (x : A) (path : List A) → IsPath step x path y → AreJoined step y x
    turned x [] h = ([], sym h)
    turned x (w ∷ path) h = joined_trans step y w x (turned w path h.1) (joined_step step w x (back x w h.0))

-- two choices of coherent signs that agree at the end of a step agree at its start
agree_before : (a b c d : Bool) → differ a b ≡ differ c d → b ≡ d → a ≡ c
agree_before true b true d h e = refl
agree_before false b false d h e = refl
agree_before true true false d h e = cc
agree_before true false false d h e = cc
agree_before false true true d h e = cc
agree_before false false true d h e = cc

agree_on_step : {mesh : FaceList} {signs others : List Bool} {f g : ℕ} → IsFaceList mesh → IsCoherent mesh signs → IsCoherent mesh others
    → IsFaceStep mesh f g → is_flipped signs g ≡ is_flipped others g → is_flipped signs f ≡ is_flipped others f
agree_on_step {mesh} {signs} {others} is h k step same =
    let one : Fit mesh signs step.side step.partner = fit_if_opposite is step.partners (h.opposite step.side step.partner step.partners) in
    let two : Fit mesh others step.side step.partner = fit_if_opposite is step.partners
    (k.opposite step.side step.partner step.partners) in
    let there : is_flipped signs step.partner.face.0 ≡ is_flipped others step.partner.face.0 = subst
    (λ n. is_flipped signs n ≡ is_flipped others n) (sym step.to) same in
    subst (λ n. is_flipped signs n ≡ is_flipped others n) step.from
    (agree_before (is_flipped signs step.side.face.0) (is_flipped signs step.partner.face.0) (is_flipped others step.side.face.0)
    (is_flipped others step.partner.face.0) (one ∙ sym two) there)

agree_on_path : {mesh : FaceList} {signs others : List Bool} (f g : ℕ) (path : List ℕ) → IsFaceList mesh → IsCoherent mesh signs
    → IsCoherent mesh others
    → IsPath (IsFaceStep mesh) f path g → is_flipped signs g ≡ is_flipped others g → is_flipped signs f ≡ is_flipped others f
agree_on_path {signs} {others} f g [] is h k path same = subst (λ n. is_flipped signs n ≡ is_flipped others n) (sym path) same
agree_on_path f g (w ∷ more) is h k path same = agree_on_step is h k path.0 (agree_on_path w g more is h k path.1 same)

bool_cases : (a b : Bool) → (a ≡ b) ⊎ (a ≢ b)
bool_cases true true = inl refl
bool_cases true false = inr (λ h. cc)
bool_cases false true = inr (λ h. cc)
bool_cases false false = inl refl

agree_below : {mesh : FaceList} {signs others : List Bool} → IsFaceList mesh → IsCoherent mesh signs → IsCoherent mesh others
    → IsLeastKept mesh signs → IsLeastKept mesh others
    → (n f : ℕ) → f < n → f < length mesh.faces → is_flipped signs f ≡ is_flipped others f
agree_below is h k keep keeps zero f below few = absurd (omega arith)
agree_below {mesh} {signs} {others} is h k keep keeps (suc n) f below few =
    elim (bool_cases (is_flipped signs f) (is_flipped others f)) [
      | inl same ↦ same
      | inr other ↦
          (let least : IsLeastOfClass mesh f = λ g joined. elim (cases_lt g f) [
            | inl less ↦ absurd (other (agree_on_path f g joined.0 is h k joined.1
                (agree_below is h k keep keeps n g (omega arith) (omega arith))))
            | inr more ↦ more
          ] in
          keep f few least ∙ sym (keeps f few least))
    ]

pub signs_unique : {mesh : FaceList} {signs others : List Bool} → IsFaceList mesh → IsCoherent mesh signs → IsCoherent mesh others
    → IsLeastKept mesh signs → IsLeastKept mesh others → signs ≡ others
signs_unique {signs} {others} is h k keep keeps =
    ext_get_or false signs others (h.each_face ∙ sym k.each_face)
    (λ f few. agree_below is h k keep keeps (f + 1) f (omega arith) (omega (arith, few, h.each_face)))

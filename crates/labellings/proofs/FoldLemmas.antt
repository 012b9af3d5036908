-- The spokes of a dart act on the states of a form that meets the laws of puts, and once round a face they change nothing: a side puts the
-- label at its tail and then the one at its head, so round a face the labels telescope.
use Rattle.labellings.proofs.Common.{IsGood, MeetsSomeRule, LabellingView, signs_of, label_at, tail_label, head_label, spokes, spokes_by_labels, quad_path, ◌≡◌, inl, inr, ℕ, zero, suc, ◌<◌, Bool, true, false, ◌&&◌, eqb, List, [], ◌∷◌, ◌++◌, length, get_or, refl, ap, sym, ◌∙◌, subst, arith, append_assoc, cases_Bool, eqb-true, and_parts, cond, step_within, IsSide, side_after, tail_of, head_of, FaceList, IsFaceList, face_at, next_corner, corners_from, start_under, end_under, is_flipped, Side, IsQuad, led, add, walked, run as run_from, vertices_beyond}
use Rattle.surf_model.proofs.RoundLemmas.{corner_after}
use Rattle.walk_actions.proofs.Corners.{once_round}
use Rattle.walk_actions.proofs.Runs.{walked-round}
use Rattle.labellings.proofs.SideLemmas.{SpokesOfSide, spokes_of_side}

-- Puts on one wheel: the two laws, over the states of a form that belong to it.
pub record PutLaws {State : Type 0} (places : List ℕ) (next : List ℕ → State → ℕ → State) (Belongs IsAtVertex : State → Type 0) : Type 0
  where
    pub stays : (s : State) (i : ℕ) → Belongs s → i < length places → Belongs (next places s i)
    pub vertex : (s : State) (i j : ℕ) → Belongs s → IsAtVertex s → i < length places → j < length places
        → IsAtVertex (next places (next places s i) j)
    pub back : (s : State) (i : ℕ) → Belongs s → i < length places → next places (next places s i) i ≡ s
    pub quad : (s : State) (a c : ℕ) → Belongs s → IsAtVertex s → IsQuad places a c
        → next places (next places s a) (add (length places) a 1) ≡ next places (next places s (add (length places) c 1)) c

-- two spokes put one after the other
abbrev pub pair : {State : Type 0} → List ℕ → (List ℕ → State → ℕ → State) → State → ℕ → ℕ → State
pair places next s i j = next places (next places s i) j

module _ {State : Type 0} (places : List ℕ) (next : List ℕ → State → ℕ → State) (Belongs IsAtVertex : State → Type 0)
    (laws : PutLaws places next Belongs IsAtVertex)
  where
    pub there : (s : State) (i j k : ℕ) → Belongs s → i < length places → j < length places
        → pair places next (pair places next s i j) j k ≡ pair places next s i k
    there s i j k b l m = ap (λ t. next places t k) (laws.back (next places s i) j (laws.stays s i b l) m)

    pub pair_belongs : (s : State) (i j : ℕ) → Belongs s → i < length places → j < length places → Belongs (pair places next s i j)
    pair_belongs s i j b l m = laws.stays (next places s i) j (laws.stays s i b l) m

    -- pairs that do the same do the same backwards
    backwards : (i j k m : ℕ) → i < length places → j < length places → k < length places → m < length places
        → ((s : State) → Belongs s → IsAtVertex s → pair places next s i j ≡ pair places next s k m)
        → (s : State) → Belongs s → IsAtVertex s → pair places next s j i ≡ pair places next s m k
    backwards i j k m i_in j_in k_in m_in same s b v =
        let r_belongs : Belongs (pair places next s j i) = pair_belongs s j i b j_in i_in in
        let r_vertex : IsAtVertex (pair places next s j i) = laws.vertex s j i b v j_in i_in in
        let home : pair places next (pair places next s j i) i j ≡ s = there s j i j b j_in i_in ∙ laws.back s j b j_in in
        let away : pair places next (pair places next s j i) k m ≡ s = sym (same (pair places next s j i) r_belongs r_vertex) ∙ home in
        sym (
        ap (λ t. pair places next t m k) (sym away) ∙ there (pair places next s j i) k m k r_belongs k_in m_in
        ∙ laws.back (pair places next s j i) k r_belongs k_in
        )

    -- by the labels of both sides, the spokes of a dart do what the two labels do
    pub labels_do : (a b c d : ℕ) → a < length places → (s : State) → Belongs s
        → led next places s (spokes_by_labels a b c d) ≡ pair places next s a b
    labels_do a b c d a_in s in_wheel = elim (cases_Bool (eqb a b && eqb c d)) [
      | inl tree ↦
          let same : a ≡ b = eqb-true a b (and_parts (eqb a b) (eqb c d) tree).0 in
          ap (λ t. led next places s (cond t [] (a ∷ b ∷ []))) tree
          ∙ sym (ap (pair places next s a) (sym same) ∙ laws.back s a in_wheel a_in)
      | inr other ↦ ap (λ t. led next places s (cond t [] (a ∷ b ∷ []))) other
    ]

    -- and the labels of the one side do what those of the other do backwards
    pub sides_agree : (a b c d : ℕ) → a < length places → b < length places → c < length places → d < length places
        → MeetsSomeRule places a b c d → (s : State) → Belongs s → IsAtVertex s → pair places next s c d ≡ pair places next s b a
    sides_agree a b c d a_in b_in c_in d_in rule s in_wheel v = elim rule [
      | inl tree ↦
          ap (λ x. pair places next s c x) (sym tree.1) ∙ laws.back s c in_wheel c_in
          ∙ sym (ap (λ x. pair places next s x a) (sym tree.0) ∙ laws.back s a in_wheel a_in)
      | inr more ↦ elim more [
        | inl cotree ↦ ap (λ x. pair places next s x d) (sym cotree.1) ∙ ap (pair places next s b) (sym cotree.0)
        | inr left ↦
            let a_up : ℕ = add (length places) a 1 in
            let c_up : ℕ = add (length places) c 1 in
            let a_up_in : a_up < length places = subst (λ x. x < length places) left.rises b_in in
            let c_up_in : c_up < length places = subst (λ x. x < length places) left.rises_too d_in in
            let turned : pair places next s a_up a ≡ pair places next s c c_up =
            backwards a a_up c_up c a_in a_up_in c_up_in c_in
            (λ t t_in t_v. laws.quad t a c t_in t_v left.quad) s in_wheel v in
            ap (pair places next s c) left.rises_too ∙ sym turned ∙ ap (λ x. pair places next s x a) (sym left.rises)
      ]
    ]

pub led-append : {State : Type 0} (next : List ℕ → State → ℕ → State) (places : List ℕ) (s : State) (xs ys : List ℕ)
    → led next places s (xs ++ ys) ≡ led next places (led next places s xs) ys
led-append next places s [] ys = refl
led-append next places s (x ∷ xs) ys = led-append next places (next places s x) xs ys

pub quad_path-append : (mesh : FaceList) (labelling : LabellingView) (front : List ℕ) (x : ℕ) (rest : List ℕ)
    → quad_path mesh labelling (front ++ x ∷ rest) ≡ quad_path mesh labelling (front ++ x ∷ []) ++ quad_path mesh labelling (x ∷ rest)
quad_path-append mesh labelling [] x rest = refl
quad_path-append mesh labelling (a ∷ []) x rest = ap (λ (l : List ℕ). l ++ quad_path mesh labelling (x ∷ rest))
    (sym (append_nothing (spokes mesh labelling a x)))
  where
    append_nothing : (xs : List ℕ) → xs ++ [] ≡ xs
    append_nothing [] = refl
    append_nothing (y ∷ ys) = ap (λ (l : List ℕ). y ∷ l) (append_nothing ys)
quad_path-append mesh labelling (a ∷ b ∷ front) x rest =
    ap (λ (l : List ℕ). spokes mesh labelling a b ++ l) (quad_path-append mesh labelling (b ∷ front) x rest)
    ∙ sym (append_assoc (spokes mesh labelling a b) (quad_path mesh labelling (b ∷ (front ++ x ∷ [])))
    (quad_path mesh labelling (x ∷ rest)))

-- where a walk leads
abbrev pub run : {State : Type 0} → FaceList → LabellingView → (List ℕ → State → ℕ → State) → State → List ℕ → State
run mesh labelling next s walk = led next labelling.places s (quad_path mesh labelling walk)

pub run_on : {State : Type 0} (mesh : FaceList) (labelling : LabellingView) (next : List ℕ → State → ℕ → State) (s : State)
    (front : List ℕ) (x : ℕ) (rest : List ℕ)
    → run mesh labelling next s (front ++ x ∷ rest) ≡ run mesh labelling next (run mesh labelling next s (front ++ x ∷ [])) (x ∷ rest)
run_on mesh labelling next s front x rest = grind (arith, led, quad_path-append, led-append)

-- what the spokes of a dart make of a state
abbrev pub spoked : {State : Type 0} → FaceList → LabellingView → (List ℕ → State → ℕ → State) → State → ℕ → ℕ → State
spoked mesh labelling next s u v = led next labelling.places s (spokes mesh labelling u v)

-- the spokes of a walk act dart by dart
pub run_walked : {State : Type 0} (mesh : FaceList) (labelling : LabellingView) (next : List ℕ → State → ℕ → State) (s : State)
    (walk : List ℕ) → run mesh labelling next s walk ≡ walked (spoked mesh labelling next) s walk
run_walked mesh labelling next s [] = refl
run_walked mesh labelling next s (u ∷ []) = refl
run_walked mesh labelling next s (u ∷ v ∷ walk) =
    led-append next labelling.places s (spokes mesh labelling u v) (quad_path mesh labelling (v ∷ walk))
    ∙ run_walked mesh labelling next (spoked mesh labelling next s u v) (v ∷ walk)

-- the labels of a side are below the degree
module _ (mesh : FaceList) (labelling : LabellingView) (good : IsGood mesh labelling) where
  pub label_within : (corner : Side) → IsSide mesh corner → label_at labelling corner < length labelling.places
  label_within corner h = grind arith

  after_within : (side : Side) → IsSide mesh side → label_at labelling (side_after mesh side) < length labelling.places
  after_within side h = grind (arith, step_within)

  by_sign : (b : Bool) (x y : ℕ) → x < length labelling.places → y < length labelling.places → cond b x y < length labelling.places
  by_sign true x y h k = h
  by_sign false x y h k = k

  pub tail_within : (side : Side) → IsSide mesh side → tail_label mesh labelling side < length labelling.places
  tail_within side h = by_sign (is_flipped (signs_of labelling) side.face.0) _ _ (after_within side h) (label_within side h)

  pub head_within : (side : Side) → IsSide mesh side → head_label mesh labelling side < length labelling.places
  head_within side h = by_sign (is_flipped (signs_of labelling) side.face.0) _ _ (label_within side h) (after_within side h)

-- the corner of a face, by its place
abbrev pub corner_at : ℕ → ℕ → Side
corner_at f t = record { face = record { 0 = f }; at = t }

-- the dart along a side puts its labels, and the dart against it puts them backwards
pub record Darts {State : Type 0} (mesh : FaceList) (labelling : LabellingView) (next : List ℕ → State → ℕ → State) (s : State)
    (side : Side) : Type 0
  where
    pub along :
        spoked mesh labelling next s (start_under mesh (signs_of labelling) side) (end_under mesh (signs_of labelling) side)
        ≡ pair labelling.places next s (tail_label mesh labelling side) (head_label mesh labelling side)
    pub against :
        spoked mesh labelling next s (end_under mesh (signs_of labelling) side) (start_under mesh (signs_of labelling) side)
        ≡ pair labelling.places next s (head_label mesh labelling side) (tail_label mesh labelling side)

module _ {State : Type 0} (mesh : FaceList) (labelling : LabellingView) (next : List ℕ → State → ℕ → State)
    (Belongs IsAtVertex : State → Type 0) (laws : PutLaws labelling.places next Belongs IsAtVertex) (valid : IsFaceList mesh)
    (good : IsGood mesh labelling)
  where
    pub darts_of : (side : Side) → IsSide mesh side → (s : State) → Belongs s → IsAtVertex s → Darts mesh labelling next s side
    darts_of side h s b v =
        let found : SpokesOfSide mesh labelling side = spokes_of_side mesh labelling side valid good h in
        let other : Side = found.partner.partner in
        let other_in : IsSide mesh other = found.partner.partners.second in
        let places : List ℕ = labelling.places in
        let labels = labels_do places next Belongs IsAtVertex laws in
        let a_in = tail_within mesh labelling good side h in
        let c_in = tail_within mesh labelling good other other_in in
        record {
          along = ap (led next places s) found.along ∙ labels _ _ _ _ a_in s b;
          against =
              ap (led next places s) found.against ∙ labels _ _ _ _ c_in s b
              ∙ sides_agree places next Belongs IsAtVertex laws _ _ _ _ a_in (head_within mesh labelling good side h) c_in
              (head_within mesh labelling good other other_in) found.partner.meets.rule s b v;
        }

    -- a side in the order of the file, kept or flipped
    side_forward : (side : Side) → IsSide mesh side → (s : State) → Belongs s → IsAtVertex s
        → spoked mesh labelling next s (tail_of mesh side) (head_of mesh side)
        ≡ pair labelling.places next s (label_at labelling side) (label_at labelling (side_after mesh side))
    side_forward side h s b v = go (is_flipped (signs_of labelling) side.face.0) refl (darts_of side h s b v)
      where
        go : (f : Bool) → is_flipped (signs_of labelling) side.face.0 ≡ f → Darts mesh labelling next s side
            → spoked mesh labelling next s (tail_of mesh side) (head_of mesh side)
            ≡ pair labelling.places next s (label_at labelling side) (label_at labelling (side_after mesh side))
        go true e d = rw e at d.against
        go false e d = rw e at d.along

    -- round a face the labels telescope
    round_face : (f t k : ℕ) → f < length mesh.faces → t < length (face_at mesh f) → (s : State) → Belongs s → IsAtVertex s
        → run_from (spoked mesh labelling next) s (get_or (face_at mesh f) t 0) (vertices_beyond (face_at mesh f) true t k)
        ≡ pair labelling.places next s (label_at labelling (corner_at f t))
        (label_at labelling (corner_at f (corner_after true (length (face_at mesh f)) t k)))
    round_face f t zero l m s b v =
        sym (laws.back s (label_at labelling (corner_at f t)) b
        (label_within mesh labelling good (corner_at f t) (record { face = l; place = m })))
    round_face f t (suc k) l m s b v =
        let ring : List ℕ = face_at mesh f in
        let places : List ℕ = labelling.places in
        let next_t : ℕ = next_corner true (length ring) t in
        let next_in : next_t < length ring = step_within true (length ring) t m in
        let i : ℕ = label_at labelling (corner_at f t) in
        let j : ℕ = label_at labelling (corner_at f next_t) in
        let i_in : i < length places = label_within mesh labelling good (corner_at f t) (record { face = l; place = m }) in
        let j_in : j < length places = label_within mesh labelling good (corner_at f next_t) (record { face = l; place = next_in }) in
        ap (λ x. run_from (spoked mesh labelling next) x (get_or ring next_t 0) (vertices_beyond ring true next_t k))
        (side_forward (corner_at f t) (record { face = l; place = m }) s b v)
        ∙ round_face f next_t k l next_in (pair places next s i j) (pair_belongs places next Belongs IsAtVertex laws s i j b i_in j_in)
        (laws.vertex s i j b v i_in j_in)
        ∙ there places next Belongs IsAtVertex laws s i j
        (label_at labelling (corner_at f (corner_after true (length ring) next_t k))) b i_in j_in

    -- so once round changes nothing
    pub once_round_face : (f : ℕ) → f < length mesh.faces → (s : State) → Belongs s → IsAtVertex s
        → walked (spoked mesh labelling next) s (corners_from (face_at mesh f) true 0 (length (face_at mesh f))) ≡ s
    once_round_face f l s b v =
        let m : ℕ = length (face_at mesh f) in
        let some : 0 < m = omega (arith, (valid.faces f [] l).polygon) in
        let first : ℕ = label_at labelling (corner_at f 0) in
        walked-round (spoked mesh labelling next) s (face_at mesh f) true 0 m ∙ round_face f 0 m l some s b v
        ∙ ap (λ (t : ℕ). pair labelling.places next s first (label_at labelling (corner_at f t))) (once_round true m 0 some)
        ∙ laws.back s first b (label_within mesh labelling good (corner_at f 0) (record { face = l; place = some }))

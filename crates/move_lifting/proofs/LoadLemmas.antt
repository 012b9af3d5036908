-- The load of a walk: for each dart on a cotree edge the number of darts that hang below the edge, and one for each other dart. Where a
-- dart is replaced by the rest of the face below it, the load falls.
use Rattle.move_lifting.proofs.Common.{rotation_system, names_all, darts_of, OrientedMesh, IsOrientedSurface, Rotations, rotations_of, IsRotationSystem, ◌≡◌, ◌≢◌, inl, inr, ℕ, ◌+◌, ◌<◌, ◌≤◌, Bool, true, eqb, refl, ap, sym, ◌∙◌, subst, arith, eqb-true, Some, None, count_below, option_cases, not_itself, SplitView, IsSplit, below_edge, StepsUp}
use Rattle.polygon_cut.proofs.CountLemmas.{count_at_most}
use Rattle.std.specs.Prelude.{Option}
use Rattle.move_lifting.proofs.CountLemmas.{sum_below, sum_same, disjoint_counts, disjoint_counts_less, count_some, count_one}
use Rattle.move_lifting.proofs.FaceTreeLemmas.{below, below_itself, below_higher, below_once, not_above}

-- whether a dart hangs below the edge of a dart; below an edge that is not of the cotree hangs the dart alone
hangs_at : (s : OrientedMesh) (split : SplitView) → IsSplit s split → Option ℕ → ℕ → ℕ → Bool
hangs_at s split t None dart z = eqb z dart
hangs_at s split t (Some c) dart z = below s split t c ((rotations_of s).face z)

-- how many hang below an edge
weight_at : (s : OrientedMesh) (split : SplitView) → IsSplit s split → Option ℕ → ℕ
weight_at s split t None = 1
weight_at s split t (Some c) = count_below (λ z. below s split t c ((rotations_of s).face z)) (darts_of s)

pub weight : (s : OrientedMesh) (split : SplitView) → IsSplit s split → ℕ → ℕ
weight s split t e = weight_at s split t (below_edge split e)

weight_is : (s : OrientedMesh) (split : SplitView) (t : IsSplit s split) (d : ℕ) → d < darts_of s
    → weight s split t ((rotations_of s).edge d) ≡ count_below
    (hangs_at s split t (below_edge split ((rotations_of s).edge d)) d) (darts_of s)
unfolding weight weight_at hangs_at
weight_is s split t d l = by (below_edge split ((rotations_of s).edge d))
  where
    by : (o : Option ℕ) → weight_at s split t o ≡ count_below (hangs_at s split t o d) (darts_of s)
    by None = sym (count_one (darts_of s) d l)
    by (Some c) = refl

pub weight_none : (s : OrientedMesh) (split : SplitView) (t : IsSplit s split) (e : ℕ) → below_edge split e ≡ None → weight s split t e ≡ 1
unfolding weight weight_at
weight_none s split t e is = ap (weight_at s split t) is

weight_some : (s : OrientedMesh) (split : SplitView) (t : IsSplit s split) (e c : ℕ) → below_edge split e ≡ Some c
    → weight s split t e ≡ count_below (λ z. below s split t c ((rotations_of s).face z)) (darts_of s)
unfolding weight weight_at
weight_some s split t e c is = ap (weight_at s split t) is

pub weight_positive : (s : OrientedMesh) (split : SplitView) (t : IsSplit s split) (e : ℕ) → 0 < weight s split t e
weight_positive s split t e = elim (option_cases (below_edge split e)) [
  | inl none ↦ (let one : weight s split t e ≡ 1 = weight_none s split t e none in omega arith)
  | inr some ↦
      let c : ℕ = some.0 in
      let dart = t.child_faces.step e c some.1 in
      let here : below s split t c ((rotations_of s).face dart.0) ≡ true = ap (below s split t c) dart.3 ∙ below_itself s split t c in
      let count : 0 < count_below (λ z. below s split t c ((rotations_of s).face z)) (darts_of s) =
      count_some (λ z. below s split t c ((rotations_of s).face z)) (darts_of s) dart.0 dart.1 here in
      omega (arith, weight_some s split t e c some.1)
]

pub weight_most : (s : OrientedMesh) (split : SplitView) (t : IsSplit s split) (e : ℕ) → 0 < darts_of s → weight s split t e ≤ darts_of s
weight_most s split t e l = elim (option_cases (below_edge split e)) [
  | inl none ↦ (let one : weight s split t e ≡ 1 = weight_none s split t e none in omega arith)
  | inr some ↦ omega (
    arith,
    weight_some s split t e some.0 some.1,
    count_at_most (λ z. below s split t some.0 ((rotations_of s).face z))
        (darts_of s),
  )
]

-- darts of a face, each apart from the others
pub record AreInFace (s : OrientedMesh) (f k : ℕ) (x : ℕ → ℕ) : Type 0 where
  pub within : (j : ℕ) → j < k → x j < darts_of s
  pub inside : (j : ℕ) → j < k → (rotations_of s).face (x j) ≡ f
  pub apart : (i j : ℕ) → i < j → j < k → x i ≢ x j

-- what darts weigh is what hangs below their edges
counted : (s : OrientedMesh) (split : SplitView) (t : IsSplit s split) (k : ℕ) (x : ℕ → ℕ) → ((j : ℕ) → j < k → x j < darts_of s)
    → sum_below (λ j. weight s split t ((rotations_of s).edge (x j))) k
    ≡ sum_below
    (λ j. count_below (hangs_at s split t (below_edge split ((rotations_of s).edge (x j))) (x j)) (darts_of s)) k
counted s split t k x within = grind (arith, sum_same, weight, hangs_at, weight_is)

-- darts of a face f besides the one on the edge above f
pub record AreBeside (s : OrientedMesh) (f h k : ℕ) (x : ℕ → ℕ) : Type 0 where
  pub within : (j : ℕ) → j < k → x j < darts_of s
  pub inside : (j : ℕ) → j < k → (rotations_of s).face (x j) ≡ f
  pub beside : (j : ℕ) → j < k → x j ≢ h
  pub apart : (i j : ℕ) → i < j → j < k → x i ≢ x j

module _ {s : OrientedMesh} {split : SplitView} (o : IsOrientedSurface s) (t : IsSplit s split) where
  -- the face below the edge of a dart of f, which is not the face f itself, steps up to f
  steps_up : (x c f : ℕ) → x < darts_of s → (rotations_of s).face x ≡ f
      → below_edge split ((rotations_of s).edge x) ≡ Some c → c ≢ f → StepsUp (rotations_of s) split c f
  steps_up x c f l in_f is other =
      let maps : Rotations = rotations_of s in
      let r : IsRotationSystem maps = rotation_system s o in
      let dart = t.child_faces.step (maps.edge x) c is in
      elim ((r.edges x dart.0 l dart.1).0 (sym dart.2)) [
        | inl same ↦ absurd (other (sym dart.3 ∙ ap maps.face same ∙ in_f))
        | inr turned ↦
            let back : maps.face (maps.twin dart.0) ≡ f = ap (λ (d : ℕ). maps.face (maps.twin d)) turned ∙ ap maps.face (r.twin_back x l)
            ∙ in_f in
            (dart.0, record { within = dart.1; below = ap (below_edge split) dart.2 ∙ is; inside = dart.3; leads = back })
      ]

  -- two darts of a face on one edge with the face f below it are one dart
  one_below : (x h f : ℕ) → x < darts_of s → h < darts_of s
      → (rotations_of s).face x ≡ f → (rotations_of s).face h ≡ f → below_edge split ((rotations_of s).edge h) ≡ Some f
      → (rotations_of s).edge x ≡ (rotations_of s).edge h → x ≡ h
  one_below x h f l k in_f h_in is same =
      let maps : Rotations = rotations_of s in
      let r : IsRotationSystem maps = rotation_system s o in
      elim ((r.edges h x k l).0 (sym same)) [
        | inl one ↦ one
        | inr turned ↦
            let step : StepsUp maps split f f =
            (h, record { within = k; below = is; inside = h_in; leads = ap maps.face (sym turned) ∙ in_f }) in
            absurd (not_itself s split o t f step)
      ]

  -- where the faces below their edges step up to the face, nothing hangs below two of them
  hang_apart : (f k : ℕ) (x : ℕ → ℕ) → AreInFace s f k x
      → ((j c : ℕ) → j < k → below_edge split ((rotations_of s).edge (x j)) ≡ Some c → StepsUp (rotations_of s) split c f)
      → (i j z : ℕ) → i < j → j < k → z < darts_of s → hangs_at s split t (below_edge split ((rotations_of s).edge (x i))) (x i) z ≡ true
      → hangs_at s split t (below_edge split ((rotations_of s).edge (x j))) (x j) z ≡ true → ⊥
  unfolding hangs_at
  hang_apart f k x are up i j z i_j m z_in = by (below_edge split ((rotations_of s).edge (x i)))
      (below_edge split ((rotations_of s).edge (x j))) refl refl
    where
      m_i : i < k
      m_i = omega arith

      -- a dart of the face f hangs below no face under f
      not_lower : (i j c z : ℕ) → i < k → j < k → below_edge split ((rotations_of s).edge (x j)) ≡ Some c → z ≡ x i
          → below s split t c ((rotations_of s).face z) ≡ true → ⊥
      not_lower i j c z m_i m_j below_x same hit =
          not_above o t c f (up j c m_j below_x)
          (ap (below s split t c) (sym (ap (rotations_of s).face same ∙ are.inside i m_i)) ∙ hit)

      by : (c d : Option ℕ) → below_edge split ((rotations_of s).edge (x i)) ≡ c → below_edge split ((rotations_of s).edge (x j)) ≡ d
          → hangs_at s split t c (x i) z ≡ true → hangs_at s split t d (x j) z ≡ true → ⊥
      by None None _ _ a b = are.apart i j i_j m (sym (eqb-true z (x i) a) ∙ eqb-true z (x j) b)
      by None (Some d) _ below_j a b = not_lower i j d z m_i m below_j (eqb-true z (x i) a) b
      by (Some c) None below_i _ a b = not_lower j i c z m m_i below_i (eqb-true z (x j) b) a
      by (Some c) (Some d) below_i below_j a b =
          let same : c ≡ d =
          below_once o t c d f ((rotations_of s).face z) (up i c m_i below_i) (up j d m below_j)
          ((names_all s o).face_below z z_in) a b in
          let edges : (rotations_of s).edge (x i) ≡ (rotations_of s).edge (x j) =
          t.child_faces.once ((rotations_of s).edge (x i)) ((rotations_of s).edge (x j)) d (below_i ∙ ap Some same) below_j in
          elim (((rotation_system s o).edges (x i) (x j) (are.within i m_i) (are.within j m)).0 edges) [
            | inl one ↦ are.apart i j i_j m (sym one)
            | inr turned ↦
                let dart = t.child_faces.step ((rotations_of s).edge (x i)) c below_i in
                let c_is_f : c ≡ f = elim (((rotation_system s o).edges (x i) dart.0 (are.within i m_i) dart.1).0 (sym dart.2)) [
                  | inl here ↦ sym dart.3 ∙ ap (rotations_of s).face here ∙ are.inside i m_i
                  | inr there ↦ sym dart.3 ∙ ap (rotations_of s).face (there ∙ sym turned) ∙ are.inside j m
                ] in
                not_itself s split o t f (subst (λ (y : ℕ). StepsUp (rotations_of s) split y f) c_is_f (up i c m_i below_i))
          ]

  -- darts of the root face weigh no more together than there are darts
  pub root_weights : (f k : ℕ) (x : ℕ → ℕ)
      → f ≡ split.root_face → AreInFace s f k x → sum_below (λ j. weight s split t ((rotations_of s).edge (x j))) k ≤ darts_of s
  root_weights f k x root are =
      let n : ℕ = darts_of s in
      let maps : Rotations = rotations_of s in
      let p : ℕ → ℕ → Bool = λ j. hangs_at s split t (below_edge split (maps.edge (x j))) (x j) in
      let up : (j c : ℕ) → j < k → below_edge split (maps.edge (x j)) ≡ Some c → StepsUp (rotations_of s) split c f =
      λ j c m below_x. steps_up (x j) c f (are.within j m) (are.inside j m) below_x
      (λ same. t.child_faces.not_root (maps.edge (x j)) (below_x ∙ ap Some (same ∙ root))) in
      let most : sum_below (λ j. count_below (p j) n) k ≤ count_below (λ z. true) n =
      disjoint_counts p (λ z. true) k n (λ j z m z_in hit. refl)
      (λ i j z i_j m z_in. hang_apart f k x are up i j z i_j m z_in) in
      omega (arith, counted s split t k x are.within, most, count_at_most (λ z. true) n)

  -- together they weigh less than the edge above the face
  pub weights_fall : (f h k : ℕ) (x : ℕ → ℕ) → h < darts_of s
      → (rotations_of s).face h ≡ f → below_edge split ((rotations_of s).edge h) ≡ Some f → AreBeside s f h k x
      → sum_below (λ j. weight s split t ((rotations_of s).edge (x j))) k + 1 ≤ weight s split t ((rotations_of s).edge h)
  unfolding hangs_at
  weights_fall f h k x l h_in is are =
      let n : ℕ = darts_of s in
      let maps : Rotations = rotations_of s in
      let q : ℕ → Bool = λ z. below s split t f (maps.face z) in
      let p : ℕ → ℕ → Bool = λ j. hangs_at s split t (below_edge split (maps.edge (x j))) (x j) in
      let h_passes : q h ≡ true = ap (below s split t f) h_in ∙ below_itself s split t f in
      let less : sum_below (λ j. count_below (p j) n) k + 1 ≤ count_below q n =
      disjoint_counts_less p q k n h l h_passes (λ j z m z_in. inside j z m z_in) (λ j m. left_out j m)
      (λ i j z i_j m z_in. apart i j z i_j m z_in) in
      omega (arith, counted s split t k x are.within, less, weight_some s split t (maps.edge h) f is)
    where
      maps : Rotations
      maps = rotations_of s

      up : (j c : ℕ) → j < k → below_edge split ((rotations_of s).edge (x j)) ≡ Some c → StepsUp (rotations_of s) split c f
      up j c m below_x =
          steps_up (x j) c f (are.within j m) (are.inside j m) below_x
          (λ same. are.beside j m (one_below (x j) h f (are.within j m) l (are.inside j m) h_in is
          (t.child_faces.once ((rotations_of s).edge (x j)) ((rotations_of s).edge h) f (below_x ∙ ap Some same) is)))

      inside : (j z : ℕ) → j < k → z < darts_of s → hangs_at s split t (below_edge split ((rotations_of s).edge (x j))) (x j)
          z ≡ true
          → below s split t f ((rotations_of s).face z) ≡ true
      inside j z m z_in = by (below_edge split ((rotations_of s).edge (x j))) refl
        where
          by : (c : Option ℕ) → below_edge split ((rotations_of s).edge (x j)) ≡ c → hangs_at s split t c (x j) z ≡ true
              → below s split t f ((rotations_of s).face z) ≡ true
          by None _ hit = ap (λ (d : ℕ). below s split t f ((rotations_of s).face d)) (eqb-true z (x j) hit)
              ∙ ap (below s split t f) (are.inside j m) ∙ below_itself s split t f
          by (Some c) below_x hit = below_higher o t c f ((rotations_of s).face z) (up j c m below_x)
              ((names_all s o).face_below z z_in) hit

      left_out : (j : ℕ) → j < k → hangs_at s split t (below_edge split ((rotations_of s).edge (x j))) (x j) h ≡ true → ⊥
      left_out j m = by (below_edge split ((rotations_of s).edge (x j))) refl
        where
          by : (c : Option ℕ) → below_edge split ((rotations_of s).edge (x j)) ≡ c → hangs_at s split t c (x j) h ≡ true → ⊥
          by None _ hit = are.beside j m (sym (eqb-true h (x j) hit))
          by (Some c) below_x hit = not_above o t c f (up j c m below_x) (ap (below s split t c) (sym h_in) ∙ hit)

      apart : (i j z : ℕ) → i < j → j < k → z < darts_of s
          → hangs_at s split t (below_edge split ((rotations_of s).edge (x i))) (x i) z ≡ true
          → hangs_at s split t (below_edge split ((rotations_of s).edge (x j))) (x j) z ≡ true → ⊥
      apart =
          hang_apart f k x (record { within = are.within; inside = are.inside; apart = are.apart })
          (λ j c m below_x. up j c m below_x)

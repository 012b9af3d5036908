-- Ways up in a tree over the faces.
use Rattle.homology_deciding.proofs.Common.{rotation_system, darts_of, face_of, origin_of, twin_of, OrientedMesh, rotations_of, IsRotationSystem, size-share, share, face_across, IsUp, IsTreeOfFaces, IsWayUp, dart_share, way_share, ◌≡◌, ◌⊎◌, inl, inr, ℕ, ◌+◌, ◌<◌, ◌≤◌, List, [], ◌∷◌, ◌++◌, length, refl, ap, sym, ◌∙◌, subst, arith, ℤ, pos, ◌+ℤ◌, cases_Bool, nat_tests, ints, unsigned_abs, nat_eq, ◌&&◌, DartName, SplitView}

module _ (s : OrientedMesh) (split : SplitView) (h : IsTreeOfFaces s split) where
  abbrev r : IsRotationSystem (rotations_of s)
  r = rotation_system s h.valid

  pub way_rank : (f : ℕ) (way : List DartName) (g : ℕ) → IsWayUp s split f way g → h.rank f ≡ length way + h.rank g
  way_rank f [] g w = let same : h.rank f ≡ h.rank g = ap h.rank w in omega (arith, same)
  way_rank f (dart ∷ way) g w =
      let more = way_rank (face_across s dart.0) way g w.1 in
      omega (arith, more, h.rises f dart w.0)

  -- one dart more at the upper end
  pub way_push : (f : ℕ) (way : List DartName) (g : ℕ) (dart : DartName) → IsWayUp s split f way g → IsUp s split g dart
      → IsWayUp s split f (way ++ dart ∷ []) (face_across s dart.0)
  way_push f [] g dart w up = (subst (λ (x : ℕ). IsUp s split x dart) (sym w) up, refl)
  way_push f (first ∷ way) g dart w up = (w.0, way_push (face_across s first.0) way g dart w.1 up)

  -- the dart at the upper end taken off
  pub record IsTop (f : ℕ) (way : List DartName) (g : ℕ) (dart : DartName) : Type 0 where
    pub below : IsWayUp s split f way (face_of s dart.0)
    pub up : IsUp s split (face_of s dart.0) dart
    pub leads : face_across s dart.0 ≡ g

  pub way_pop : (f : ℕ) (way : List DartName) (g : ℕ) (dart : DartName) → IsWayUp s split f (way ++ dart ∷ []) g → IsTop f way g dart
  way_pop f [] g dart w =
      let here : face_of s dart.0 ≡ f = w.0.inside in
      record { below = sym here; up = subst (λ (x : ℕ). IsUp s split x dart) (sym here) w.0; leads = w.1 }
  way_pop f (first ∷ way) g dart w =
      let more : IsTop (face_across s first.0) way g dart = way_pop (face_across s first.0) way g dart w.1 in
      record { below = (w.0, more.below); up = more.up; leads = more.leads }

  -- one way leads to the root
  pub one_way : (f : ℕ) (way other : List DartName) → IsWayUp s split f way split.root_face → IsWayUp s split f other split.root_face
      → way ≡ other
  one_way f [] [] v w = refl
  one_way f [] (dart ∷ other) v w = absurd (h.none dart (subst (λ (x : ℕ). IsUp s split x dart) v w.0))
  one_way f (dart ∷ way) [] v w = absurd (h.none dart (subst (λ (x : ℕ). IsUp s split x dart) w v.0))
  one_way f (dart ∷ way) (next ∷ other) v w =
      let darts : dart ≡ next = h.one f dart next v.0 w.0 in
      let rest : way ≡ other =
      one_way (face_across s dart.0) way other v.1
      (subst (λ (d : DartName). IsWayUp s split (face_across s d.0) other split.root_face) (sym darts) w.1) in
      cc

  -- ---- a way crosses each edge once at most

  -- the dart joins the two vertices
  abbrev Joins : ℕ → ℕ → ℕ → Type 0
  Joins d u v =
      ((origin_of s d ≡ u) × (origin_of s (twin_of s d) ≡ v)) ⊎ ((origin_of s d ≡ v) × (origin_of s (twin_of s d) ≡ u))

  joins_or_nothing : (amount : ℤ) (d u v : ℕ) → Joins d u v ⊎ (dart_share s amount d u v ≡ pos 0)
  joins_or_nothing amount d u v = by_tests (origin_of s d) (origin_of s (twin_of s d))
    where
      by_tests : (a b : ℕ) → (((a ≡ u) × (b ≡ v)) ⊎ ((a ≡ v) × (b ≡ u))) ⊎ (share amount a b u v ≡ pos 0)
      by_tests a b = elim (cases_Bool (nat_eq u a && nat_eq v b)) [
        | inl along_it ↦ inl (inl (grind (arith, nat_tests), grind (arith, nat_tests)))
        | inr off ↦ elim (cases_Bool (nat_eq u b && nat_eq v a)) [
          | inl against ↦ inl (inr (grind (arith, nat_tests), grind (arith, nat_tests)))
          | inr neither ↦ inr (rw (off, neither) refl)
        ]
      ]

  -- two darts that join the same two vertices are one, or twins
  same_edge : (d e u v : ℕ) → d < darts_of s → e < darts_of s → Joins d u v → Joins e u v → (e ≡ d) ⊎ (e ≡ twin_of s d)
  same_edge d e u v l k (inl p) (inl q) = inl (sym (r.one_dart d e l k (p.0 ∙ sym q.0) (p.1 ∙ sym q.1)))
  same_edge d e u v l k (inr p) (inr q) = inl (sym (r.one_dart d e l k (p.0 ∙ sym q.0) (p.1 ∙ sym q.1)))
  same_edge d e u v l k (inl p) (inr q) = inr (sym
      (r.one_dart (twin_of s d) e (r.twin_within d l) k (p.1 ∙ sym q.0) (ap (origin_of s) (r.twin_back d l) ∙ p.0 ∙ sym q.1)))
  same_edge d e u v l k (inr p) (inl q) = inr (sym
      (r.one_dart (twin_of s d) e (r.twin_within d l) k (p.1 ∙ sym q.0) (ap (origin_of s) (r.twin_back d l) ∙ p.0 ∙ sym q.1)))

  -- a way above a dart that joins them does not
  above_off : (amount : ℤ) (f : ℕ) (dart : DartName) (g : ℕ) (way : List DartName) (top u v : ℕ) → IsUp s split f dart
      → Joins dart.0 u v → IsWayUp s split g way top → h.rank g < h.rank f → way_share s amount way u v ≡ pos 0
  above_off amount f dart g [] top u v up joins w less = refl
  above_off amount f dart g (next ∷ way) top u v up joins w less =
      let more : way_share s amount way u v ≡ pos 0 =
      above_off amount f dart (face_across s next.0) way top u v up joins w.1 (omega (arith, less, h.rises g next w.0)) in
      elim (joins_or_nothing amount next.0 u v) [
        | inr nothing ↦ omega (arith, ints, nothing, more)
        | inl also ↦
            elim (same_edge dart.0 next.0 u v up.within w.0.within joins also) [
              | inl same ↦
                  let one_face : f ≡ g = sym up.inside ∙ ap (face_of s) (sym same) ∙ w.0.inside in
                  absurd (omega (arith, less, ap h.rank one_face))
              | inr twin ↦
                  let lower : face_across s next.0 ≡ f =
                  ap (λ x. face_of s (twin_of s x)) twin ∙ ap (face_of s) (r.twin_back dart.0 up.within)
                  ∙ up.inside in
                  absurd (omega (
                    arith,
                    less,
                    h.rises g next w.0,
                    ap h.rank lower,
                  ))
            ]
      ]

  pub way_small : (amount : ℤ) (f : ℕ) (way : List DartName) (g u v : ℕ) → unsigned_abs amount ≤ 1 → IsWayUp s split f way g
      → unsigned_abs (way_share s amount way u v) ≤ 1
  way_small amount f [] g u v one w = omega arith
  way_small amount f (dart ∷ way) g u v one w = elim (joins_or_nothing amount dart.0 u v) [
    | inr nothing ↦
        let more = way_small amount (face_across s dart.0) way g u v one w.1 in
        let same : dart_share s amount dart.0 u v +ℤ way_share s amount way u v ≡ way_share s amount way u v =
        omega (arith, ints, nothing) in
        subst (λ z. unsigned_abs z ≤ 1) (sym same) more
    | inl joins ↦
        let rest = above_off amount f dart (face_across s dart.0) way g u v w.0 joins w.1 (omega (arith, h.rises f dart w.0)) in
        let same : dart_share s amount dart.0 u v +ℤ way_share s amount way u v ≡ dart_share s amount dart.0 u v =
        omega (arith, ints, rest) in
        let small = size-share amount (origin_of s dart.0) (origin_of s (twin_of s dart.0)) u v in
        subst (λ z. unsigned_abs z ≤ 1) (sym same) (omega (arith, small, one))
  ]

-- what a longer way gives
pub way_share-push : (s : OrientedMesh) (amount : ℤ) (way : List DartName) (dart : DartName) (u v : ℕ)
    → way_share s amount (way ++ dart ∷ []) u v ≡ way_share s amount way u v +ℤ dart_share s amount dart.0 u v
way_share-push s amount [] dart u v = omega (arith, ints)
way_share-push s amount (first ∷ way) dart u v =
    let more = way_share-push s amount way dart u v in
    omega (arith, ints, more)

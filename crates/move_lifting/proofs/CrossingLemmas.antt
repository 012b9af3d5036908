-- The step across the face below a cotree edge, and the vertices of the rest of the face.
use Rattle.move_lifting.proofs.Common.{corner_back, face_at_number, vertex_at, IsNumberOf, rotation_system, names_all, origin-twin, darts_of, twin_of, origin_of, target_of, edge_of, face_of, OrientedMesh, IsOrientedSurface, rotations_of, IsRotationSystem, IsDartFrom, beyond, GoesAlong, IsOneIn, IsFaceBelow, FaceStep, ◌≡◌, ◌⊎◌, inl, inr, ℕ, zero, suc, ◌+◌, ◌-◌, ◌<◌, Bool, true, false, List, [], ◌∷◌, ◌++◌, length, get_or, refl, ap, sym, ◌∙◌, subst, arith, append_assoc, common_steps, map-append, Some, None, step_within, corner_after, corners_before, IsSide, side_number, FaceList, face_at, next_corner, numbers, Side, VertexName, SplitView, IsSplit, below_edge, in_cotree, after_more}
use Rattle.surf_model.proofs.PartnerLemmas.{ends_agree}
use Rattle.move_lifting.proofs.RestLemmas.{side_ends}

-- one corner more before the last
pub before-suc : (ring : List ℕ) (rising : Bool) (t k : ℕ)
    → corners_before ring rising t (suc k) ≡ corners_before ring rising t k ++ get_or ring (corner_after rising (length ring) t k) 0 ∷ []
before-suc ring rising t zero = refl
before-suc ring rising t (suc k) = ap (λ (l : List ℕ). get_or ring t 0 ∷ l) (before-suc ring rising (next_corner rising (length ring) t) k)

-- the ends of a dart that is chosen so
ends_of_chosen : (s : OrientedMesh) → IsOrientedSurface s → (u v d face x : ℕ) → IsDartFrom (rotations_of s) u v d → IsOneIn s d face x
    → ((origin_of s x ≡ u) × (target_of s x ≡ v)) ⊎ ((origin_of s x ≡ v) × (target_of s x ≡ u))
ends_of_chosen s o u v d face x from one = elim one.either [
  | inl own ↦ inl (
    ap (origin_of s) own.1 ∙ from.starts,
    ap (target_of s) own.1 ∙ sym (origin-twin s o d from.within) ∙ from.ends,
  )
  | inr other ↦
      let r : IsRotationSystem (rotations_of s) = rotation_system s o in
      inr (
        ap (origin_of s) other.1 ∙ from.ends,
        ap (target_of s) other.1 ∙ sym (origin-twin s o (twin_of s d) (r.twin_within d from.within))
            ∙ ap (origin_of s) (r.twin_back d from.within)
            ∙ from.starts,
      )
]

-- the step goes from u to v in the face f
record IsPlaced (s : OrientedMesh) (u v f : ℕ) (step : FaceStep) : Type 0 where
  corner : step.corner < length (face_at s.mesh f)
  starts : vertex_at s f step.corner ≡ u
  ends : vertex_at s f (next_corner step.forward (length (face_at s.mesh f)) step.corner) ≡ v

-- one vertex more of the rest
pub rest_more : (old new : List VertexName) (v : VertexName) (start ring : List ℕ) (rising : Bool) (t k c : ℕ) → new ≡ old ++ v ∷ []
    → numbers old ≡ start ++ corners_before ring rising (next_corner rising (length ring) t) k
    → c ≡ corner_after rising (length ring) t (k + 1)
    → v.0 ≡ get_or ring c 0 → numbers new ≡ start ++ corners_before ring rising (next_corner rising (length ring) t) (k + 1)
rest_more old new v start ring rising t k c pushed before at read =
    let next : ℕ = next_corner rising (length ring) t in
    let one : k + 1 ≡ suc k = omega arith in
    let vertex : v.0 ≡ get_or ring (corner_after rising (length ring) next k) 0 =
    read ∙ ap (λ (x : ℕ). get_or ring x 0) (at ∙ ap (corner_after rising (length ring) t) one) in
    ap numbers pushed ∙ map-append (λ (x : VertexName). x.0) old (v ∷ []) ∙ ap (λ (l : List ℕ). l ++ v.0 ∷ []) before
    ∙ append_assoc start (corners_before ring rising next k) (v.0 ∷ [])
    ∙ ap (λ (l : List ℕ). start ++ l)
    (ap (λ (x : ℕ). corners_before ring rising next k ++ x ∷ []) vertex ∙ sym (before-suc ring rising next k)
    ∙ ap (corners_before ring rising next) (sym one))

pub corner_more : (rising : Bool) (m t k c : ℕ) → c ≡ corner_after rising m t k → next_corner rising m c ≡ corner_after rising m t (k + 1)
corner_more rising m t k c is = grind (arith, after_more)

-- how many vertices come
length-before : (ring : List ℕ) (rising : Bool) (t k : ℕ) → length (corners_before ring rising t k) ≡ k
length-before ring rising t zero = refl
length-before ring rising t (suc k) = ap suc (length-before ring rising (next_corner rising (length ring) t) k)

pub come_long : (mesh : FaceList) (step : FaceStep) (old new : List VertexName) → numbers new ≡ numbers old ++ beyond mesh step
    → length new ≡ length old + (length (face_at mesh step.face.0) - 1)
come_long mesh step old new is = grind (arith, common_steps, length-before)

module _ {s : OrientedMesh} {split : SplitView} (o : IsOrientedSurface s) (t : IsSplit s split) where
  -- the one of the two darts lies in the face below their edge
  chosen_in : (d face x : ℕ) → d < darts_of s → below_edge split (edge_of s d) ≡ Some face → IsOneIn s d face x → face_of s x ≡ face
  chosen_in d face x l is one = elim one.either [
    | inl own ↦ ap (face_of s) own.1 ∙ own.0
    | inr other ↦
        let dart = t.child_faces.step (edge_of s d) face is in
        elim (((rotation_system s o).edges d dart.0 l dart.1).0 (sym dart.2)) [
          | inl same ↦ absurd (other.0 (sym (ap (face_of s) same) ∙ dart.3))
          | inr turned ↦ ap (face_of s) (other.1 ∙ sym turned) ∙ dart.3
        ]
  ]

  pub below_step : (u v d face x : ℕ) (side : Side) (step : FaceStep)
      → IsDartFrom (rotations_of s) u v d → below_edge split (edge_of s d) ≡ Some face → IsOneIn s d face x → IsSide s.mesh side
      → side_number s.mesh side ≡ x → GoesAlong s.mesh side u step → IsFaceBelow s split u v step
  below_step u v d face x side step from is one in_mesh number along =
      let f : ℕ = side.face.0 in
      let m : ℕ = length (face_at s.mesh f) in
      let a : ℕ = vertex_at s f side.at in
      let b : ℕ = vertex_at s f (next_corner true m side.at) in
      let n : IsNumberOf s.mesh f side.at x = record { face = in_mesh.face; place = in_mesh.place; is = number } in
      let face_is : face ≡ f = sym (chosen_in d face x from.within is one) ∙ face_at_number s f side.at x n in
      let ends : ((a ≡ u) × (b ≡ v)) ⊎ ((a ≡ v) × (b ≡ u)) =
      ends_agree (origin_of s x) (target_of s x) a b u v (ends_of_chosen s o u v d face x from one) (side_ends s f side.at x n).ends in
      let step_face : f ≡ step.face.0 = ap (λ y. y.0) (sym along.face) in
      let below : below_edge split (edge_of s d) ≡ Some step.face.0 = is ∙ ap Some (face_is ∙ step_face) in
      let placed : IsPlaced s u v f step = elim along.way [
        | inl on ↦
            let end : b ≡ v = elim ends [ inl straight ↦ straight.1 | inr crossed ↦ crossed.1 ∙ sym on.0 ∙ crossed.0 ] in
            record {
              corner = subst (λ (c : ℕ). c < m) (sym on.1) in_mesh.place;
              starts = ap (vertex_at s f) on.1 ∙ on.0;
              ends = ap (λ (r : Bool). vertex_at s f (next_corner r m step.corner)) on.2
                  ∙ ap (λ (c : ℕ). vertex_at s f (next_corner true m c)) on.1 ∙ end;
            }
        | inr back ↦
            let crossed : (a ≡ v) × (b ≡ u) = elim ends [ inl straight ↦ absurd (back.0 straight.0) | inr two ↦ two ] in
            record {
              corner = subst (λ (c : ℕ). c < m) (sym back.1) (step_within true m side.at in_mesh.place);
              starts = ap (vertex_at s f) back.1 ∙ crossed.1;
              ends = ap (λ (r : Bool). vertex_at s f (next_corner r m step.corner)) back.2
                  ∙ ap (λ (c : ℕ). vertex_at s f (next_corner false m c)) back.1
                  ∙ ap (vertex_at s f) (corner_back true m side.at in_mesh.place) ∙ crossed.0;
            }
      ] in
      let there : IsPlaced s u v step.face.0 step = subst (λ (g : ℕ). IsPlaced s u v g step) step_face placed in
      record {
        dart = d;
        from = from;
        below = below;
        is_step = record { face = subst (λ (g : ℕ). g < length s.mesh.faces) step_face in_mesh.face; corner = there.corner };
        starts = there.starts;
        ends = there.ends;
      }

  -- where no face lies below the edge, no dart from u to v is on the cotree
  pub not_below : (u v d x : ℕ) → IsDartFrom (rotations_of s) u v d
      → below_edge split (edge_of s d) ≡ None → IsDartFrom (rotations_of s) u v x → in_cotree split (edge_of s x) ≡ false
  not_below u v d x from none other =
      let same : d ≡ x = (rotation_system s o).one_dart d x from.within other.within (from.starts ∙ sym other.starts)
      (from.ends ∙ sym other.ends) in
      subst (λ (y : ℕ). in_cotree split (edge_of s y) ≡ false) same
      ((t.child_faces.none (edge_of s d) ((names_all s o).edge_below d from.within)).0 none)

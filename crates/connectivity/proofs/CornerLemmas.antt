-- Corners at a vertex, and steps round it.
use Rattle.connectivity.proofs.Common.{AreCornersAcross, IsCornerStep, AreRings, ◌≡◌, ◌⊎◌, refl, inl, inr, ℕ, ◌<◌, true, eqb, List, [], ◌∷◌, length, get_or, ap, sym, ◌∙◌, subst, arith, eq-eqb, eqb-true, get_or_default, list_any_at, Any-from_list_any, list_any, Contains, ends_differ, face_side, length-all_sides, IsWholeSide, whole_side, face_side_in, next_within, IsSide, side_number, side_after, tail_of, head_of, side_name, FaceList, FaceSide, IsFaceList, face_at, all_sides, total_sides, is_used, IsPath, AreJoined, ArePartners, IsCornerAt, IsCornerOfSide, IsStepAround, HasOneRing, Side}
use Rattle.connectivity.proofs.Joining.{joined_keep}

pub after_in_mesh : (mesh : FaceList) (side : Side) → IsSide mesh side → IsSide mesh (side_after mesh side)
after_in_mesh mesh side h = record { face = h.face; place = next_within (length (face_at mesh side.face.0)) side.at h.place }

-- where a side stands among all sides
record HasPlace (mesh : FaceList) (side : Side) : Type 0 where
  pub place : ℕ
  pub within : place < total_sides mesh
  pub number : side_number mesh side ≡ place
  pub there : get_or (all_sides mesh) place (face_side side.face.0 (face_at mesh side.face.0) side.at) ≡ face_side side.face.0
      (face_at mesh side.face.0) side.at

side_place : {mesh : FaceList} {side : Side} → IsSide mesh side → HasPlace mesh side
side_place {mesh} {side} h =
    let whole : FaceSide = face_side side.face.0 (face_at mesh side.face.0) side.at in
    let found : Contains (all_sides mesh) whole = face_side_in mesh side.face.0 side.at h.face h.place in
    let is : IsWholeSide mesh found.0 whole = subst (IsWholeSide mesh found.0) found.2 (whole_side mesh found.0 whole found.1) in
    record { place = found.0; within = omega (arith, found.1, length-all_sides mesh); number = is.number; there = found.2 }

pub number_below : (mesh : FaceList) (side : Side) → IsSide mesh side → side_number mesh side < total_sides mesh
number_below mesh side h = let at : HasPlace mesh side = side_place h in omega (arith, at.within, at.number)

-- sides of one number are one
pub number_once : (mesh : FaceList) (side other : Side) → IsSide mesh side → IsSide mesh other
    → side_number mesh side ≡ side_number mesh other → side ≡ other
number_once mesh side other h k same =
    let at : HasPlace mesh side = side_place h in
    let to : HasPlace mesh other = side_place k in
    let first : FaceSide = face_side side.face.0 (face_at mesh side.face.0) side.at in
    let second : FaceSide = face_side other.face.0 (face_at mesh other.face.0) other.at in
    let place : at.place ≡ to.place = sym at.number ∙ same ∙ to.number in
    let whole : first ≡ second =
    sym at.there ∙ get_or_default (all_sides mesh) at.place first second (omega (arith, at.within, length-all_sides mesh))
    ∙ ap (λ n. get_or (all_sides mesh) n second) place ∙ to.there in
    ap side_name whole

-- the corner of a side at a vertex is there
pub corner_vertex : (mesh : FaceList) (v : ℕ) (side corner : Side) → IsCornerOfSide mesh v side corner → tail_of mesh corner ≡ v
corner_vertex mesh v side corner h =
    elim h [
      | inl e ↦ ap (tail_of mesh) e.1 ∙ e.0
      | inr e ↦ ap (tail_of mesh) e.1 ∙ e.0
    ]

pub corner_in_mesh : (mesh : FaceList) (v : ℕ) (side corner : Side) → IsSide mesh side → IsCornerOfSide mesh v side corner
    → IsSide mesh corner
corner_in_mesh mesh v side corner is h =
    elim h [
      | inl e ↦ subst (IsSide mesh) (sym e.1) is
      | inr e ↦ subst (IsSide mesh) (sym e.1) (after_in_mesh mesh side is)
    ]

-- a side has one corner at a vertex
pub one_corner : {mesh : FaceList} (v : ℕ) {side : Side} (corner other : Side) → IsFaceList mesh → IsSide mesh side
    → IsCornerOfSide mesh v side corner → IsCornerOfSide mesh v side other
    → corner ≡ other
one_corner {mesh} v {side} corner other valid is h k =
    elim h [
      | inl e ↦ elim k [
        | inl f ↦ e.1 ∙ sym f.1
        | inr f ↦ absurd (ends_differ mesh side valid is (e.0 ∙ sym f.0))
      ]
      | inr e ↦ elim k [
        | inl f ↦ absurd (ends_differ mesh side valid is (f.0 ∙ sym e.0))
        | inr f ↦ e.1 ∙ sym f.1
      ]
    ]

pub partners_swap : (mesh : FaceList) (side other : Side) → ArePartners mesh side other → ArePartners mesh other side
partners_swap mesh side other h = record {
  first = h.second;
  second = h.first;
  different = λ same. h.different (sym same);
  one_edge = elim h.one_edge [ inl e ↦ inl (sym e.0, sym e.1) | inr e ↦ inr (sym e.1, sym e.0) ];
}

pub corner_end : (mesh : FaceList) (v : ℕ) (side corner : Side) → IsCornerOfSide mesh v side corner → (tail_of mesh side ≡ v)
    ⊎ (head_of mesh side ≡ v)
corner_end mesh v side corner h = elim h [ inl e ↦ inl e.0 | inr e ↦ inr e.0 ]

-- two sides of one edge have corners across
pub corners_there : (mesh : FaceList) (side partner : Side) → ArePartners mesh side partner
    → (first : Side) × (last : Side) × AreCornersAcross mesh side partner first last
corners_there mesh side partner partners =
    elim partners.one_edge [
      | inl e ↦ (partner, side_after mesh partner, record { at_start = inl (sym e.0, refl); at_end = inr (sym e.1, refl) })
      | inr e ↦ (side_after mesh partner, partner, record { at_start = inr (sym e.0, refl); at_end = inl (sym e.1, refl) })
    ]

-- what holds of the two corners at either end of an edge holds of any two corners of its sides at one vertex
pub each_across : (mesh : FaceList) (side partner first last : Side) → IsFaceList mesh → ArePartners mesh side partner
    → AreCornersAcross mesh side partner first last → (P : Side → Side → Type 0) → P side first → P (side_after mesh side) last
    → (v : ℕ) (corner other : Side) → IsCornerOfSide mesh v side corner → IsCornerOfSide mesh v partner other → P corner other
each_across mesh side partner first last valid partners h P start end v corner other from to =
    let same : (u : ℕ) (c : Side) → u ≡ v → IsCornerOfSide mesh u partner c → c ≡ other =
    λ u c at is. one_corner v c other valid partners.second (subst (λ w. IsCornerOfSide mesh w partner c) at is) to in
    elim from [
      | inl e ↦ subst (λ s. P s other) (sym e.1) (subst (P side) (same (tail_of mesh side) first e.0 h.at_start) start)
      | inr e ↦ subst (λ s. P s other) (sym e.1) (subst (P (side_after mesh side)) (same (head_of mesh side) last e.0 h.at_end) end)
    ]

-- the step across the edge of two partners
pub step_across : (mesh : FaceList) (v : ℕ) (side partner corner other : Side) → ArePartners mesh side partner
    → IsCornerOfSide mesh v side corner → IsCornerOfSide mesh v partner other
    → IsCornerStep mesh corner other
step_across mesh v side partner corner other h from to =
    subst (λ w. IsStepAround mesh w corner other) (sym (corner_vertex mesh v side corner from))
    (record { side = side; partner = partner; partners = h; from = from; to = to })

-- steps from corner to corner stay at the vertex
path_around : (mesh : FaceList) (v : ℕ) (corner : Side) (path : List Side) (other : Side) → tail_of mesh corner ≡ v
    → IsPath (IsCornerStep mesh) corner path other
    → IsPath (IsStepAround mesh v) corner path other
path_around mesh v corner [] other at p = p
path_around mesh v corner (next ∷ path) other at p =
    let step : IsStepAround mesh v corner next = subst (λ w. IsStepAround mesh w corner next) at p.0 in
    (step, path_around mesh v next path other (corner_vertex mesh v step.partner next step.to) p.1)

pub joined_around : (mesh : FaceList) (v : ℕ) (corner other : Side) → tail_of mesh corner ≡ v
    → AreJoined (IsCornerStep mesh) corner other → AreJoined (IsStepAround mesh v) corner other
joined_around mesh v corner other at joined = (joined.0, path_around mesh v corner joined.0 other at joined.1)

-- corners with one entry make one ring, and those of one ring have one entry
pub one_ring_from_same : (mesh : FaceList) (rings : List ℕ) (v : ℕ) → AreRings mesh rings
    → ((corner other : Side) → IsCornerAt mesh v corner → IsCornerAt mesh v other
    → get_or rings (side_number mesh corner) 0 ≡ get_or rings (side_number mesh other) 0)
    → HasOneRing mesh v
one_ring_from_same mesh rings v h same corner other is_corner is_other =
    joined_around mesh v corner other is_corner.vertex
    (h.joined corner other is_corner.side is_other.side (same corner other is_corner is_other))

pub same_from_one_ring : {mesh : FaceList} (rings : List ℕ) {v : ℕ} {corner other : Side} → AreRings mesh rings → HasOneRing mesh v
    → IsCornerAt mesh v corner → IsCornerAt mesh v other
    → get_or rings (side_number mesh corner) 0 ≡ get_or rings (side_number mesh other) 0
same_from_one_ring {mesh} rings {v} {corner} {other} h ring is_corner is_other =
    let joined : AreJoined (IsStepAround mesh v) corner other = ring corner other is_corner is_other in
    joined_keep (IsStepAround mesh v) (λ (side : Side). get_or rings (side_number mesh side) 0)
    (λ x y step. h.steps x y (subst (λ w. IsStepAround mesh w x y) (sym (corner_vertex mesh v step.side x step.from)) step)) corner
    joined.0 other joined.1

pub corner_used : (mesh : FaceList) (v : ℕ) (corner : Side) → IsCornerAt mesh v corner → is_used mesh v ≡ true
unfolding is_used
corner_used mesh v corner h =
    list_any_at (λ (face : List ℕ). list_any (λ c. eqb c v) face) mesh.faces corner.face.0 [] h.side.face
    (list_any_at (λ c. eqb c v) (face_at mesh corner.face.0) corner.at 0 h.side.place (eq-eqb (tail_of mesh corner) v h.vertex))

-- a used vertex has a corner
pub used_corner : (mesh : FaceList) (v : ℕ) → is_used mesh v ≡ true → (corner : Side) × IsCornerAt mesh v corner
unfolding is_used
used_corner mesh v is =
    let face = Any-from_list_any (λ (face : List ℕ). list_any (λ c. eqb c v) face) mesh.faces is in
    let corner = Any-from_list_any (λ c. eqb c v) face.1 face.4 in
    let ring : face_at mesh face.0 ≡ face.1 = get_or_default mesh.faces face.0 [] face.1 face.2 ∙ face.3 in
    let place : corner.0 < length (face_at mesh face.0) = subst (λ (r : List ℕ). corner.0 < length r) (sym ring) corner.2 in
    let vertex : get_or (face_at mesh face.0) corner.0 0 ≡ v =
    ap (λ (r : List ℕ). get_or r corner.0 0) ring ∙ get_or_default face.1 corner.0 0 corner.1 corner.2 ∙ corner.3
    ∙ eqb-true corner.1 v corner.4 in (
      record { face = record { 0 = face.0 }; at = corner.0 },
      record { side = record { face = face.2; place = place }; vertex = vertex },
    )

pub corner_below : (mesh : FaceList) (side : Side) → IsFaceList mesh → IsSide mesh side → tail_of mesh side < mesh.count
corner_below mesh side valid h = (valid.faces side.face.0 [] h.face).in_range side.at 0 h.place

-- The sides of one edge, by their places among all that join its ends.
use Rattle.closed_doubles.proofs.Common.{HasSideBetween, side_between, NoEdgeHasThreeSides, no_side, ◌≡◌, ◌⊎◌, inl, ℕ, ◌<◌, true, get_or, refl, ap, ◌∙◌, arith, nat_tests, get_or_default, Contains, filter, face_side, HasSideEnds, IsSide, tail_of, head_of, side_name, FaceList, FaceSide, face_at, all_sides, joins, is_edge, sides_between, ArePartners, Side}
use Rattle.surf_model.proofs.TableLemmas.{face_side_in, Contains-filter}

-- where a side stands among those that join two vertices
pub record IsPlaced (mesh : FaceList) (u v : ℕ) (side : Side) : Type 0 where
  pub place : ℕ
  pub within : place < sides_between mesh u v
  pub here : side_name (get_or (filter (joins u v) (all_sides mesh)) place no_side) ≡ side

ends_join : (u v : ℕ) (side : FaceSide) → ((side.tail ≡ u) × (side.head ≡ v)) ⊎ ((side.tail ≡ v) × (side.head ≡ u)) → joins u v side ≡ true
ends_join u v side h = grind (arith, nat_tests)

pub placed : (mesh : FaceList) (u v : ℕ) (side : Side) → IsSide mesh side → HasSideEnds mesh u v side → IsPlaced mesh u v side
placed mesh u v side is ends =
    let whole : FaceSide = face_side side.face.0 (face_at mesh side.face.0) side.at in
    let kept : Contains (filter (joins u v) (all_sides mesh)) whole = grind (arith, Contains-filter, ends_join, face_side_in) in
    record {
      place = kept.0;
      within = kept.1;
      here = ap side_name (get_or_default (filter (joins u v) (all_sides mesh)) kept.0 no_side whole kept.1 ∙ kept.2);
    }

pub one_place : (mesh : FaceList) (u v : ℕ) (side other : Side) (p : IsPlaced mesh u v side) (q : IsPlaced mesh u v other)
    → p.place ≡ q.place → side ≡ other
one_place mesh u v side other p q same = grind (arith, no_side)

-- an edge has a side
pub some_side : (mesh : FaceList) (u v : ℕ) → is_edge mesh u v ≡ true → 0 < sides_between mesh u v
some_side mesh u v is =
    let found : HasSideBetween mesh u v = side_between mesh u v is in
    omega (arith, (placed mesh u v found.side found.in_mesh found.ends).within)

ends_of_partner : (a b c d : ℕ) → ((a ≡ c) × (b ≡ d)) ⊎ ((a ≡ d) × (b ≡ c)) → ((c ≡ a) × (d ≡ b)) ⊎ ((c ≡ b) × (d ≡ a))
ends_of_partner a b c d h = grind arith

own_place : (mesh : FaceList) (side : Side) → IsSide mesh side → IsPlaced mesh (tail_of mesh side) (head_of mesh side) side
own_place mesh side is = placed mesh (tail_of mesh side) (head_of mesh side) side is (inl (refl, refl))

partner_place : (mesh : FaceList) (side partner : Side) → ArePartners mesh side partner
    → IsPlaced mesh (tail_of mesh side) (head_of mesh side) partner
partner_place mesh side partner h = grind (arith, placed, head_of, ends_of_partner)

-- a side alone in its edge has no partner
abbrev pub IsAlone : FaceList → Side → Type 0
IsAlone mesh side = (other : Side) → ArePartners mesh side other → ⊥

pub alone : (mesh : FaceList) (side : Side) → sides_between mesh (tail_of mesh side) (head_of mesh side) ≡ 1 → IsAlone mesh side
alone mesh side one other h =
    let p = own_place mesh side h.first in
    let q = partner_place mesh side other h in
    h.different (one_place mesh (tail_of mesh side) (head_of mesh side) side other p q (omega (arith, p.within, q.within, one)))

-- where no edge has three sides, a side has one partner
pub one_partner : (mesh : FaceList) (side partner other : Side) → NoEdgeHasThreeSides mesh → ArePartners mesh side partner
    → ArePartners mesh side other → partner ≡ other
one_partner mesh side partner other few h k =
    let u : ℕ = tail_of mesh side in
    let v : ℕ = head_of mesh side in
    let p = own_place mesh side h.first in
    let q = partner_place mesh side partner h in
    let r = partner_place mesh side other k in
    one_place mesh u v partner other q r
    (omega (
      arith,
      few u v,
      p.within,
      q.within,
      r.within,
      λ (e : p.place ≡ q.place). h.different (one_place mesh u v side partner p q e),
      λ (e : p.place ≡ r.place). k.different (one_place mesh u v side other p r e),
    ))

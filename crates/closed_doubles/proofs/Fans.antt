-- Round a vertex, from a side on the boundary: across the corner to its other side, over the edge of that to the next corner, and so on.
-- Where the corners make one fan this comes to every corner, and it ends at a side on the boundary: so there is at most one more.
use Rattle.closed_doubles.proofs.Common.{after_in_mesh, corner_vertex, corner_in_mesh, partners_swap, NoEdgeHasThreeSides, ◌≡◌, ◌≢◌, ◌⊎◌, inl, inr, ℕ, zero, suc, ◌<◌, true, false, List, [], ◌∷◌, length, refl, ap, sym, ◌∙◌, subst, arith, cases_eq, cases_order, eq-eqb, ◌==◌, if◌then◌else◌, ends_differ, back_within, there_and_back, IsSide, side_after, tail_of, head_of, FaceList, IsFaceList, face_at, next_corner, IsPath, AreJoined, ArePartners, IsCornerOfSide, IsStepAround, HasOneRing, Side, next_back}
use Rattle.closed_doubles.proofs.SidePlaces.{IsAlone, one_partner}

-- ---- the two sides of a corner

abbrev pub side_before : FaceList → Side → Side
side_before mesh side = record { face = side.face; at = next_corner false (length (face_at mesh side.face.0)) side.at }

pub before_in_mesh : (mesh : FaceList) (side : Side) → IsSide mesh side → IsSide mesh (side_before mesh side)
before_in_mesh mesh side h = record { face = h.face; place = back_within (length (face_at mesh side.face.0)) side.at h.place }

pub after_before : (mesh : FaceList) (side : Side) → IsSide mesh side → side_after mesh (side_before mesh side) ≡ side
after_before mesh side h = grind (arith, there_and_back)

before_after : (mesh : FaceList) (side : Side) → IsSide mesh side → side_before mesh (side_after mesh side) ≡ side
before_after mesh side h = grind (arith, next_back)

-- a side with an end at the vertex
pub record IsAt (mesh : FaceList) (v : ℕ) (side : Side) : Type 0 where
  pub side_of : IsSide mesh side
  pub end : (tail_of mesh side ≡ v) ⊎ (head_of mesh side ≡ v)

-- the other side of the corner that a side has at the vertex
abbrev pub other_side : FaceList → ℕ → Side → Side
other_side mesh v side = if tail_of mesh side == v then side_before mesh side else side_after mesh side

pub other_of_start : (mesh : FaceList) (v : ℕ) (side : Side) → tail_of mesh side ≡ v → other_side mesh v side ≡ side_before mesh side
other_of_start mesh v side e = let test : (tail_of mesh side == v) ≡ true = eq-eqb (tail_of mesh side) v e in rw test refl

pub other_of_end : (mesh : FaceList) (v : ℕ) (side : Side) → IsFaceList mesh → IsSide mesh side → head_of mesh side ≡ v
    → other_side mesh v side ≡ side_after mesh side
other_of_end mesh v side valid is e = grind (arith, ends_differ)

pub head_before : (mesh : FaceList) (side : Side) → IsSide mesh side → head_of mesh (side_before mesh side) ≡ tail_of mesh side
head_before mesh side is = ap (tail_of mesh) (after_before mesh side is)

other_at : (mesh : FaceList) (v : ℕ) (side : Side) → IsFaceList mesh → IsAt mesh v side → IsAt mesh v (other_side mesh v side)
other_at mesh v side valid h = grind (arith, other_of_start, before_in_mesh, head_before, other_of_end, after_in_mesh)

other_back : (mesh : FaceList) (v : ℕ) (side : Side) → IsFaceList mesh → IsAt mesh v side
    → other_side mesh v (other_side mesh v side) ≡ side
other_back mesh v side valid h = grind (arith, other_of_start, other_of_end, before_in_mesh, head_before, after_before, before_after)

other_corner : (mesh : FaceList) (v : ℕ) (side corner : Side) → IsFaceList mesh → IsSide mesh side → IsCornerOfSide mesh v side corner
    → IsCornerOfSide mesh v (other_side mesh v side) corner
other_corner mesh v side corner valid is h = grind (arith, other_of_start, head_before, after_before, other_of_end)

two_sides : (mesh : FaceList) (v : ℕ) (side another corner : Side) → IsFaceList mesh → IsSide mesh side → IsSide mesh another
    → IsCornerOfSide mesh v side corner → IsCornerOfSide mesh v another corner → (another ≡ side) ⊎ (another ≡ other_side mesh v side)
two_sides mesh v side another corner valid is it h k = grind (arith, before_after, other_of_start, other_of_end)

corner_of : (mesh : FaceList) (v : ℕ) (side : Side) → IsAt mesh v side → (corner : Side) × IsCornerOfSide mesh v side corner
corner_of mesh v side h = elim h.end [ inl e ↦ (side, inl (e, refl)) | inr e ↦ (side_after mesh side, inr (e, refl)) ]

-- ---- the way round

partner_end : (a b c d v : ℕ) → ((a ≡ c) × (b ≡ d)) ⊎ ((a ≡ d) × (b ≡ c)) → (a ≡ v) ⊎ (b ≡ v) → (c ≡ v) ⊎ (d ≡ v)
partner_end a b c d v h k = grind arith

pub partner_at : (mesh : FaceList) (v : ℕ) (side partner : Side) → ArePartners mesh side partner → IsAt mesh v side → IsAt mesh v partner
partner_at mesh v side partner h at = record { side_of = h.second; end = partner_end _ _ _ _ v h.one_edge at.end }

-- the side by which the way from a first side leaves the corner after so many edges
abbrev pub Exits : FaceList → ℕ → Side → ℕ → Side → Type 0
Exits mesh v first zero side = side ≡ other_side mesh v first
Exits mesh v first (suc j) side =
    (before : Side) × (partner : Side) × Exits mesh v first j before × ArePartners mesh before partner × (side ≡ other_side mesh v partner)

module _ (mesh : FaceList) (v : ℕ) (first : Side) (valid : IsFaceList mesh) (few : NoEdgeHasThreeSides mesh) (at : IsAt mesh v first) where
  pub exits_at : (j : ℕ) (side : Side) → Exits mesh v first j side → IsAt mesh v side
  exits_at zero side e = subst (IsAt mesh v) (sym e) (other_at mesh v first valid at)
  exits_at (suc j) side e =
      subst (IsAt mesh v) (sym e.4) (other_at mesh v e.1 valid (partner_at mesh v e.0 e.1 e.3 (exits_at j e.0 e.2)))

  exits_once : (j : ℕ) (side other : Side) → Exits mesh v first j side → Exits mesh v first j other → side ≡ other
  exits_once zero side other e f = e ∙ sym f
  exits_once (suc j) side other e f =
      let same : e.0 ≡ f.0 = exits_once j e.0 f.0 e.2 f.2 in
      e.4
      ∙ ap (other_side mesh v) (one_partner mesh f.0 e.1 f.1 few (subst (λ s. ArePartners mesh s e.1) same e.3) f.3)
      ∙ sym f.4

  -- one edge earlier, the side had a partner
  went_on : (i j : ℕ) (side : Side) → Exits mesh v first i side → j < i
      → (before : Side) × (partner : Side) × Exits mesh v first j before × ArePartners mesh before partner
  went_on zero j side e l = absurd (omega arith)
  went_on (suc i) j side e l =
      elim (cases_eq j i) [
        | inl same ↦ (e.0, e.1, subst (λ k. Exits mesh v first k e.0) (sym same) e.2, e.3)
        | inr other ↦ went_on i j e.0 e.2 (omega (arith, l, other))
      ]

  module _ (rim : IsAlone mesh first) where
    -- the other side of a side by which a corner is left is the first one, or has a partner behind it
    abbrev Reached : Side → Type 0
    Reached corner = (j : ℕ) × (side : Side) × Exits mesh v first j side × IsCornerOfSide mesh v side corner

    reached_on : (corner other : Side) → Reached corner → IsStepAround mesh v corner other → Reached other
    reached_on corner other (j, side, e, c) step =
        elim (two_sides mesh v side step.side corner valid (exits_at j side e).side_of step.partners.first c step.from) [
          | inl same ↦ (
            suc j,
            other_side mesh v step.partner,
            (side, step.partner, e, subst (λ s. ArePartners mesh s step.partner) same step.partners, refl),
            other_corner mesh v step.partner other valid step.partners.second step.to,
          )
          | inr back ↦ returns j e back
        ]
      where
        returns : (i : ℕ) → Exits mesh v first i side → step.side ≡ other_side mesh v side → Reached other
        returns zero f back =
            let home : step.side ≡ first = back ∙ ap (other_side mesh v) f ∙ other_back mesh v first valid at in
            absurd (rim step.partner (subst (λ s. ArePartners mesh s step.partner) home step.partners))
        returns (suc i) f back =
            let came : IsAt mesh v f.1 = partner_at mesh v f.0 f.1 f.3 (exits_at i f.0 f.2) in
            let home : step.side ≡ f.1 = back ∙ ap (other_side mesh v) f.4 ∙ other_back mesh v f.1 valid came in
            let same : step.partner ≡ f.0 =
            one_partner mesh f.1 step.partner f.0 few (subst (λ s. ArePartners mesh s step.partner) home step.partners)
            (partners_swap mesh f.0 f.1 f.3) in
            (i, f.0, f.2, subst (λ s. IsCornerOfSide mesh v s other) same step.to)

    reached_along : (path : List Side) (corner other : Side) → Reached corner → IsPath (IsStepAround mesh v) corner path other
        → Reached other
    reached_along [] corner other r p = subst Reached p r
    reached_along (next ∷ path) corner other r p = reached_along path next other (reached_on corner next r p.0) p.1

    -- another side on the boundary is come to
    pub reached_rim : (side : Side) → HasOneRing mesh v → IsAt mesh v side → IsAlone mesh side → side ≢ first
        → (j : ℕ) × Exits mesh v first j side
    reached_rim side ring there end differs =
        let from = corner_of mesh v first at in
        let to = corner_of mesh v side there in
        let joined : AreJoined (IsStepAround mesh v) from.0 to.0 =
        ring from.0 to.0
        (record { side = corner_in_mesh mesh v first from.0 at.side_of from.1; vertex = corner_vertex mesh v first from.0 from.1 })
        (record { side = corner_in_mesh mesh v side to.0 there.side_of to.1; vertex = corner_vertex mesh v side to.0 to.1 }) in
        let r : Reached to.0 =
        reached_along joined.0 from.0 to.0
        (0, other_side mesh v first, refl, other_corner mesh v first from.0 valid at.side_of from.1) joined.1 in
        elim (two_sides mesh v r.1 side to.0 valid (exits_at r.0 r.1 r.2).side_of there.side_of r.3 to.1) [
          | inl same ↦ (r.0, subst (Exits mesh v first r.0) (sym same) r.2)
          | inr back ↦ absurd (came_back r.0 r.1 r.2 back)
        ]
      where
        came_back : (i : ℕ) (last : Side) → Exits mesh v first i last → side ≡ other_side mesh v last → ⊥
        came_back zero last f back = differs (back ∙ ap (other_side mesh v) f ∙ other_back mesh v first valid at)
        came_back (suc i) last f back =
            let came : IsAt mesh v f.1 = partner_at mesh v f.0 f.1 f.3 (exits_at i f.0 f.2) in
            let home : side ≡ f.1 = back ∙ ap (other_side mesh v) f.4 ∙ other_back mesh v f.1 valid came in
            end f.0 (subst (λ s. ArePartners mesh s f.0) (sym home) (partners_swap mesh f.0 f.1 f.3))

    -- so there is one at most
    pub one_more_rim : (side other : Side) → HasOneRing mesh v → IsAt mesh v side → IsAlone mesh side → side ≢ first
        → IsAt mesh v other → IsAlone mesh other → other ≢ first → side ≡ other
    one_more_rim side other ring there end differs here stop apart =
        let one = reached_rim side ring there end differs in
        let two = reached_rim other ring here stop apart in
        elim (cases_order one.0 two.0) [
          | inl same ↦ exits_once two.0 side other (subst (λ k. Exits mesh v first k side) same one.1) two.1
          | inr differ ↦ elim differ [
            | inl less ↦
                (let on = went_on two.0 one.0 other two.1 less in
                let same : on.0 ≡ side = exits_once one.0 on.0 side on.2 one.1 in
                absurd (end on.1 (subst (λ s. ArePartners mesh s on.1) same on.3)))
            | inr more ↦
                (let on = went_on one.0 two.0 side one.1 more in
                let same : on.0 ≡ other = exits_once two.0 on.0 other on.2 two.1 in
                absurd (stop on.1 (subst (λ s. ArePartners mesh s on.1) same on.3)))
          ]
        ]

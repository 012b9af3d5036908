-- Round a vertex of the double: the corners of the mesh, or of the mirrors over them, hang together as they do in the mesh, and each corner
-- of a quad is one step from one of these, across the side on the boundary that the quad belongs to.
use Rattle.closed_doubles.proofs.Common.{after_in_mesh, corner_below, corner_used, partners_swap, joined_refl, joined_step, joined_trans, joined_sym, EachVertexHasOneRing, rims, kept_side, kept_tail, kept_after, kept_head, corner_over, side_over, over_after, over_side_in_double, over_side_tail, over_head, over_once, rim_side, quad_side, rim_in_mesh, quad_in_double, quad_after, first_tail, second_tail, third_tail, fourth_tail, first_head, third_head, side_kinds, double_of, ◌≡◌, ◌⊎◌, inl, inr, ℕ, zero, suc, ◌+◌, ◌<◌, length, refl, ap, sym, ◌∙◌, subst, arith, common_steps, IsSide, side_after, tail_of, head_of, FaceList, IsFaceList, AreJoined, ArePartners, IsCornerAt, IsCornerOfSide, IsStepAround, Side}
use Rattle.closed_doubles.proofs.JoinedDoubles.{joined_map}

-- ---- steps of the mesh, and of the mirrors

step_back : (mesh : FaceList) (v : ℕ) (corner other : Side) → IsStepAround mesh v corner other → IsStepAround mesh v other corner
step_back mesh v corner other step = grind (arith, partners_swap)

pub kept_partners : (mesh : FaceList) (side partner : Side) → ArePartners mesh side partner → ArePartners (double_of mesh) side partner
kept_partners mesh side partner h = grind (arith, common_steps, kept_side, kept_tail, kept_head)

kept_corner : (mesh : FaceList) (v : ℕ) (side corner : Side) → IsSide mesh side → IsCornerOfSide mesh v side corner
    → IsCornerOfSide (double_of mesh) v side corner
kept_corner mesh v side corner is h = grind (arith, kept_tail, kept_head, kept_after)

kept_step : (mesh : FaceList) (v : ℕ) (corner other : Side) → IsStepAround mesh v corner other
    → IsStepAround (double_of mesh) v corner other
kept_step mesh v corner other step = record {
  side = step.side;
  partner = step.partner;
  partners = kept_partners mesh step.side step.partner step.partners;
  from = kept_corner mesh v step.side corner step.partners.first step.from;
  to = kept_corner mesh v step.partner other step.partners.second step.to;
}

-- sides with one corner behind them are one
after_once : (mesh : FaceList) (side other : Side) → IsSide mesh side → IsSide mesh other → side_over mesh side ≡ side_over mesh other
    → side ≡ other
after_once mesh side other is it same = grind (arith, over_once, over_after)

pub over_partners : (mesh : FaceList) (side partner : Side) → ArePartners mesh side partner
    → ArePartners (double_of mesh) (side_over mesh side) (side_over mesh partner)
over_partners mesh side partner h = grind (arith, over_side_in_double, after_once, over_side_tail, over_head)

over_corner : (mesh : FaceList) (v : ℕ) (side corner : Side) → IsSide mesh side → IsCornerOfSide mesh v side corner
    → IsCornerOfSide (double_of mesh) (v + mesh.count) (side_over mesh side) (corner_over mesh corner)
over_corner mesh v side corner is h = grind (arith, over_head, over_after, over_side_tail)

over_step : (mesh : FaceList) (v : ℕ) (corner other : Side) → IsStepAround mesh v corner other
    → IsStepAround (double_of mesh) (v + mesh.count) (corner_over mesh corner) (corner_over mesh other)
over_step mesh v corner other step = record {
  side = side_over mesh step.side;
  partner = side_over mesh step.partner;
  partners = over_partners mesh step.side step.partner step.partners;
  from = over_corner mesh v step.side corner step.partners.first step.from;
  to = over_corner mesh v step.partner other step.partners.second step.to;
}

-- ---- quads

module _ (mesh : FaceList) (k : ℕ) (l : k < length (rims mesh)) where
  rim_is : IsSide mesh (rim_side mesh k)
  rim_is = rim_in_mesh mesh k l

  -- the first side runs against the side on the boundary, and the third against the one over it
  first_partner : ArePartners (double_of mesh) (quad_side mesh k 0) (rim_side mesh k)
  first_partner = record {
    first = quad_in_double mesh k 0 l (omega arith);
    second = kept_side mesh (rim_side mesh k) rim_is;
    different = λ same. omega (arith, rim_is.face, ap (λ (s : Side). s.face.0) same);
    one_edge =
        inr (
          first_tail mesh k l ∙ sym (kept_head mesh (rim_side mesh k) rim_is),
          first_head mesh k l ∙ sym (kept_tail mesh (rim_side mesh k) rim_is),
        );
  }

  third_partner : ArePartners (double_of mesh) (quad_side mesh k 2) (side_over mesh (rim_side mesh k))
  third_partner = record {
    first = quad_in_double mesh k 2 l (omega arith);
    second = over_side_in_double mesh (rim_side mesh k) rim_is;
    different = λ same. omega (arith, rim_is.face, ap (λ (s : Side). s.face.0) same);
    one_edge =
        inr (
          third_tail mesh k l ∙ sym (over_head mesh (rim_side mesh k) rim_is),
          third_head mesh k l ∙ sym (over_side_tail mesh (rim_side mesh k) rim_is),
        );
  }

  first_step : IsStepAround (double_of mesh) (head_of mesh (rim_side mesh k)) (quad_side mesh k 0) (side_after mesh (rim_side mesh k))
  first_step = record {
    side = quad_side mesh k 0;
    partner = rim_side mesh k;
    partners = first_partner;
    from = inl (first_tail mesh k l, refl);
    to = inr (kept_head mesh (rim_side mesh k) rim_is, sym (kept_after mesh (rim_side mesh k) rim_is));
  }

  second_step : IsStepAround (double_of mesh) (tail_of mesh (rim_side mesh k)) (quad_side mesh k 1) (rim_side mesh k)
  second_step = record {
    side = quad_side mesh k 0;
    partner = rim_side mesh k;
    partners = first_partner;
    from = inr (first_head mesh k l, sym (quad_after mesh k 0 l));
    to = inl (kept_tail mesh (rim_side mesh k) rim_is, refl);
  }

  third_step : IsStepAround (double_of mesh) (tail_of mesh (rim_side mesh k) + mesh.count) (quad_side mesh k 2)
      (corner_over mesh (rim_side mesh k))
  third_step = record {
    side = quad_side mesh k 2;
    partner = side_over mesh (rim_side mesh k);
    partners = third_partner;
    from = inl (third_tail mesh k l, refl);
    to = inr (over_head mesh (rim_side mesh k) rim_is, sym (over_after mesh (rim_side mesh k) rim_is));
  }

  fourth_step : IsStepAround (double_of mesh) (head_of mesh (rim_side mesh k) + mesh.count) (quad_side mesh k 3)
      (side_over mesh (rim_side mesh k))
  fourth_step = record {
    side = quad_side mesh k 2;
    partner = side_over mesh (rim_side mesh k);
    partners = third_partner;
    from = inr (third_head mesh k l, sym (quad_after mesh k 2 l));
    to = inl (over_side_tail mesh (rim_side mesh k) rim_is, refl);
  }

-- ---- each corner is joined to one of the mesh, or to one over it

pub record IsNear (mesh : FaceList) (v : ℕ) (corner : Side) : Type 0 where
  pub kept : Side
  pub at : IsCornerAt mesh v kept
  pub joined : AreJoined (IsStepAround (double_of mesh) v) corner kept

pub record IsNearOver (mesh : FaceList) (v : ℕ) (corner : Side) : Type 0 where
  pub kept : Side
  pub at : IsCornerAt mesh v kept
  pub joined : AreJoined (IsStepAround (double_of mesh) (v + mesh.count)) corner (corner_over mesh kept)

-- by where it is
abbrev AtEither : FaceList → ℕ → Side → Type 0
AtEither mesh v corner = ((v < mesh.count) × IsNear mesh v corner) ⊎ ((a : ℕ) × (v ≡ a + mesh.count) × IsNearOver mesh a corner)

one_step : (mesh : FaceList) (w v : ℕ) (corner kept : Side) → w ≡ v → IsStepAround mesh w corner kept
    → AreJoined (IsStepAround mesh v) corner kept
one_step mesh w v corner kept same step = grind (arith, joined_step)

quad_near : (mesh : FaceList) (v k i : ℕ) → IsFaceList mesh → k < length (rims mesh) → i < 4
    → tail_of (double_of mesh) (quad_side mesh k i) ≡ v → AtEither mesh v (quad_side mesh k i)
quad_near mesh v k zero valid l b e =
    let rim : Side = rim_side mesh k in
    let after = after_in_mesh mesh rim (rim_in_mesh mesh k l) in
    let here : head_of mesh rim ≡ v = sym (first_tail mesh k l) ∙ e in
    inl (
      subst (λ x. x < mesh.count) here (corner_below mesh (side_after mesh rim) valid after),
      record {
        kept = side_after mesh rim;
        at = record { side = after; vertex = here };
        joined = one_step (double_of mesh) (head_of mesh rim) v (quad_side mesh k 0) (side_after mesh rim) here (first_step mesh k l);
      },
    )
quad_near mesh v k (suc zero) valid l b e =
    let rim : Side = rim_side mesh k in
    let here : tail_of mesh rim ≡ v = sym (second_tail mesh k l) ∙ e in
    inl (
      subst (λ x. x < mesh.count) here (corner_below mesh rim valid (rim_in_mesh mesh k l)),
      record {
        kept = rim;
        at = record { side = rim_in_mesh mesh k l; vertex = here };
        joined = one_step (double_of mesh) (tail_of mesh rim) v (quad_side mesh k 1) rim here (second_step mesh k l);
      },
    )
quad_near mesh v k (suc (suc zero)) valid l b e =
    let rim : Side = rim_side mesh k in
    inr (
      tail_of mesh rim,
      sym e ∙ third_tail mesh k l,
      record {
        kept = rim;
        at = record { side = rim_in_mesh mesh k l; vertex = refl };
        joined = joined_step (IsStepAround (double_of mesh) (tail_of mesh rim + mesh.count)) (quad_side mesh k 2) (corner_over mesh rim)
            (third_step mesh k l);
      },
    )
quad_near mesh v k (suc (suc (suc zero))) valid l b e =
    let rim : Side = rim_side mesh k in
    inr (
      head_of mesh rim,
      sym e ∙ fourth_tail mesh k l,
      record {
        kept = side_after mesh rim;
        at = record { side = after_in_mesh mesh rim (rim_in_mesh mesh k l); vertex = refl };
        joined = joined_step (IsStepAround (double_of mesh) (head_of mesh rim + mesh.count)) (quad_side mesh k 3) (side_over mesh rim)
            (fourth_step mesh k l);
      },
    )
quad_near mesh v k (suc (suc (suc (suc i)))) valid l b e = absurd (omega arith)

near : (mesh : FaceList) (v : ℕ) (corner : Side) → IsFaceList mesh → IsCornerAt (double_of mesh) v corner → AtEither mesh v corner
near mesh v corner valid h =
    grind (arith, side_kinds, kept_tail, corner_below, joined_refl, head_of, over_side_tail, after_in_mesh, quad_near)

-- so all corners at a vertex are joined
joined_near : (mesh : FaceList) (v : ℕ) (corner other : Side) → EachVertexHasOneRing mesh → IsNear mesh v corner → IsNear mesh v other
    → AreJoined (IsStepAround (double_of mesh) v) corner other
joined_near mesh v corner other ring h k =
    let Step : Side → Side → Type 0 = IsStepAround (double_of mesh) v in
    let between = ring v (corner_used mesh v h.kept h.at) h.kept k.kept h.at k.at in
    let kept : AreJoined Step h.kept k.kept =
    joined_map (IsStepAround mesh v) Step (λ s. s) (kept_step mesh v) h.kept between.0 k.kept between.1 in
    joined_trans Step corner h.kept other h.joined
    (joined_trans Step h.kept k.kept other kept (joined_sym Step (step_back (double_of mesh) v) other k.kept k.joined))

joined_over : (mesh : FaceList) (v : ℕ) (corner other : Side) → EachVertexHasOneRing mesh → IsNearOver mesh v corner
    → IsNearOver mesh v other → AreJoined (IsStepAround (double_of mesh) (v + mesh.count)) corner other
joined_over mesh v corner other ring h k =
    let Step : Side → Side → Type 0 = IsStepAround (double_of mesh) (v + mesh.count) in
    let between = ring v (corner_used mesh v h.kept h.at) h.kept k.kept h.at k.at in
    let over : AreJoined Step (corner_over mesh h.kept) (corner_over mesh k.kept) =
    joined_map (IsStepAround mesh v) Step (corner_over mesh) (over_step mesh v) h.kept between.0 k.kept between.1 in
    joined_trans Step corner (corner_over mesh h.kept) other h.joined
    (joined_trans Step (corner_over mesh h.kept) (corner_over mesh k.kept) other over
    (joined_sym Step (step_back (double_of mesh) (v + mesh.count)) other (corner_over mesh k.kept) k.joined))

pub double_rings : (mesh : FaceList) → IsFaceList mesh → EachVertexHasOneRing mesh → EachVertexHasOneRing (double_of mesh)
double_rings mesh valid ring v used corner other h k =
    elim (near mesh v corner valid h) [
      | inl one ↦ elim (near mesh v other valid k) [
        | inl two ↦ joined_near mesh v corner other ring one.1 two.1
        | inr two ↦ absurd (omega (arith, one.0, two.1))
      ]
      | inr one ↦ elim (near mesh v other valid k) [
        | inl two ↦ absurd (omega (arith, one.1, two.0))
        | inr two ↦
            (let same : two.0 ≡ one.0 = omega (arith, one.1, two.1) in
            subst (λ x. AreJoined (IsStepAround (double_of mesh) x) corner other) (sym one.1)
            (joined_over mesh one.0 corner other ring one.2 (subst (λ x. IsNearOver mesh x other) same two.2)))
      ]
    ]

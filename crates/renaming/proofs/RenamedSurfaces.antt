-- A renamed mesh keeps the conditions of a closed surface, and coherent signs.
use Rattle.renaming.proofs.Common.{IsRenamed, ◌≡◌, inl, inr, ℕ, ◌≤◌, Bool, true, false, cond, List, [], ◌∷◌, length, map, refl, ap, sym, ◌∙◌, subst, arith, false≢true, IsTrue, filter, tail_used, head_used, next_within, FaceList, FaceSide, IsFaceList, face_at, all_sides, joins, is_used, IsPath, AreJoined, sides_between, EachEdgeHasTwoSides, ArePartners, IsCornerAt, IsCornerOfSide, IsStepAround, HasOneRing, IsClosedManifold, IsClosed, IsCoherent, RunOppositely, is_flipped, start_under, end_under}
use Rattle.surf_model.specs.Darts.{IsSide, side_after, tail_of, head_of}
use Rattle.surf_model.specs.declared.edges.Side.{Side}
use Rattle.renaming.proofs.RenamedSides.{renamed_side, length_renamed, size_renamed, corner_renamed, sides_renamed, joins_renamed, used_renamed, edge_renamed, led_back}
use Rattle.renaming.proofs.RenamedWalks.{joined_renamed}

more_pass : (b c : Bool) (x y : FaceSide) (few many : List FaceSide) → (b ≡ true → c ≡ true) → length few ≤ length many
    → length (cond b (x ∷ few) few) ≤ length (cond c (y ∷ many) many)
more_pass true true x y few many h l = omega arith
more_pass true false x y few many h l = absurd (false≢true (h refl))
more_pass false true x y few many h l = omega arith
more_pass false false x y few many h l = l

more_kept : (there : ℕ → ℕ) (test wanted : FaceSide → Bool)
    → ((side : FaceSide) → test side ≡ true → wanted (renamed_side there side) ≡ true) → (sides : List FaceSide)
    → length (filter test sides) ≤ length (filter wanted (map (renamed_side there) sides))
more_kept there test wanted passes [] = omega arith
more_kept there test wanted passes (side ∷ sides) =
    more_pass (test side) (wanted (renamed_side there side)) side (renamed_side there side) (filter test sides)
    (filter wanted (map (renamed_side there) sides)) (passes side) (more_kept there test wanted passes sides)

-- two vertices are joined by no fewer sides than before
pub sides_between_renamed : (there back : ℕ → ℕ) (mesh other : FaceList) (u v : ℕ) → IsRenamed there back mesh other
    → sides_between mesh u v ≤ sides_between other (there u) (there v)
sides_between_renamed there back mesh other u v h =
    rw (sides_renamed there back mesh other h)
    (more_kept there (joins u v) (joins (there u) (there v)) (joins_renamed there u v) (all_sides mesh))

pub two_sides_renamed : (there back : ℕ → ℕ) (mesh other : FaceList) → IsFaceList mesh → IsRenamed there back mesh other
    → EachEdgeHasTwoSides mesh → EachEdgeHasTwoSides other
two_sides_renamed there back mesh other valid h two u v is =
    let home : IsRenamed back there other mesh = led_back there back mesh other valid h in
    let there_and_back : sides_between other (there (back u)) (there (back v)) ≡ sides_between other u v =
    rw (home.leads_back u (tail_used other u v is), home.leads_back v (head_used other u v is)) refl in
    omega (
      arith,
      two (back u) (back v) (edge_renamed back there other mesh u v home is),
      sides_between_renamed there back mesh other (back u) (back v) h,
      sides_between_renamed back there other mesh u v home,
      there_and_back,
    )

-- a side, which has the same name in both meshes
pub record IsSideOfBoth (there : ℕ → ℕ) (mesh other : FaceList) (side : Side) : Type 0 where
  pub in_other : IsSide other side
  pub tail : tail_of other side ≡ there (tail_of mesh side)
  pub head : head_of other side ≡ there (head_of mesh side)
  pub after : side_after other side ≡ side_after mesh side

pub side_of_both : (there back : ℕ → ℕ) (mesh other : FaceList) (side : Side) → IsRenamed there back mesh other → IsSide mesh side
    → IsSideOfBoth there mesh other side
side_of_both there back mesh other side h is =
    let f : ℕ = side.face.0 in
    let long : length (face_at other f) ≡ length (face_at mesh f) = size_renamed there back mesh other f h in
    let after : side_after other side ≡ side_after mesh side = rw long refl in
    record {
      in_other = record {
        face = omega (arith, is.face, length_renamed there back mesh other h);
        place = omega (arith, is.place, long);
      };
      tail = corner_renamed there back mesh other f side.at h is.place;
      head = ap (tail_of other) after
          ∙ corner_renamed there back mesh other f (side_after mesh side).at h (next_within (length (face_at mesh f)) side.at is.place);
      after = after;
    }

pub partners_renamed : (there back : ℕ → ℕ) (mesh other : FaceList) (side partner : Side) → IsRenamed there back mesh other
    → ArePartners mesh side partner → ArePartners other side partner
partners_renamed there back mesh other side partner h p =
    let a : IsSideOfBoth there mesh other side = side_of_both there back mesh other side h p.first in
    let b : IsSideOfBoth there mesh other partner = side_of_both there back mesh other partner h p.second in
    record {
      first = a.in_other;
      second = b.in_other;
      different = p.different;
      one_edge = elim p.one_edge [
        | inl e ↦ inl (a.tail ∙ ap there e.0 ∙ sym b.tail, a.head ∙ ap there e.1 ∙ sym b.head)
        | inr e ↦ inr (a.tail ∙ ap there e.0 ∙ sym b.head, a.head ∙ ap there e.1 ∙ sym b.tail)
      ];
    }

corner_of_side_renamed : (there back : ℕ → ℕ) (mesh other : FaceList) (v : ℕ) (side corner : Side) → IsRenamed there back mesh other
    → IsSide mesh side → IsCornerOfSide mesh v side corner → IsCornerOfSide other (there v) side corner
corner_of_side_renamed there back mesh other v side corner h is c =
    let a : IsSideOfBoth there mesh other side = side_of_both there back mesh other side h is in
    elim c [
      | inl e ↦ inl (a.tail ∙ ap there e.0, e.1)
      | inr e ↦ inr (a.head ∙ ap there e.0, e.1 ∙ sym a.after)
    ]

-- the same corners lead round a vertex
path_renamed : (there back : ℕ → ℕ) (mesh other : FaceList) (v : ℕ) (corner : Side) (path : List Side) (last : Side)
    → IsRenamed there back mesh other → IsPath (IsStepAround mesh v) corner path last
    → IsPath (IsStepAround other (there v)) corner path last
path_renamed there back mesh other v corner [] last h p = p
path_renamed there back mesh other v corner (next ∷ path) last h p =
    let step : IsStepAround mesh v corner next = p.0 in (
      record {
        side = step.side;
        partner = step.partner;
        partners = partners_renamed there back mesh other step.side step.partner h step.partners;
        from = corner_of_side_renamed there back mesh other v step.side corner h step.partners.first step.from;
        to = corner_of_side_renamed there back mesh other v step.partner next h step.partners.second step.to;
      },
      path_renamed there back mesh other v next path last h p.1,
    )

corner_at_renamed : (there back : ℕ → ℕ) (mesh other : FaceList) (v : ℕ) (corner : Side) → IsRenamed there back mesh other
    → IsCornerAt mesh v corner → IsCornerAt other (there v) corner
corner_at_renamed there back mesh other v corner h c =
    let a : IsSideOfBoth there mesh other corner = side_of_both there back mesh other corner h c.side in
    record { side = a.in_other; vertex = a.tail ∙ ap there c.vertex }

pub one_ring_renamed : (there back : ℕ → ℕ) (mesh other : FaceList) (v : ℕ) → IsFaceList mesh → IsRenamed there back mesh other
    → IsTrue (is_used other v) → HasOneRing mesh (back v) → HasOneRing other v
one_ring_renamed there back mesh other v valid h is ring corner last is_corner is_last =
    let home : IsRenamed back there other mesh = led_back there back mesh other valid h in
    let joined = ring corner last (corner_at_renamed back there other mesh v corner home is_corner)
    (corner_at_renamed back there other mesh v last home is_last) in
    subst (λ x. AreJoined (IsStepAround other x) corner last) (home.leads_back v is)
    (joined.0, path_renamed there back mesh other (back v) corner joined.0 last h joined.1)

pub closed_renamed : (there back : ℕ → ℕ) (mesh other : FaceList) → IsFaceList mesh → IsRenamed there back mesh other
    → IsClosedManifold mesh → IsClosedManifold other
closed_renamed there back mesh other valid h closed =
    let home : IsRenamed back there other mesh = led_back there back mesh other valid h in
    record {
      some_face = omega (arith, closed.some_face, length_renamed there back mesh other h);
      two_sides = two_sides_renamed there back mesh other valid h closed.two_sides;
      one_ring = λ v is.
          one_ring_renamed there back mesh other v valid h is (closed.one_ring (back v) (used_renamed back there other mesh v home is));
    }

-- and the same where the closed manifold is in one piece
pub closed_surface_renamed : (there back : ℕ → ℕ) (mesh other : FaceList) → IsFaceList mesh → IsRenamed there back mesh other
    → IsClosed mesh → IsClosed other
closed_surface_renamed there back mesh other valid h closed =
    let pieces : IsClosedManifold other = closed_renamed there back mesh other valid h
    (record { some_face = closed.some_face; two_sides = closed.two_sides; one_ring = closed.one_ring }) in
    record {
      some_face = pieces.some_face;
      two_sides = pieces.two_sides;
      one_ring = pieces.one_ring;
      connected = joined_renamed there back mesh other valid h closed.connected;
    }

-- of two ends, the one that a sign picks
picked_renamed : (there : ℕ → ℕ) (flipped : Bool) (a b x y : ℕ) → x ≡ there a → y ≡ there b → cond flipped x y ≡ there (cond flipped a b)
picked_renamed there true a b x y e f = e
picked_renamed there false a b x y e f = f

pub coherent_renamed : (there back : ℕ → ℕ) (mesh other : FaceList) (signs : List Bool) → IsFaceList mesh
    → IsRenamed there back mesh other → IsCoherent mesh signs → IsCoherent other signs
coherent_renamed there back mesh other signs valid h c =
    let home : IsRenamed back there other mesh = led_back there back mesh other valid h in
    let start : (side : Side) → IsSideOfBoth there mesh other side → start_under other signs side ≡ there (start_under mesh signs side) =
    λ side a. picked_renamed there (is_flipped signs side.face.0) (head_of mesh side) (tail_of mesh side) (head_of other side)
    (tail_of other side) a.head a.tail in
    let end : (side : Side) → IsSideOfBoth there mesh other side → end_under other signs side ≡ there (end_under mesh signs side) =
    λ side a. picked_renamed there (is_flipped signs side.face.0) (tail_of mesh side) (head_of mesh side) (tail_of other side)
    (head_of other side) a.tail a.head in
    record {
      each_face = c.each_face ∙ sym (length_renamed there back mesh other h);
      opposite = λ side partner p.
          let before : ArePartners mesh side partner = partners_renamed back there other mesh side partner home p in
          let run : RunOppositely mesh signs side partner = c.opposite side partner before in
          let a : IsSideOfBoth there mesh other side = side_of_both there back mesh other side h before.first in
          let b : IsSideOfBoth there mesh other partner = side_of_both there back mesh other partner h before.second in
          record {
            starts = start side a ∙ ap there run.starts ∙ sym (end partner b);
            ends = end side a ∙ ap there run.ends ∙ sym (start partner b);
          };
    }

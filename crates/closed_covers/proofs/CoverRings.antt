-- A step round a vertex of the mesh lies below a step round either of the two vertices over it, so the corners at these hang together as
-- they do below.
use Rattle.closed_covers.proofs.Common.{corner_below, corner_used, begins_on, back, apart_over, sheet_behind, over, AreTurns, cover_of, ◌≡◌, ◌⊎◌, inl, inr, ℕ, Bool, refl, ap, sym, ◌∙◌, subst, arith, IsSide, side_after, tail_of, head_of, FaceList, IsFaceList, face_at, AreJoined, AreOfOneEdge, IsCornerAt, IsCornerOfSide, IsStepAround, Side}
use Rattle.closed_doubles.proofs.JoinedDoubles.{joined_map}
use Rattle.connectivity.specs.Joined.{EachVertexHasOneRing}
use Rattle.closed_covers.proofs.CoverSides.{side_over, start_sheet, one_start, over_in_cover, over_tail, over_after, over_once, IsOverSide, each_side, sheet_after, over_head}

-- the corner over a corner that is on this sheet
abbrev pub corner_on : (mesh : FaceList) (turns : ℕ → ℕ → Bool) → AreTurns mesh turns → Bool → Side → Side
corner_on mesh turns are s corner = side_over mesh (begins_on mesh turns are (face_at mesh corner.face.0) corner.at s).0 corner

-- the ends of a side: the vertex, and another one
abbrev HasEnds : FaceList → Side → ℕ → ℕ → Type 0
HasEnds mesh side v w = ((tail_of mesh side ≡ v) × (head_of mesh side ≡ w)) ⊎ ((tail_of mesh side ≡ w) × (head_of mesh side ≡ v))

module _ (mesh : FaceList) (turns : ℕ → ℕ → Bool) (are : AreTurns mesh turns) where
  is_on : (s : Bool) (corner : Side)
      → start_sheet mesh turns (begins_on mesh turns are (face_at mesh corner.face.0) corner.at s).0 corner ≡ s
  is_on s corner = (begins_on mesh turns are (face_at mesh corner.face.0) corner.at s).1

  -- a side over one with an end at the vertex, the end on this sheet
  record IsLiftedAt (s : Bool) (v : ℕ) (side corner : Side) : Type 0 where
    pub upper : Bool
    pub beyond : ℕ
    pub ends : HasEnds mesh side v beyond
    pub ends_over : HasEnds (cover_of mesh turns) (side_over mesh upper side) (over mesh.count s v)
        (over mesh.count (sheet_behind turns s v beyond) beyond)
    pub corner_over : IsCornerOfSide (cover_of mesh turns) (over mesh.count s v) (side_over mesh upper side)
        (corner_on mesh turns are s corner)

  lifted_at : (s : Bool) (v : ℕ) (side corner : Side) → IsSide mesh side → IsCornerOfSide mesh v side corner
      → IsLiftedAt s v side corner
  lifted_at s v side corner is (inl e) =
      let b = begins_on mesh turns are (face_at mesh corner.face.0) corner.at s in
      let on : start_sheet mesh turns b.0 side ≡ s =
      subst (λ (c : Side). start_sheet mesh turns b.0 c ≡ s) e.1 (is_on s corner) in
      let tail : tail_of (cover_of mesh turns) (side_over mesh b.0 side) ≡ over mesh.count s v =
      over_tail mesh turns b.0 side is ∙ ap (λ (p : Bool). over mesh.count p (tail_of mesh side)) on ∙ ap (over mesh.count s) e.0 in
      let w : ℕ = head_of mesh side in
      record {
        upper = b.0;
        beyond = w;
        ends = inl (e.0, refl);
        ends_over = grind (arith, over_head, over);
        corner_over = inl (tail, ap (side_over mesh b.0) e.1);
      }
  lifted_at s v side corner is (inr e) =
      let b = begins_on mesh turns are (face_at mesh corner.face.0) corner.at s in
      let after : Side = side_after mesh side in
      let start : Bool = start_sheet mesh turns b.0 side in
      let w : ℕ = tail_of mesh side in
      let on : start_sheet mesh turns b.0 after ≡ s =
      subst (λ (c : Side). start_sheet mesh turns b.0 c ≡ s) e.1 (is_on s corner) in
      let leads : sheet_behind turns start w v ≡ s =
      ap (λ (x : ℕ). sheet_behind turns start w x) (sym e.0) ∙ sym (sheet_after mesh turns are b.0 side is) ∙ on in
      let came : start ≡ sheet_behind turns s v w =
      sym (back turns are.turned start w v) ∙ ap (λ (p : Bool). sheet_behind turns p v w) leads in
      let head : head_of (cover_of mesh turns) (side_over mesh b.0 side) ≡ over mesh.count s v =
      over_head mesh turns are b.0 side is
      ∙ ap (λ (x : ℕ). over mesh.count (sheet_behind turns start w x) x) e.0
      ∙ ap (λ (p : Bool). over mesh.count p v) leads in
      record {
        upper = b.0;
        beyond = w;
        ends = inr (refl, e.0);
        ends_over = inr (over_tail mesh turns b.0 side is ∙ ap (λ (p : Bool). over mesh.count p w) came, head);
        corner_over = inr (head, ap (side_over mesh b.0) e.1 ∙ sym (over_after mesh turns b.0 side is));
      }

  -- two sides of one edge have the same other end
  same_beyond : (side partner : Side) (v w x : ℕ) → AreOfOneEdge mesh side partner → HasEnds mesh side v w → HasEnds mesh partner v x
      → w ≡ x
  same_beyond side partner v w x one ends others = grind arith

  one_edge : (cover : FaceList) (side partner : Side) (a b : ℕ) → HasEnds cover side a b → HasEnds cover partner a b
      → AreOfOneEdge cover side partner
  one_edge cover side partner a b (inl p) (inl q) = inl (p.0 ∙ sym q.0, p.1 ∙ sym q.1)
  one_edge cover side partner a b (inl p) (inr q) = inr (p.0 ∙ sym q.1, p.1 ∙ sym q.0)
  one_edge cover side partner a b (inr p) (inl q) = inr (p.0 ∙ sym q.1, p.1 ∙ sym q.0)
  one_edge cover side partner a b (inr p) (inr q) = inl (p.0 ∙ sym q.0, p.1 ∙ sym q.1)

  step_on : (s : Bool) (v : ℕ) (corner other : Side) → IsStepAround mesh v corner other
      → IsStepAround (cover_of mesh turns) (over mesh.count s v) (corner_on mesh turns are s corner) (corner_on mesh turns are s other)
  step_on s v corner other h =
      let one : IsLiftedAt s v h.side corner = lifted_at s v h.side corner h.partners.first h.from in
      let two : IsLiftedAt s v h.partner other = lifted_at s v h.partner other h.partners.second h.to in
      let same : one.beyond ≡ two.beyond =
      same_beyond h.side h.partner v one.beyond two.beyond h.partners.one_edge one.ends two.ends in
      let there : HasEnds (cover_of mesh turns) (side_over mesh two.upper h.partner) (over mesh.count s v)
      (over mesh.count (sheet_behind turns s v one.beyond) one.beyond) =
      subst (λ (x : ℕ). HasEnds (cover_of mesh turns) (side_over mesh two.upper h.partner) (over mesh.count s v)
      (over mesh.count (sheet_behind turns s v x) x)) (sym same) two.ends_over in
      record {
        side = side_over mesh one.upper h.side;
        partner = side_over mesh two.upper h.partner;
        partners = record {
          first = over_in_cover mesh turns one.upper h.side h.partners.first;
          second = over_in_cover mesh turns two.upper h.partner h.partners.second;
          different = λ e.
              h.partners.different (over_once mesh turns one.upper two.upper h.side h.partner h.partners.first h.partners.second e);
          one_edge = one_edge (cover_of mesh turns) (side_over mesh one.upper h.side) (side_over mesh two.upper h.partner)
              (over mesh.count s v) (over mesh.count (sheet_behind turns s v one.beyond) one.beyond) one.ends_over there;
        };
        from = one.corner_over;
        to = two.corner_over;
      }

  -- each corner at a vertex of the cover is over one, on the sheet of the vertex
  record IsOnSheet (x : ℕ) (corner : Side) : Type 0 where
    pub low : Side
    pub upper : Bool
    pub in_mesh : IsSide mesh low
    pub is : corner ≡ corner_on mesh turns are upper low
    pub vertex : x ≡ over mesh.count upper (tail_of mesh low)

  on_sheet : (x : ℕ) (corner : Side) → IsCornerAt (cover_of mesh turns) x corner → IsOnSheet x corner
  on_sheet x corner h =
      let above : IsOverSide mesh turns corner = each_side mesh turns corner h.side in
      let s : Bool = start_sheet mesh turns above.upper above.low in
      let b = begins_on mesh turns are (face_at mesh above.low.face.0) above.low.at s in
      let same : above.upper ≡ b.0 = grind (arith, one_start) in
      record {
        low = above.low;
        upper = s;
        in_mesh = above.in_mesh;
        is = above.is ∙ ap (λ (p : Bool). side_over mesh p above.low) same;
        vertex = sym h.vertex ∙ ap (tail_of (cover_of mesh turns)) above.is ∙ over_tail mesh turns above.upper above.low above.in_mesh;
      }

  pub cover_rings : IsFaceList mesh → EachVertexHasOneRing mesh → EachVertexHasOneRing (cover_of mesh turns)
  cover_rings valid ring x used corner other h k =
      let one : IsOnSheet x corner = on_sheet x corner h in
      let two : IsOnSheet x other = on_sheet x other k in
      let u : ℕ = tail_of mesh one.low in
      let same = apart_over mesh.count two.upper one.upper (tail_of mesh two.low) u (corner_below mesh two.low valid two.in_mesh)
      (corner_below mesh one.low valid one.in_mesh) (sym two.vertex ∙ one.vertex) in
      let at_one : IsCornerAt mesh u one.low = record { side = one.in_mesh; vertex = refl } in
      let at_two : IsCornerAt mesh u two.low = record { side = two.in_mesh; vertex = same.below } in
      let low : AreJoined (IsStepAround mesh u) one.low two.low =
      ring u (corner_used mesh u one.low at_one) one.low two.low at_one at_two in
      let there : AreJoined (IsStepAround (cover_of mesh turns) (over mesh.count one.upper u)) (corner_on mesh turns are one.upper one.low)
      (corner_on mesh turns are one.upper two.low) =
      joined_map (IsStepAround mesh u) (IsStepAround (cover_of mesh turns) (over mesh.count one.upper u))
      (corner_on mesh turns are one.upper) (step_on one.upper u) one.low low.0 two.low low.1 in
      let Joined : ℕ → Side → Side → Type 0 = λ y c d. AreJoined (IsStepAround (cover_of mesh turns) y) c d in
      subst (λ (y : ℕ). Joined y corner other) (sym one.vertex)
      (subst (λ (c : Side). Joined (over mesh.count one.upper u) c other) (sym one.is)
      (subst (λ (d : Side). Joined (over mesh.count one.upper u) (corner_on mesh turns are one.upper one.low) d)
      (sym (two.is ∙ ap (λ (p : Bool). corner_on mesh turns are p two.low) same.sheets)) there))

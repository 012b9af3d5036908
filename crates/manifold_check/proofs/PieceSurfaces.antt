-- A part of a mesh that no edge joins to the rest keeps the conditions of a closed manifold, and coherent signs.
use Rattle.manifold_check.proofs.Common.{corner_end, corner_in_mesh, ◌≡◌, ◌⊎◌, inl, inr, ℕ, ◌<◌, false, Bool, List, [], ◌∷◌, length, get_or, refl, ap, sym, ◌∙◌, subst, arith, common_steps, length-map, get_or-map, tail_used, IsSide, side_after, tail_of, head_of, FaceList, submesh, signs_among, IsPath, AreJoined, EachEdgeHasTwoSides, ArePartners, IsCornerOfSide, IsStepAround, HasOneRing, IsClosedManifold, IsCoherent, RunOppositely, is_flipped, start_under, end_under, Side}
use Rattle.manifold_check.proofs.PieceLemmas.{IsPiece, IsRenamed, ComesFrom, renamed_side, named_once, renamed, comes_from_end, edge_up, used_up, length-submesh}
use Rattle.manifold_check.proofs.PieceSides.{sides_alike}

pub two_sides_alone : (mesh : FaceList) (Inside : ℕ → Type 0) (names : List ℕ) → IsPiece mesh Inside names → EachEdgeHasTwoSides mesh
    → EachEdgeHasTwoSides (submesh mesh names)
two_sides_alone mesh Inside names h two u v is =
    let inside : Inside u = (used_up mesh Inside names u h (tail_used (submesh mesh names) u v is)).1 in
    sides_alike mesh Inside names u v h inside ∙ two u v (edge_up mesh Inside names u v h is)

-- two sides are one where they have one name in the whole mesh
same_side : (mesh : FaceList) (Inside : ℕ → Type 0) (names : List ℕ) (side other : Side) → IsPiece mesh Inside names
    → IsSide (submesh mesh names) side → IsSide (submesh mesh names) other → renamed_side names side ≡ renamed_side names other
    → side ≡ other
same_side mesh Inside names side other h is is_other same =
    let face : side.face.0 ≡ other.face.0 =
    named_once mesh Inside names side.face.0 other.face.0 h (renamed mesh Inside names side h is).named
    (renamed mesh Inside names other h is_other).named (ap (λ (x : Side). x.face.0) same) in
    let at : side.at ≡ other.at = ap (λ (x : Side). x.at) same in
    let name : ℕ → ℕ → Side = λ f t. record { face = record { 0 = f }; at = t } in
    ap (λ f. name f side.at) face ∙ ap (name other.face.0) at

pub partners_up : (mesh : FaceList) (Inside : ℕ → Type 0) (names : List ℕ) (side other : Side) → IsPiece mesh Inside names
    → ArePartners (submesh mesh names) side other → ArePartners mesh (renamed_side names side) (renamed_side names other)
partners_up mesh Inside names side other h p = grind (arith, common_steps, renamed, same_side)

pub partners_down : (mesh : FaceList) (Inside : ℕ → Type 0) (names : List ℕ) (side other : Side) → IsPiece mesh Inside names
    → IsSide (submesh mesh names) side → IsSide (submesh mesh names) other
    → ArePartners mesh (renamed_side names side) (renamed_side names other) → ArePartners (submesh mesh names) side other
partners_down mesh Inside names side other h is is_other p = grind (arith, common_steps, renamed)

-- a corner of a side by its name in the whole mesh
corner_down : (mesh : FaceList) (Inside : ℕ → Type 0) (names : List ℕ) (v : ℕ) (side corner : Side) → IsPiece mesh Inside names
    → IsSide (submesh mesh names) side → IsCornerOfSide mesh v (renamed_side names side) corner
    → (there : Side) × IsCornerOfSide (submesh mesh names) v side there × (renamed_side names there ≡ corner)
corner_down mesh Inside names v side corner h is c =
    let r : IsRenamed mesh names side = renamed mesh Inside names side h is in
    elim c [
      | inl e ↦ (side, inl (r.tail ∙ e.0, refl), sym e.1)
      | inr e ↦ (side_after (submesh mesh names) side, inr (r.head ∙ e.0, refl), r.after ∙ sym e.1)
    ]

-- a step that starts at a corner of the submesh
record StepsTo (mesh : FaceList) (names : List ℕ) (v : ℕ) (corner other : Side) : Type 0 where
  there : Side
  in_submesh : IsSide (submesh mesh names) there
  is : renamed_side names there ≡ other
  step : IsStepAround (submesh mesh names) v corner there

step_down : (mesh : FaceList) (Inside : ℕ → Type 0) (names : List ℕ) (v : ℕ) (corner other : Side) → IsPiece mesh Inside names → Inside v
    → IsSide (submesh mesh names) corner → IsStepAround mesh v (renamed_side names corner) other → StepsTo mesh names v corner other
step_down mesh Inside names v corner other h inside is step =
    let at_end : (side : Side) → (tail_of mesh side ≡ v) ⊎ (head_of mesh side ≡ v)
    → (Inside (tail_of mesh side)) ⊎ (Inside (head_of mesh side)) =
    λ side e. elim e [ inl t ↦ inl (subst Inside (sym t) inside) | inr t ↦ inr (subst Inside (sym t) inside) ] in
    let side : ComesFrom mesh names step.side =
    comes_from_end mesh Inside names step.side h step.partners.first
    (at_end step.side (corner_end mesh v step.side (renamed_side names corner) step.from)) in
    let partner : ComesFrom mesh names step.partner =
    comes_from_end mesh Inside names step.partner h step.partners.second
    (at_end step.partner (corner_end mesh v step.partner other step.to)) in
    let from = corner_down mesh Inside names v side.side_there (renamed_side names corner) h side.in_submesh
    (subst (λ s. IsCornerOfSide mesh v s (renamed_side names corner)) (sym side.is) step.from) in
    let to = corner_down mesh Inside names v partner.side_there other h partner.in_submesh
    (subst (λ s. IsCornerOfSide mesh v s other) (sym partner.is) step.to) in
    let is_from : IsSide (submesh mesh names) from.0 =
    corner_in_mesh (submesh mesh names) v side.side_there from.0 side.in_submesh from.1 in
    let is_to : IsSide (submesh mesh names) to.0 = corner_in_mesh (submesh mesh names) v partner.side_there to.0 partner.in_submesh to.1 in
    let same : from.0 ≡ corner = same_side mesh Inside names from.0 corner h is_from is from.2 in
    record {
      there = to.0;
      in_submesh = is_to;
      is = to.2;
      step = record {
        side = side.side_there;
        partner = partner.side_there;
        partners = partners_down mesh Inside names side.side_there partner.side_there h side.in_submesh partner.in_submesh
            (subst (λ s. ArePartners mesh s (renamed_side names partner.side_there)) (sym side.is)
            (subst (ArePartners mesh step.side) (sym partner.is) step.partners));
        from = subst (IsCornerOfSide (submesh mesh names) v side.side_there) same from.1;
        to = to.1;
      };
    }

path_down : (mesh : FaceList) (Inside : ℕ → Type 0) (names : List ℕ) (v : ℕ) (corner : Side) (path : List Side) (other : Side)
    → IsPiece mesh Inside names → Inside v → IsSide (submesh mesh names) corner → IsSide (submesh mesh names) other
    → IsPath (IsStepAround mesh v) (renamed_side names corner) path (renamed_side names other)
    → AreJoined (IsStepAround (submesh mesh names) v) corner other
path_down mesh Inside names v corner [] other h inside is is_other p = ([], same_side mesh Inside names corner other h is is_other p)
path_down mesh Inside names v corner (next ∷ path) other h inside is is_other p =
    let first : StepsTo mesh names v corner next = step_down mesh Inside names v corner next h inside is p.0 in
    let rest : AreJoined (IsStepAround (submesh mesh names) v) first.there other =
    path_down mesh Inside names v first.there path other h inside first.in_submesh is_other
    (subst (λ c. IsPath (IsStepAround mesh v) c path (renamed_side names other)) (sym first.is) p.1) in
    (first.there ∷ rest.0, (first.step, rest.1))

pub one_ring_alone : (mesh : FaceList) (Inside : ℕ → Type 0) (names : List ℕ) (v : ℕ) → IsPiece mesh Inside names → Inside v
    → HasOneRing mesh v → HasOneRing (submesh mesh names) v
one_ring_alone mesh Inside names v h inside ring corner other is_corner is_other =
    let r : IsRenamed mesh names corner = renamed mesh Inside names corner h is_corner.side in
    let s : IsRenamed mesh names other = renamed mesh Inside names other h is_other.side in
    let joined = ring (renamed_side names corner) (renamed_side names other)
    (record { side = r.in_mesh; vertex = sym r.tail ∙ is_corner.vertex })
    (record { side = s.in_mesh; vertex = sym s.tail ∙ is_other.vertex }) in
    path_down mesh Inside names v corner joined.0 other h inside is_corner.side is_other.side joined.1

-- a part with a face keeps the conditions of a closed manifold
pub manifold_alone : (mesh : FaceList) (Inside : ℕ → Type 0) (names : List ℕ) → IsPiece mesh Inside names → 0 < length names
    → IsClosedManifold mesh → IsClosedManifold (submesh mesh names)
manifold_alone mesh Inside names h some closed = record {
  some_face = omega (arith, some, length-submesh mesh names);
  two_sides = two_sides_alone mesh Inside names h closed.two_sides;
  one_ring = λ v used.
      let is = used_up mesh Inside names v h used in
      one_ring_alone mesh Inside names v h is.1 (closed.one_ring v is.0);
}

pub flipped_alike : (names : List ℕ) (signs : List Bool) (f : ℕ) → f < length names
    → is_flipped (signs_among signs names) f ≡ is_flipped signs (get_or names f 0)
flipped_alike names signs f l = get_or-map (is_flipped signs) names f 0 false l

-- a side starts and ends at the same vertices under the signs
pub start_alike : (mesh : FaceList) (Inside : ℕ → Type 0) (names : List ℕ) (signs : List Bool) (side : Side) → IsPiece mesh Inside names
    → IsSide (submesh mesh names) side
    → start_under (submesh mesh names) (signs_among signs names) side ≡ start_under mesh signs (renamed_side names side)
start_alike mesh Inside names signs side h is = grind (arith, common_steps, renamed, head_of, flipped_alike)

pub end_alike : (mesh : FaceList) (Inside : ℕ → Type 0) (names : List ℕ) (signs : List Bool) (side : Side) → IsPiece mesh Inside names
    → IsSide (submesh mesh names) side
    → end_under (submesh mesh names) (signs_among signs names) side ≡ end_under mesh signs (renamed_side names side)
end_alike mesh Inside names signs side h is = grind (arith, common_steps, renamed, head_of, flipped_alike)

-- and signs that are coherent
pub coherent_alone : (mesh : FaceList) (Inside : ℕ → Type 0) (names : List ℕ) (signs : List Bool) → IsPiece mesh Inside names
    → IsCoherent mesh signs → IsCoherent (submesh mesh names) (signs_among signs names)
coherent_alone mesh Inside names signs h c = record {
  each_face = length-map names (is_flipped signs) ∙ sym (length-submesh mesh names);
  opposite = λ side other p.
      let run : RunOppositely mesh signs (renamed_side names side) (renamed_side names other) =
      c.opposite (renamed_side names side) (renamed_side names other) (partners_up mesh Inside names side other h p) in
      record {
        starts = start_alike mesh Inside names signs side h p.first ∙ run.starts ∙ sym (end_alike mesh Inside names signs other h p.second);
        ends = end_alike mesh Inside names signs side h p.first ∙ run.ends ∙ sym (start_alike mesh Inside names signs other h p.second);
      };
}

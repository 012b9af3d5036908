-- No face list is without the one or the other: it is an open surface, or it has a first fault. Nothing is decided for this.
use Rattle.free_forms.proofs.Common.{no_edge_no_side, edge_differs, used_below, no_first_pair, no_first_used, up_to, NoEdgeHasThreeSides, EachVertexHasOneRing, IsLeastUsed, IsFirstOpenFault, IsOpenSurface, HasBoundary, OpenFault, NoFace, EdgeSides, NoBoundary, Pinched, Apart, ◌≡◌, ◌⊎◌, inl, inr, ℕ, zero, suc, ◌<◌, ◌≤◌, true, length, refl, arith, cases_Bool, cases_lt, cases_eq, both_ways, sides_between_swap, FaceList, IsFaceList, is_used, HasOneRing, AreJoinedByWalk, sides_between}
use Rattle.connectivity.proofs.WalkLemmas.{walk_between_ends}
use Rattle.surf_model.specs.Components.{EachTwoAreJoined}

-- nothing is a first fault of the mesh
abbrev HasNoFault : FaceList → Type 0
HasNoFault mesh = (fault : OpenFault) → IsFirstOpenFault mesh fault → ⊥

-- the edge of two vertices has few sides, where they are given the lower first
abbrev IsFew : FaceList → ℕ → ℕ → Type 0
IsFew mesh a b = a < b → sides_between mesh a b ≤ 2

few_up : (mesh : FaceList) → 0 < length mesh.faces → HasNoFault mesh → (a b : ℕ) → IsFew mesh a b
few_up mesh some none =
    no_first_pair (IsFew mesh)
    (λ a b before up.
    elim (cases_lt 2 (sides_between mesh a b)) [
      | inr few ↦ few
      | inl crowded ↦
          absurd
          (none (EdgeSides (record { 0 = a }) (record { 0 = b }) (sides_between mesh a b)) (record {
            some_face = some;
            edge = record { ordered = up; number = refl; crowded = crowded; least = λ x y rise pair. before x y pair rise };
          }))
    ])

few_sides : {mesh : FaceList} → IsFaceList mesh → 0 < length mesh.faces → HasNoFault mesh → NoEdgeHasThreeSides mesh
few_sides {mesh} valid some none u v = grind (arith, few_up, edge_differs, no_edge_no_side, sides_between_swap)

-- there is a least used vertex below n, or no used one
least_below : (mesh : FaceList) (n : ℕ) → ((w : ℕ) → w < n → is_used mesh w ≡ true → ⊥) ⊎ ((u : ℕ) × IsLeastUsed mesh u)
least_below mesh zero = inl (λ w l. absurd (omega arith))
least_below mesh (suc n) =
    elim (least_below mesh n) [
      | inl unused ↦ elim (cases_Bool (is_used mesh n)) [
        | inl used ↦ inr (n, record { used = used; least = unused })
        | inr not ↦ inl (up_to (λ w. is_used mesh w ≡ true → ⊥) n unused (both_ways (is_used mesh n) not))
      ]
      | inr found ↦ inr found
    ]

-- with a boundary, and with few sides at each edge
with_boundary : {mesh : FaceList} → IsFaceList mesh → 0 < length mesh.faces → NoEdgeHasThreeSides mesh → HasNoFault mesh
    → (IsOpenSurface mesh → ⊥) → HasBoundary mesh → ⊥
with_boundary {mesh} valid some few none no_surface rim =
    no_first_used (is_used mesh) (HasOneRing mesh) (λ n used pinched below. none (Pinched (record { 0 = n })) (record {
      some_face = some;
      few_sides = few;
      boundary = rim;
      vertex = record { used = used; pinched = pinched; least = below };
    })) mesh.count (λ rings.
    let ring : EachVertexHasOneRing mesh = λ w used. rings w (used_below mesh w valid used) used in
    let apart : EachTwoAreJoined mesh → ⊥ = λ joined. grind (arith, few_sides) in
    elim (least_below mesh mesh.count) [
      | inl unused ↦ apart (λ u v used_u used_v. absurd (unused u (used_below mesh u valid used_u) used_u))
      | inr found ↦
          no_first_used (is_used mesh) (AreJoinedByWalk mesh found.0) (λ n used no_walk below.
          none (Apart (record { 0 = found.0 }) (record { 0 = n })) (record {
            some_face = some;
            few_sides = few;
            boundary = rim;
            one_fan = ring;
            vertices = record { vertex = found.1; used = used; apart = no_walk; least = below };
          })) mesh.count (λ walks. apart (λ v w used_v used_w.
          walk_between_ends mesh found.0 v w used_v (walks v (used_below mesh v valid used_v) used_v)
          (walks w (used_below mesh w valid used_w) used_w)))
    ])

-- no face list is neither an open surface nor at fault
pub open_or_fault : (mesh : FaceList) → IsFaceList mesh → (IsOpenSurface mesh → ⊥) → ((fault : OpenFault) → IsFirstOpenFault mesh fault → ⊥)
    → ⊥
open_or_fault mesh valid no_surface none =
    elim (cases_eq (length mesh.faces) 0) [
      | inl empty ↦ none NoFace empty
      | inr other ↦
          (let some : 0 < length mesh.faces = omega arith in
          let few : NoEdgeHasThreeSides mesh = few_sides valid some none in
          none NoBoundary (record {
            some_face = some;
            few_sides = few;
            none = with_boundary valid some few none no_surface;
          }))
    ]

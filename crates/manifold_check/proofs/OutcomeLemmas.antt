-- No face list is without the one or the other: it is a closed manifold, or it has a first fault. Nothing is decided for this.
use Rattle.manifold_check.proofs.Common.{edge_swap, edge_differs, used_below, no_first_pair, no_first_used, IsFirstFault, SurfaceFault, NoFace, EdgeSides, Pinched, ◌≡◌, inl, inr, ℕ, ◌<◌, true, length, arith, cases_eq, sides_between_swap, FaceList, IsFaceList, is_edge, is_used, IsClosedManifold, EachEdgeHasTwoSides, HasOneRing, sides_between}

-- nothing is a first fault of the mesh
abbrev HasNoFault : FaceList → Type 0
HasNoFault mesh = (fault : SurfaceFault) → IsFirstFault mesh fault → ⊥

-- the edge of two vertices has two sides, where they are given the lower first
abbrev IsFair : FaceList → ℕ → ℕ → Type 0
IsFair mesh a b = a < b → is_edge mesh a b ≡ true → sides_between mesh a b ≡ 2

fair : (mesh : FaceList) → 0 < length mesh.faces → HasNoFault mesh → (a b : ℕ) → IsFair mesh a b
fair mesh some none =
    no_first_pair (IsFair mesh)
    (λ a b before up is.
    elim (cases_eq (sides_between mesh a b) 2) [
      | inl two ↦ two
      | inr other ↦
          absurd
          (none (EdgeSides (record { 0 = a }) (record { 0 = b }) (sides_between mesh a b)) (record {
            some_face = some;
            edge = grind arith;
          }))
    ])

each_two_sides : (mesh : FaceList) → IsFaceList mesh → 0 < length mesh.faces → HasNoFault mesh → EachEdgeHasTwoSides mesh
each_two_sides mesh valid some none u v is = grind (arith, fair, edge_differs, sides_between_swap, edge_swap)

-- no face list is neither a closed manifold nor at fault
pub closed_or_fault : (mesh : FaceList) → IsFaceList mesh → (IsClosedManifold mesh → ⊥)
    → ((fault : SurfaceFault) → IsFirstFault mesh fault → ⊥) → ⊥
closed_or_fault mesh valid open_one none =
    elim (cases_eq (length mesh.faces) 0) [
      | inl empty ↦ none NoFace empty
      | inr other ↦
          (let some : 0 < length mesh.faces = omega arith in
          let two : EachEdgeHasTwoSides mesh = each_two_sides mesh valid some none in
          no_first_used (is_used mesh) (HasOneRing mesh)
          (λ n used pinched below.
          none (Pinched (record { 0 = n })) (record {
            some_face = some;
            two_sides = two;
            vertex = record { used = used; pinched = pinched; least = below };
          })) mesh.count
          (λ rings. open_one (record {
            some_face = some;
            two_sides = two;
            one_ring = λ w used. rings w (used_below mesh w valid used) used;
          })))
    ]

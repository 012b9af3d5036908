-- How many sides edges have, by the table of the mesh.
use Rattle.free_forms.proofs.Common.{between_by_table, no_edge_no_side, before_by_table, IsFirstOpenFault, IsFirstCrowded, IsLeastCrowdedEdge, IsBoundaryEdge, HasBoundary, EdgeSides, ◌≡◌, ◌≢◌, inl, inr, ℕ, ◌<◌, ◌≤◌, List, length, arith, cases_Bool, common_steps, sides_of_edge, Edge, IsTableOf, IsEdgeOf, edge_in, FaceList, is_edge, VertexName}

pub no_boundary_from_table : {mesh : FaceList} {table : List Edge} → IsTableOf mesh table
    → ((k : ℕ) → k < length table → length (edge_in table k).sides ≢ 1) → HasBoundary mesh → ⊥
no_boundary_from_table {mesh} {table} h none rim =
    between_by_table (λ n. n ≢ 1) mesh table h (λ same. absurd (omega arith)) none rim.0 rim.1 rim.2

pub boundary_from_table : {mesh : FaceList} {table : List Edge} {k : ℕ} → IsTableOf mesh table → IsBoundaryEdge table k → HasBoundary mesh
boundary_from_table {mesh} {table} {k} h rim = grind (arith, common_steps, sides_of_edge)

least_crowded : {mesh : FaceList} {table : List Edge} {k : ℕ} → IsTableOf mesh table → IsFirstCrowded table k
    → IsLeastCrowdedEdge mesh (edge_in table k).low (edge_in table k).high (length (edge_in table k).sides)
least_crowded {mesh} {table} {k} h first =
    let edge : Edge = edge_in table k in
    let is : IsEdgeOf mesh edge = h.edges k _ first.in_table in
    record {
      ordered = is.ordered;
      number = sides_of_edge mesh edge is;
      crowded = first.crowded;
      least = λ a b up before. elim (cases_Bool (is_edge mesh a b)) [
        | inl is_ab ↦ before_by_table (λ n. n ≤ 2) mesh table k h first.in_table first.least a b up is_ab before
        | inr not ↦ omega (arith, no_edge_no_side mesh a b not)
      ];
    }

-- so it is the first fault, as it is read
pub crowded_as_read : {mesh : FaceList} {table : List Edge} {k : ℕ} (low high : VertexName) (sides : ℕ) → 0 < length mesh.faces
    → IsTableOf mesh table → IsFirstCrowded table k → low.0 ≡ (edge_in table k).low → high.0 ≡ (edge_in table k).high
    → sides ≡ length (edge_in table k).sides → IsFirstOpenFault mesh (EdgeSides low high sides)
crowded_as_read low high sides some h first is_low is_high is_sides = grind (arith, common_steps, least_crowded)

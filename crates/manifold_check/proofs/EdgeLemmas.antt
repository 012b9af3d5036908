-- Edges of a mesh that have not two sides, by its table.
use Rattle.manifold_check.proofs.Common.{sides_by_table, before_by_table, IsFirstFault, IsLeastUnevenEdge, EdgeSides, ◌≡◌, ℕ, ◌<◌, List, length, ◌∙◌, IsEdgeBetween, edge_between, table_pair, sides_of_edge, Edge, IsTableOf, IsEdgeOf, edge_in, FaceList, EachEdgeHasTwoSides, VertexName}
use Rattle.manifold_check.specs.UnevenEdges.{IsFirstUneven}

pub two_sides_from_table : (mesh : FaceList) (table : List Edge) → IsTableOf mesh table
    → ((k : ℕ) → k < length table → length (edge_in table k).sides ≡ 2)
    → EachEdgeHasTwoSides mesh
two_sides_from_table mesh table h two u v is =
    let found : IsEdgeBetween table u v = edge_between mesh table u v h is in
    sides_by_table mesh table u v h is ∙ two found.edge found.in_table

least_uneven : (mesh : FaceList) (table : List Edge) (k : ℕ) → IsTableOf mesh table → IsFirstUneven table k
    → IsLeastUnevenEdge mesh (edge_in table k).low (edge_in table k).high (length (edge_in table k).sides)
least_uneven mesh table k h first =
    let edge : Edge = edge_in table k in
    let is : IsEdgeOf mesh edge = h.edges k _ first.in_table in
    record {
      ordered = is.ordered;
      edge = table_pair mesh table k h first.in_table;
      number = sides_of_edge mesh edge is;
      uneven = first.uneven;
      least = before_by_table (λ n. n ≡ 2) mesh table k h first.in_table first.least;
    }

-- so it is the first fault, as it is read
pub uneven_as_read : (mesh : FaceList) (table : List Edge) (k : ℕ) (low high : VertexName) (sides : ℕ) → 0 < length mesh.faces
    → IsTableOf mesh table → IsFirstUneven table k → low.0 ≡ (edge_in table k).low → high.0 ≡ (edge_in table k).high
    → sides ≡ length (edge_in table k).sides → IsFirstFault mesh (EdgeSides low high sides)
uneven_as_read mesh table k low high sides some h first is_low is_high is_sides = record {
  some_face = some;
  edge = rw (is_low, is_high, is_sides) (least_uneven mesh table k h first);
}

-- Sides on the boundary, by the table of the mesh.
use Rattle.doubling.proofs.Common.{arith, ◌≡◌, inl, inr, ℕ, ◌<◌, List, length, ◌==◌, Contains, HasSideEnds, side_of_edge, table_edge, tail_of, head_of, Edge, IsTableOf, IsEdgeOf, edge_in, FaceList, Side}
use Rattle.surf_model.proofs.TableEdgeLemmas.{sides_of_edge, sides_between_swap}
use Rattle.surf_model.specs.Surfaces.{sides_between}

-- the sides between the ends of a side of an edge are those of the edge
ends_count : (mesh : FaceList) (edge : Edge) (side : Side) → IsEdgeOf mesh edge → HasSideEnds mesh edge.low edge.high side
    → length edge.sides ≡ sides_between mesh (tail_of mesh side) (head_of mesh side)
ends_count mesh edge side is (inl e) = grind (arith, sides_of_edge)
ends_count mesh edge side is (inr e) = grind (arith, sides_of_edge, sides_between_swap)

pub alone_by_table : (mesh : FaceList) (table : List Edge) (side : Side) (k n : ℕ) → IsTableOf mesh table → k < length table
    → Contains (edge_in table k).sides side → n ≡ length (edge_in table k).sides
    → (n == 1) ≡ (sides_between mesh (tail_of mesh side) (head_of mesh side) == 1)
alone_by_table mesh table side k n h l has size = grind (arith, table_edge, side_of_edge, ends_count)

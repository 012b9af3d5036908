-- Edges of a mesh, by its table.
use Rattle.connectivity.proofs.Common.{NoEdgeHasThreeSides, ◌≡◌, ◌≢◌, ◌⊎◌, inl, inr, ℕ, ◌<◌, ◌≤◌, true, List, length, sym, ◌∙◌, subst, arith, nat_tests, Any-from_list_any, list_any-from_Any, ends_differ, IsWholeSide, whole_side, table_pair, sides_of_edge, joins_swap, IsSide, side_after, tail_of, head_of, Edge, IsTableOf, side_name, edge_in, FaceList, FaceSide, IsFaceList, all_sides, joins, is_edge, is_used, Side}
pub use Rattle.surf_model.proofs.EdgeLemmas.{used_below}
use Rattle.connectivity.proofs.CornerLemmas.{after_in_mesh, corner_used}

pub edge_swap : (mesh : FaceList) (u v : ℕ) → is_edge mesh u v ≡ true → is_edge mesh v u ≡ true
unfolding is_edge
edge_swap mesh u v is =
    let any = Any-from_list_any (joins u v) (all_sides mesh) is in
    list_any-from_Any (joins v u) (all_sides mesh) (any.0, any.1, any.2, any.3, sym (joins_swap u v any.1) ∙ any.4)

joins_ends : (u v : ℕ) (s : FaceSide) → joins u v s ≡ true → ((s.tail ≡ u) × (s.head ≡ v)) ⊎ ((s.tail ≡ v) × (s.head ≡ u))
joins_ends u v s h = grind (arith, nat_tests)

-- some side joins the two vertices of an edge
pub record HasSideBetween (mesh : FaceList) (u v : ℕ) : Type 0 where
  pub side : Side
  pub in_mesh : IsSide mesh side
  pub ends : ((tail_of mesh side ≡ u) × (head_of mesh side ≡ v)) ⊎ ((tail_of mesh side ≡ v) × (head_of mesh side ≡ u))

pub side_between : (mesh : FaceList) (u v : ℕ) → is_edge mesh u v ≡ true → HasSideBetween mesh u v
unfolding is_edge
side_between mesh u v is =
    let any = Any-from_list_any (joins u v) (all_sides mesh) is in
    let whole : IsWholeSide mesh any.0 any.1 = subst (IsWholeSide mesh any.0) any.3 (whole_side mesh any.0 any.1 any.2) in
    record {
      side = side_name any.1;
      in_mesh = whole.side_of;
      ends = elim (joins_ends u v any.1 any.4) [
        | inl e ↦ inl (sym whole.tail ∙ e.0, sym whole.head ∙ e.1)
        | inr e ↦ inr (sym whole.tail ∙ e.0, sym whole.head ∙ e.1)
      ];
    }

-- both ends of an edge are used
pub edge_used : (mesh : FaceList) (u v : ℕ) → is_edge mesh u v ≡ true → is_used mesh v ≡ true
edge_used mesh u v is =
    let found : HasSideBetween mesh u v = side_between mesh u v is in
    elim found.ends [
      | inl e ↦ corner_used mesh v (side_after mesh found.side)
          (record { side = after_in_mesh mesh found.side found.in_mesh; vertex = e.1 })
      | inr e ↦ corner_used mesh v found.side (record { side = found.in_mesh; vertex = e.0 })
    ]

pub edge_differs : (mesh : FaceList) (u v : ℕ) → IsFaceList mesh → is_edge mesh u v ≡ true → u ≢ v
edge_differs mesh u v valid is same =
    let found : HasSideBetween mesh u v = side_between mesh u v is in
    ends_differ mesh found.side valid found.in_mesh
    (elim found.ends [
      | inl e ↦ e.0 ∙ same ∙ sym e.1
      | inr e ↦ e.0 ∙ sym same ∙ sym e.1
    ])

pub ends_below : (mesh : FaceList) (table : List Edge) (k : ℕ) → IsFaceList mesh → IsTableOf mesh table → k < length table
    → ((edge_in table k).low < mesh.count) × ((edge_in table k).high < mesh.count)
ends_below mesh table k valid h l =
    let edge : Edge = edge_in table k in
    let is : is_edge mesh edge.low edge.high ≡ true = table_pair mesh table k h l in (
      used_below mesh edge.low valid (edge_used mesh edge.high edge.low (edge_swap mesh edge.low edge.high is)),
      used_below mesh edge.high valid (edge_used mesh edge.low edge.high is),
    )

pub few_in_table : (mesh : FaceList) (table : List Edge) (k : ℕ) → IsTableOf mesh table → NoEdgeHasThreeSides mesh → k < length table
    → length (edge_in table k).sides ≤ 2
few_in_table mesh table k h few l =
    omega (arith, sides_of_edge mesh (edge_in table k) (h.edges k _ l), few (edge_in table k).low (edge_in table k).high)

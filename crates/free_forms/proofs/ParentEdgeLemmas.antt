-- The parent on an edge, found by the table of the mesh; and the way along it.
use Rattle.free_forms.proofs.Common.{OpenView, HasFaceParents, Joins, IsParentEdge, parent_of, expansion, IsWayAlong, ◌≡◌, ◌⊎◌, inl, ℕ, zero, suc, ◌-◌, ◌<◌, ◌≤◌, Bool, true, false, not, eqb, List, [], ◌∷◌, ◌++◌, length, get_or, refl, ap, sym, ◌∙◌, subst, arith, eqb-true, reverse-append, get_or_from_slice_get, All, Some, slice_get, reverse, cond, step_within, IsSideOfEdge, IsEdgeOfSide, side_of_edge, edge_has_side, edge_of_side, table_edge, ends_agree, corner_after, meet, IsSide, tail_of, Edge, IsTableOf, HasEnds, edge_in, FaceList, face_at, next_corner, Side, after_back, beyond_more, vertices_beyond}
use Rattle.free_forms.proofs.Expansions.{ends_same, from_tail, from_head, parent_in_mesh}

sides_meet : (t h u v low high : ℕ) → ((t ≡ low) × (h ≡ high)) ⊎ ((t ≡ high) × (h ≡ low))
    → ((low ≡ u) × (high ≡ v)) ⊎ ((low ≡ v) × (high ≡ u))
    → ((t ≡ u) × (h ≡ v)) ⊎ ((t ≡ v) × (h ≡ u))
sides_meet t h u v low high first second = grind arith

-- a side of the edge of two vertices joins them
pub record IsSideBetween (mesh : FaceList) (u v : ℕ) (side : Side) : Type 0 where
  pub side_of : IsSide mesh side
  pub joined : Joins mesh side u v

pub side_of_found : {mesh : FaceList} {table : List Edge} (k j u v : ℕ) (side : Side) → IsTableOf mesh table → k < length table
    → HasEnds u v (edge_in table k) → j < length (edge_in table k).sides → slice_get (edge_in table k).sides j ≡ Some side
    → IsSideBetween mesh u v side
side_of_found {mesh} {table} k j u v side h l ends few is =
    let edge : Edge = edge_in table k in
    let here : get_or edge.sides j side ≡ side = get_or_from_slice_get edge.sides j side side is in
    let stands : IsSideOfEdge mesh edge side =
    subst (IsSideOfEdge mesh edge) here (side_of_edge mesh edge j side (table_edge mesh table k h l) few) in grind (arith, sides_meet)

-- vertices without an edge have no parent edge
pub no_edge_no_parent : {surface : OpenView} {table : List Edge} (u v : ℕ) → HasFaceParents surface → IsTableOf surface.mesh table
    → All (λ (edge : Edge). HasEnds u v edge → ⊥) table → IsParentEdge surface u v → ⊥
no_edge_no_parent {surface} {table} u v has h none parent =
    let side : Side = parent_of surface parent.0 in
    let found : IsEdgeOfSide surface.mesh table side = edge_of_side surface.mesh table side h (parent_in_mesh parent.0 has parent.1) in
    none found.edge _ found.in_table (ends_agree _ _ _ _ u v parent.2 found.ends)

-- nor do those whose edge has no parent among its sides
pub no_side_no_parent : {surface : OpenView} {table : List Edge} (k u v : ℕ) → HasFaceParents surface → IsTableOf surface.mesh table
    → k < length table → HasEnds u v (edge_in table k)
    → ((j : ℕ) (d : Side) → j < length (edge_in table k).sides
    → get_or surface.places (get_or (edge_in table k).sides j d).face.0 0 ≡ (get_or (edge_in table k).sides j d).at → ⊥)
    → IsParentEdge surface u v → ⊥
no_side_no_parent {surface} {table} k u v has h l ends none parent =
    let edge : Edge = edge_in table k in
    let side : Side = parent_of surface parent.0 in
    let found = edge_has_side surface.mesh edge side (table_edge surface.mesh table k h l) (parent_in_mesh parent.0 has parent.1)
    (ends_same _ _ edge.low edge.high u v parent.2 ends) in grind arith

-- a side at the place of its face's parent is the parent
pub is_parent : (surface : OpenView) (side : Side) → get_or surface.places side.face.0 0 ≡ side.at → side ≡ parent_of surface side.face.0
is_parent surface side is = grind arith

reverse_first : (x : ℕ) (xs : List ℕ) → reverse (x ∷ xs) ≡ reverse xs ++ x ∷ []
reverse_first x xs = reverse-append (x ∷ []) xs

-- a way round a face, read backwards
reverse_beyond : (ring : List ℕ) (rising : Bool) (c k : ℕ) → c < length ring
    → reverse (vertices_beyond ring rising c (suc k))
    ≡ get_or ring (corner_after rising (length ring) c (suc k)) 0
    ∷ vertices_beyond ring (not rising) (corner_after rising (length ring) c (suc k)) k
reverse_beyond ring rising c zero l = refl
reverse_beyond ring rising c (suc k) l =
    let m : ℕ = length ring in
    let next : ℕ = next_corner rising m c in
    let within : next < m = step_within rising m c l in
    let far : ℕ = corner_after rising m next (suc k) in
    let near : corner_after (not rising) m far (suc k) ≡ next = after_back rising m next (suc k) within in
    reverse_first (get_or ring next 0) (vertices_beyond ring rising next (suc k))
    ∙ ap (λ (w : List ℕ). w ++ get_or ring next 0 ∷ []) (reverse_beyond ring rising next k within)
    ∙ ap (λ (w : List ℕ). get_or ring far 0 ∷ w)
    (ap (λ (x : ℕ). vertices_beyond ring (not rising) far k ++ get_or ring x 0 ∷ []) (sym near) ∙ sym (beyond_more ring (not rising) far k))

-- all corners but one, read backwards
pub reverse_others : (ring : List ℕ) (rising : Bool) (c : ℕ) → c < length ring → 2 ≤ length ring
    → reverse (vertices_beyond ring rising c (length ring - 1)) ≡ vertices_beyond ring (not rising) c (length ring - 1)
reverse_others ring rising c l some =
    let m : ℕ = length ring in
    let k : ℕ = m - 2 in
    let one : m - (m - 1) ≡ 1 = omega arith in
    let far : corner_after rising m c (suc k) ≡ next_corner (not rising) m c = grind (arith, meet) in grind (arith, reverse_beyond)

-- the way along a parent, by where it begins
pub way_found : (surface : OpenView) (side : Side) (u corner : ℕ) (forward : Bool) → forward ≡ eqb (tail_of surface.mesh side) u
    → corner ≡ cond forward side.at (next_corner true (length (face_at surface.mesh side.face.0)) side.at)
    → IsWayAlong surface side u corner forward
way_found surface side u corner true e is = inl (eqb-true (tail_of surface.mesh side) u (sym e), is, refl)
way_found surface side u corner false e is = grind arith

-- the vertices of the face but one, read backwards, are the expansion
pub expansion_read : {surface : OpenView} (f u corner : ℕ) (forward : Bool) → HasFaceParents surface → f < length surface.mesh.faces
    → IsWayAlong surface (parent_of surface f) u corner forward
    → reverse (vertices_beyond (face_at surface.mesh f) forward corner (length (face_at surface.mesh f) - 1))
    ≡ expansion surface.mesh (parent_of surface f) u
expansion_read {surface} f u corner forward has l way = grind (arith, reverse_others, from_tail, step_within, from_head)

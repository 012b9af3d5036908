-- Edges of a mesh without its table: both ways, between used vertices, and round each face.
use Rattle.surf_model.proofs.Common.{◌≡◌, ◌≢◌, ◌⊎◌, inl, inr, ℕ, ◌<◌, Bool, true, false, eqb, List, [], length, get_or, refl, sym, ◌∙◌, subst, arith, nat_tests, Any-from_list_any, list_any-from_Any, list_any, Contains, IsSide, tail_of, head_of, FaceList, FaceSide, IsFace, IsFaceList, face_at, all_sides, next_corner, joins, is_edge, is_used, Side}
use Rattle.surf_model.proofs.NumberLemmas.{face_side}
use Rattle.surf_model.proofs.TableLemmas.{joins_swap, list_any_agree, joins_names, names, names_mesh, face_side_in, next_within}

pub edge_swap : (mesh : FaceList) (u v : ℕ) → is_edge mesh u v ≡ is_edge mesh v u
unfolding is_edge
edge_swap mesh u v = list_any_agree (joins u v) (joins v u) (joins_swap u v) (all_sides mesh)

edge_end_used : (mesh : FaceList) (u v end : ℕ) → is_edge mesh u v ≡ true → (u ≡ end) ⊎ (v ≡ end) → is_used mesh end ≡ true
unfolding is_edge
edge_end_used mesh u v end e is =
    let any = Any-from_list_any (joins u v) (all_sides mesh) e in
    sym (names_mesh mesh end) ∙ list_any-from_Any (names end) (all_sides mesh)
    (any.0, any.1, any.2, any.3, joins_names u v end any.1 any.4 is)

pub tail_used : (mesh : FaceList) (u v : ℕ) → is_edge mesh u v ≡ true → is_used mesh u ≡ true
tail_used mesh u v e = edge_end_used mesh u v u e (inl refl)

pub head_used : (mesh : FaceList) (u v : ℕ) → is_edge mesh u v ≡ true → is_used mesh v ≡ true
head_used mesh u v e = edge_end_used mesh u v v e (inr refl)

-- a corner and the one after it form an edge
ring_edge : (mesh : FaceList) (f t : ℕ) → f < length mesh.faces → t < length (face_at mesh f)
    → is_edge mesh (get_or (face_at mesh f) t 0) (get_or (face_at mesh f) (next_corner true (length (face_at mesh f)) t) 0) ≡ true
unfolding is_edge
ring_edge mesh f t in_list in_face =
    let side : FaceSide = face_side f (face_at mesh f) t in
    let has : Contains (all_sides mesh) side = face_side_in mesh f t in_list in_face in
    let joined : joins side.tail side.head side ≡ true = grind (arith, nat_tests) in
    list_any-from_Any (joins side.tail side.head) (all_sides mesh) (has.0, side, has.1, has.2, joined)

pub back_within : (m t : ℕ) → t < m → next_corner false m t < m
back_within m t h = grind (arith, nat_tests)

pub there_and_back : (m t : ℕ) → t < m → next_corner true m (next_corner false m t) ≡ t
there_and_back m t h = grind (arith, nat_tests)

pub step_within : (rising : Bool) (m t : ℕ) → t < m → next_corner rising m t < m
step_within true m t h = next_within m t h
step_within false m t h = back_within m t h

-- the same in either direction round the face
pub step_edge : (mesh : FaceList) (f : ℕ) (rising : Bool) (t : ℕ) → f < length mesh.faces → t < length (face_at mesh f)
    → is_edge mesh (get_or (face_at mesh f) t 0) (get_or (face_at mesh f) (next_corner rising (length (face_at mesh f)) t) 0) ≡ true
step_edge mesh f true t in_list in_face = ring_edge mesh f t in_list in_face
step_edge mesh f false t in_list in_face =
    let m : ℕ = length (face_at mesh f) in
    let back : ℕ = next_corner false m t in
    let there : is_edge mesh (get_or (face_at mesh f) back 0) (get_or (face_at mesh f) (next_corner true m back) 0) ≡ true =
    ring_edge mesh f back in_list (back_within m t in_face) in grind (arith, edge_swap, there_and_back)

pub corner_used : (mesh : FaceList) (f t : ℕ) → f < length mesh.faces → t < length (face_at mesh f)
    → is_used mesh (get_or (face_at mesh f) t 0) ≡ true
corner_used mesh f t in_list in_face = tail_used mesh _ _ (ring_edge mesh f t in_list in_face)

-- the two ends of a side are different vertices
pub ends_differ : (mesh : FaceList) (side : Side) → IsFaceList mesh → IsSide mesh side → tail_of mesh side ≢ head_of mesh side
ends_differ mesh side valid h = (valid.faces side.face.0 [] h.face).neighbours side.at h.place

pub used_below : (mesh : FaceList) (v : ℕ) → IsFaceList mesh → is_used mesh v ≡ true → v < mesh.count
unfolding is_used
used_below mesh v h is =
    let face = Any-from_list_any (λ (face : List ℕ). list_any (λ corner. eqb corner v) face) mesh.faces is in
    let corner = Any-from_list_any (λ corner. eqb corner v) face.1 face.4 in
    let is_face : IsFace mesh.count face.1 = subst (IsFace mesh.count) face.3 (h.faces face.0 face.1 face.2) in
    let below : get_or face.1 corner.0 corner.1 < mesh.count = is_face.in_range corner.0 corner.1 corner.2 in grind arith

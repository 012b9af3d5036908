-- Which sides are the two sides of one edge, said of the table of the mesh.
use Rattle.surf_model.proofs.Common.{◌≡◌, ◌⊎◌, inl, inr, ℕ, suc, ◌+◌, ◌-◌, ◌<◌, Bool, true, List, [], ◌∷◌, ◌++◌, length, get_or, take, ap, sym, ◌∙◌, subst, arith, length-append, cases_lt, nat_tests, length-map, get_or-map, get_or_default, get_or_append_left, get_or-append_right, All-filter, filter_passes, All-contains, AllPairs-filter, sum_by-cons, enumerate_from, AllPairs, Any, Contains, filter, flat_map, sum_by, IsSide, side_number, tail_of, head_of, Edge, IsTableOf, IsEdgeOf, side_name, edge_in, FaceList, FaceSide, face_at, all_sides, joins, ArePartners, Side}
use Rattle.surf_model.proofs.NumberLemmas.{face_side, sides_at, length-sides_of_face, get_or-sides_of_face}
use Rattle.surf_model.proofs.TableLemmas.{face_side_in, Contains-filter}

-- side number k of the faces, where the first of them is face n
record IsNumberOf (n : ℕ) (faces : List (List ℕ)) (k : ℕ) (side : FaceSide) : Type 0 where
  pub place : ℕ
  pub at : ℕ
  pub in_list : place < length faces
  pub in_face : at < length (get_or faces place [])
  pub is : side ≡ face_side (n + place) (get_or faces place []) at
  pub number : sum_by length (take place faces) + at ≡ k

side_at_number : (n : ℕ) (faces : List (List ℕ)) (k : ℕ) (d : FaceSide) → k < length (flat_map sides_at (enumerate_from n faces))
    → IsNumberOf n faces k (get_or (flat_map sides_at (enumerate_from n faces)) k d)
side_at_number n [] k d l = absurd (omega arith)
side_at_number n (face ∷ faces) k d l =
    let first : List FaceSide = sides_at (n, face) in
    let others : List FaceSide = flat_map sides_at (enumerate_from (n + 1) faces) in
    let size : length first ≡ length face = length-sides_of_face n face in
    elim (cases_lt k (length face)) [
      | inl here ↦
          (let start : n + 0 ≡ n = omega arith in
          record {
            place = 0;
            at = k;
            in_list = omega arith;
            in_face = here;
            is = get_or_append_left first others d k (omega (arith, here, size)) ∙ get_or-sides_of_face n face k d here
                ∙ ap (λ f. face_side f face k) (sym start);
            number = omega arith;
          })
      | inr later ↦
          (let rest : ℕ = k - length face in
          let total : length (first ++ others) ≡ length first + length others = length-append first others in
          let next : IsNumberOf (n + 1) faces rest (get_or others rest d) =
          side_at_number (n + 1) faces rest d (omega (arith, l, later, size, total)) in
          let start : n + 1 + next.place ≡ n + suc next.place = omega arith in
          record {
            place = suc next.place;
            at = next.at;
            in_list = omega (arith, next.in_list);
            in_face = next.in_face;
            is =
                get_or-append_right first others (length face) k d size later ∙ next.is
                ∙ ap (λ f. face_side f (get_or faces next.place []) next.at) start;
            number = omega (arith, next.number, later, sum_by-cons {X = List ℕ} length face (take next.place faces));
          })
    ]

-- a side with its vertices, and its number
pub record IsWholeSide (mesh : FaceList) (k : ℕ) (side : FaceSide) : Type 0 where
  pub side_of : IsSide mesh (side_name side)
  pub number : side_number mesh (side_name side) ≡ k
  pub tail : side.tail ≡ tail_of mesh (side_name side)
  pub head : side.head ≡ head_of mesh (side_name side)

pub whole_side : (mesh : FaceList) (k : ℕ) (d : FaceSide) → k < length (all_sides mesh) → IsWholeSide mesh k (get_or (all_sides mesh) k d)
unfolding all_sides
whole_side mesh k d l =
    let found : IsNumberOf 0 mesh.faces k (get_or (all_sides mesh) k d) = side_at_number 0 mesh.faces k d l in
    let start : 0 + found.place ≡ found.place = omega arith in
    grind arith

-- the two vertices at the ends of a side, in either order
abbrev pub HasSideEnds : FaceList → ℕ → ℕ → Side → Type 0
HasSideEnds mesh low high side =
    ((tail_of mesh side ≡ low) × (head_of mesh side ≡ high)) ⊎ ((tail_of mesh side ≡ high) × (head_of mesh side ≡ low))

joins_ends : (u v a b : ℕ) (side : FaceSide) → joins u v side ≡ true → side.tail ≡ a → side.head ≡ b → ((a ≡ u) × (b ≡ v))
    ⊎ ((a ≡ v) × (b ≡ u))
joins_ends u v a b side h is_tail is_head = grind (arith, nat_tests)

ends_join : (u v : ℕ) (side : FaceSide) → ((side.tail ≡ u) × (side.head ≡ v)) ⊎ ((side.tail ≡ v) × (side.head ≡ u)) → joins u v side ≡ true
ends_join u v side h = grind (arith, nat_tests)

no_side : FaceSide
no_side = record { face = 0; at = 0; tail = 0; head = 0 }

-- a side of an edge of the table
pub record IsSideOfEdge (mesh : FaceList) (edge : Edge) (side : Side) : Type 0 where
  pub side_of : IsSide mesh side
  pub ends : HasSideEnds mesh edge.low edge.high side

pub side_of_edge : (mesh : FaceList) (edge : Edge) (k : ℕ) (d : Side) → IsEdgeOf mesh edge → k < length edge.sides
    → IsSideOfEdge mesh edge (get_or edge.sides k d)
side_of_edge mesh edge k d h l =
    let p : FaceSide → Bool = joins edge.low edge.high in
    let sides : List FaceSide = filter p (all_sides mesh) in
    let size : length edge.sides ≡ length sides = ap (λ (xs : List Side). length xs) h.sides ∙ length-map sides side_name in
    let few : k < length sides = omega (arith, l, size) in
    let side : FaceSide = get_or sides k no_side in
    let passes : p side ≡ true = filter_passes p (all_sides mesh) k no_side few in
    let whole : (j : ℕ) × IsWholeSide mesh j side =
    All-filter p (λ (s : FaceSide). (j : ℕ) × IsWholeSide mesh j s) (all_sides mesh) (λ j e b. (j, whole_side mesh j e b)) k no_side few in
    let is : get_or edge.sides k d ≡ side_name side = ap (λ (xs : List Side). get_or xs k d) h.sides
    ∙ get_or-map side_name sides k no_side d few in
    subst (IsSideOfEdge mesh edge) (sym is) (record {
      side_of = whole.1.side_of;
      ends = joins_ends edge.low edge.high (tail_of mesh (side_name side)) (head_of mesh (side_name side)) side passes whole.1.tail
          whole.1.head;
    })

-- each side of the mesh with the edge's ends is one of its sides
pub edge_has_side : (mesh : FaceList) (edge : Edge) (side : Side) → IsEdgeOf mesh edge → IsSide mesh side
    → HasSideEnds mesh edge.low edge.high side
    → Contains edge.sides side
edge_has_side mesh edge side h in_mesh ends =
    let p : FaceSide → Bool = joins edge.low edge.high in
    let whole : FaceSide = face_side side.face.0 (face_at mesh side.face.0) side.at in
    let all : Contains (all_sides mesh) whole = face_side_in mesh side.face.0 side.at in_mesh.face in_mesh.place in
    let kept : Contains (filter p (all_sides mesh)) whole = grind (arith, Contains-filter, ends_join) in
    subst (λ (xs : List Side). Contains xs side) (sym h.sides) (
      kept.0,
      omega (arith, kept.1, length-map (filter p (all_sides mesh)) side_name),
      get_or-map side_name (filter p (all_sides mesh)) kept.0 whole side kept.1 ∙ ap side_name kept.2,
    )

-- no side stands twice in an edge
pub edge_sides_rise : (mesh : FaceList) (edge : Edge) → IsEdgeOf mesh edge
    → AllPairs (λ side other. side_number mesh side < side_number mesh other) edge.sides
edge_sides_rise mesh edge h i j d less l =
    let p : FaceSide → Bool = joins edge.low edge.high in
    let sides : List FaceSide = filter p (all_sides mesh) in
    let size : length edge.sides ≡ length sides = ap (λ (xs : List Side). length xs) h.sides ∙ length-map sides side_name in
    let few : j < length sides = omega (arith, l, size) in
    let is : (k : ℕ) → k < length sides → get_or edge.sides k d ≡ side_name (get_or sides k no_side) =
    λ k b. ap (λ (xs : List Side). get_or xs k d) h.sides ∙ get_or-map side_name sides k no_side d b in
    let rise : AllPairs (λ (s t : FaceSide). side_number mesh (side_name s) < side_number mesh (side_name t)) (all_sides mesh) =
    λ a b e s t. omega (arith, (whole_side mesh a e (omega arith)).number, (whole_side mesh b e t).number) in
    let here : side_number mesh (side_name (get_or sides i no_side)) < side_number mesh (side_name (get_or sides j no_side)) =
    AllPairs-filter (λ (s t : FaceSide). side_number mesh (side_name s) < side_number mesh (side_name t)) p (all_sides mesh) rise i j
    no_side less few in grind (arith, no_side)

-- the edge of a side, by its place in the table
pub record IsEdgeOfSide (mesh : FaceList) (table : List Edge) (side : Side) : Type 0 where
  pub edge : ℕ
  pub in_table : edge < length table
  pub ends : HasSideEnds mesh (edge_in table edge).low (edge_in table edge).high side

pub table_edge : (mesh : FaceList) (table : List Edge) (k : ℕ) → IsTableOf mesh table → k < length table → IsEdgeOf mesh (edge_in table k)
table_edge mesh table k h l = h.edges k _ l

pub edge_of_side : (mesh : FaceList) (table : List Edge) (side : Side) → IsTableOf mesh table → IsSide mesh side
    → IsEdgeOfSide mesh table side
edge_of_side mesh table side h in_mesh =
    let whole : FaceSide = face_side side.face.0 (face_at mesh side.face.0) side.at in
    let all : Contains (all_sides mesh) whole = face_side_in mesh side.face.0 side.at in_mesh.face in_mesh.place in
    let found = All-contains (λ (s : FaceSide). Any (λ (e : Edge). joins e.low e.high s ≡ true) table) (all_sides mesh) whole h.complete
    all in
    let is : edge_in table found.0 ≡ found.1 = get_or_default table found.0 _ found.1 found.2 ∙ found.3 in
    grind (arith, joins_ends, head_of)

-- two sides with the same ends
pub ends_agree : (t h u v low high : ℕ) → ((t ≡ low) × (h ≡ high)) ⊎ ((t ≡ high) × (h ≡ low)) → ((t ≡ u) × (h ≡ v)) ⊎ ((t ≡ v) × (h ≡ u))
    → ((u ≡ low) × (v ≡ high)) ⊎ ((u ≡ high) × (v ≡ low))
ends_agree t h u v low high first second = grind arith

ends_same : (t h u v low high : ℕ) → ((t ≡ low) × (h ≡ high)) ⊎ ((t ≡ high) × (h ≡ low)) → ((u ≡ low) × (v ≡ high))
    ⊎ ((u ≡ high) × (v ≡ low))
    → ((t ≡ u) × (h ≡ v)) ⊎ ((t ≡ v) × (h ≡ u))
ends_same t h u v low high first second = grind arith

-- two sides of an edge of the table are partners
pub partners_of_edge : (mesh : FaceList) (table : List Edge) (k i j : ℕ) (d : Side) → IsTableOf mesh table → k < length table
    → i < j → j < length (edge_in table k).sides → ArePartners mesh (get_or (edge_in table k).sides i d)
    (get_or (edge_in table k).sides j d)
partners_of_edge mesh table k i j d h l less few =
    let edge : Edge = edge_in table k in
    let is : IsEdgeOf mesh edge = table_edge mesh table k h l in
    let first : IsSideOfEdge mesh edge (get_or edge.sides i d) = side_of_edge mesh edge i d is (omega arith) in
    let second : IsSideOfEdge mesh edge (get_or edge.sides j d) = side_of_edge mesh edge j d is few in
    let apart = edge_sides_rise mesh edge is i j d less few in grind (arith, ends_same)

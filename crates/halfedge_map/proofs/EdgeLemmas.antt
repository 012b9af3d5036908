-- The edges of the table and their darts.
use Rattle.halfedge_map.proofs.Common.{darts_of, side_of, origin_of, target_of, twin_of, edge_of, OrientedMesh, IsOrientedSurface, rotations_of, IsDartFrom, IsEdgeWithEnds, ◌≡◌, ◌≢◌, ◌⊎◌, inl, inr, ℕ, zero, suc, ◌<◌, Bool, true, false, cond, List, length, get_or, refl, ap, sym, ◌∙◌, subst, arith, cases_lt, common_steps, get_or_default, get_or-map, length-map, Any-from_list_any, list_any_at, ◌↔◌, Contains, Some, filter, slice_get, unwrap_or, face_side, length-all_sides, IsSide, side_number, Edge, IsEdgeOf, IsTableOf, IsPairBefore, HasEnds, edge_in, side_name, FaceList, FaceSide, face_at, all_sides, next_corner, joins, is_edge, is_flipped, Side}
use Rattle.std.proofs.lemmas.Option.{slice_get_within, get_or_from_slice_get}
use Rattle.surf_model.proofs.PartnerLemmas.{IsSideOfEdge, side_of_edge, table_edge, edge_sides_rise}
use Rattle.surf_model.proofs.TableLemmas.{edge_from_table}
use Rattle.surf_model.specs.EdgeDarts.{IsNextInEdge, edge_darts_of}
use Rattle.halfedge_map.proofs.NumberLemmas.{IsNumberOf, number_below}
use Rattle.halfedge_map.proofs.DartLemmas.{side_at, numbered}
use Rattle.halfedge_map.proofs.ListLemmas.{IsFirstBelow, first_passes}
use Rattle.halfedge_map.proofs.TwinLemmas.{along, twin_within, twin-twin, twin_along, along_edge, origin-twin, no_loop, joins_read}
use Rattle.halfedge_map.proofs.TwinLemmas.{joins_from, joins_own, joins_both, side_is}

-- a side that joins the ends of one that joins u and v joins them too
joins_on : (u v : ℕ) (a b : FaceSide) → joins u v a ≡ true → joins a.tail a.head b ≡ true → joins u v b ≡ true
joins_on u v a b h k = grind (arith, joins_read, joins_from)

-- a side joins the ends of one pair alone
record AreSame (a b c d : ℕ) : Type 0 where
  low : a ≡ c
  high : b ≡ d

one_pair : (a b c d : ℕ) (x : FaceSide) → a < b → c < d → joins a b x ≡ true → joins c d x ≡ true → AreSame a b c d
one_pair a b c d x l k h i = grind (arith, joins_read)

-- the edge in a table whose ends a side joins
pub joins_edge : List Edge → ℕ → FaceSide → Bool
joins_edge table k side = joins (edge_in table k).low (edge_in table k).high side

edge_ordered : (mesh : FaceList) (table : List Edge) (k : ℕ) → IsTableOf mesh table → k < length table
    → (edge_in table k).low < (edge_in table k).high
edge_ordered mesh table k h l = (h.edges k _ l).ordered

not_before : (a b c d : ℕ) → AreSame a b c d → IsPairBefore a b c d → ⊥
not_before a b c d same h = elim h [ inl x ↦ omega (arith, same.low) | inr x ↦ omega (arith, x.1, same.high) ]

not_after : (a b c d : ℕ) → AreSame a b c d → IsPairBefore c d a b → ⊥
not_after a b c d same h = elim h [ inl x ↦ omega (arith, same.low) | inr x ↦ omega (arith, x.1, same.high) ]

pub one_edge : (mesh : FaceList) (table : List Edge) (i j : ℕ) (side : FaceSide) → IsTableOf mesh table → i < length table
    → j < length table
    → joins_edge table i side ≡ true → joins_edge table j side ≡ true → i ≡ j
unfolding joins_edge
one_edge mesh table i j side h l k p q = grind (arith, one_pair, edge_ordered, not_before, not_after)

-- what the edge of a dart is
pub record IsEdgeOfDart (s : OrientedMesh) (d k : ℕ) : Type 0 where
  pub within : k < length s.table
  pub joined : joins_edge s.table k (side_of s d) ≡ true

pub dart_has_edge : (s : OrientedMesh) → IsOrientedSurface s → (d : ℕ) → d < darts_of s → IsEdgeOfDart s d (edge_of s d)
unfolding edge_of joins_edge
dart_has_edge s h d l =
    let side : FaceSide = side_of s d in
    let some = h.table.complete d side (omega (arith, l, length-all_sides s.mesh)) in
    let k : ℕ = some.0 in
    let edge : edge_in s.table k ≡ some.1 = get_or_default s.table k _ some.1 some.2 ∙ some.3 in
    let read : joins some.1.low some.1.high side ≡ true = ap (joins some.1.low some.1.high) (sym (side_is s d side l)) ∙ some.4 in
    let here : joins (edge_in s.table k).low (edge_in s.table k).high side ≡ true = grind arith in
    let first : IsFirstBelow (λ k. joins (edge_in s.table k).low (edge_in s.table k).high side) (length s.table) =
    first_passes (λ k. joins (edge_in s.table k).low (edge_in s.table k).high side) (length s.table) k some.2 here in
    let is : edge_of s d ≡ first.number = ap (λ r. unwrap_or r 0) first.is in
    subst (IsEdgeOfDart s d) (sym is) (record { within = first.within; joined = first.passes })

-- an edge whose ends the dart joins is its edge
pub edge_is : (s : OrientedMesh) → IsOrientedSurface s → (d k : ℕ) → d < darts_of s → k < length s.table
    → joins_edge s.table k (side_of s d) ≡ true → k ≡ edge_of s d
edge_is s h d k l b joined =
    let own : IsEdgeOfDart s d (edge_of s d) = dart_has_edge s h d l in
    one_edge s.mesh s.table k (edge_of s d) (side_of s d) h.table b own.within joined own.joined

along_same : (s : OrientedMesh) → IsOrientedSurface s → (d e : ℕ) → d < darts_of s → e < darts_of s → along s d e ≡ true
    → edge_of s d ≡ edge_of s e
unfolding along joins_edge
along_same s h d e l k together = grind (arith, common_steps, dart_has_edge, edge_is, joins_on)

pub edge-twin : (s : OrientedMesh) → IsOrientedSurface s → (d : ℕ) → d < darts_of s → edge_of s (twin_of s d) ≡ edge_of s d
edge-twin s h d l = along_same s h (twin_of s d) d (twin_within s h d l) l (twin_along s h d l)

pub edge_darts : (s : OrientedMesh) → IsOrientedSurface s → (d e : ℕ) → d < darts_of s → e < darts_of s
    → (edge_of s d ≡ edge_of s e) ↔ ((e ≡ d) ⊎ (e ≡ twin_of s d))
unfolding along joins_edge
edge_darts s h d e l k = (
  λ same.
      let a : IsEdgeOfDart s d (edge_of s d) = dart_has_edge s h d l in
      let b : IsEdgeOfDart s e (edge_of s d) = subst (IsEdgeOfDart s e) (sym same) (dart_has_edge s h e k) in
      along_edge s h d e l k (joins_both (edge_in s.table (edge_of s d)).low (edge_in s.table (edge_of s d)).high (side_of s d)
      (side_of s e) a.joined b.joined),
  λ either. elim either [
    | inl is ↦ ap (edge_of s) (sym is)
    | inr twin ↦ sym (edge-twin s h d l) ∙ ap (edge_of s) (sym twin)
  ],
)

-- a dart by its two ends
ends_joined : (flipped : Bool) (u v : ℕ) (side : FaceSide) → joins u v side ≡ true
    → ((cond flipped side.head side.tail ≡ u) × (cond flipped side.tail side.head ≡ v)) ⊎
    ((cond flipped side.head side.tail ≡ v) × (cond flipped side.tail side.head ≡ u))
ends_joined true u v side h = elim (joins_read u v side h) [ inl x ↦ inr (x.1, x.0) | inr x ↦ inl (x.1, x.0) ]
ends_joined false u v side h = elim (joins_read u v side h) [ inl x ↦ inl x | inr x ↦ inr x ]

joined_ends : (flipped : Bool) (side : FaceSide) → joins (cond flipped side.head side.tail) (cond flipped side.tail side.head) side ≡ true
joined_ends true side = joins_from side.head side.tail side (inr (refl, refl))
joined_ends false side = joins_own side

pub dart_ends : (s : OrientedMesh) (d u v : ℕ) → joins u v (side_of s d) ≡ true
    → ((origin_of s d ≡ u) × (target_of s d ≡ v)) ⊎ ((origin_of s d ≡ v) × (target_of s d ≡ u))
unfolding origin_of target_of
dart_ends s d u v h = ends_joined (is_flipped s.signs (side_of s d).face) u v (side_of s d) h

pub dart_joins : (s : OrientedMesh) (d : ℕ) → joins (origin_of s d) (target_of s d) (side_of s d) ≡ true
unfolding origin_of target_of
dart_joins s d = joined_ends (is_flipped s.signs (side_of s d).face) (side_of s d)

-- vertices form an edge exactly where a dart leads from the one to the other
pub dart_between : (s : OrientedMesh) → IsOrientedSurface s → (u v : ℕ) → is_edge s.mesh u v ≡ true
    → (d : ℕ) × IsDartFrom (rotations_of s) u v d
unfolding is_edge
dart_between s h u v edge =
    let any = Any-from_list_any (joins u v) (all_sides s.mesh) edge in
    let d : ℕ = any.0 in
    let l : d < darts_of s = omega (arith, any.2, length-all_sides s.mesh) in
    let here : joins u v (side_of s d) ≡ true = ap (joins u v) (sym (side_is s d any.1 l) ∙ any.3) ∙ any.4 in
    elim (dart_ends s d u v here) [
      | inl there ↦ (d, record { within = l; starts = there.0; ends = origin-twin s h d l ∙ there.1 })
      | inr back ↦ (
        twin_of s d,
        record {
          within = twin_within s h d l;
          starts = origin-twin s h d l ∙ back.1;
          ends = ap (origin_of s) (twin-twin s h d l) ∙ back.0;
        },
      )
    ]

pub edge_of_dart : (s : OrientedMesh) → IsOrientedSurface s → (u v d : ℕ) → IsDartFrom (rotations_of s) u v d → is_edge s.mesh u v ≡ true
unfolding is_edge
edge_of_dart s h u v d from =
    let target : target_of s d ≡ v = sym (origin-twin s h d from.within) ∙ from.ends in
    let here : joins u v (side_of s d) ≡ true = grind (arith, dart_joins) in
    list_any_at (joins u v) (all_sides s.mesh) d (side_of s d) (omega (arith, from.within, length-all_sides s.mesh))
    (ap (joins u v) (side_is s d (side_of s d) from.within) ∙ here)

-- just one dart leads from u to v
pub one_dart : (s : OrientedMesh) → IsOrientedSurface s → (d e : ℕ) → d < darts_of s → e < darts_of s
    → origin_of s d ≡ origin_of s e → origin_of s (twin_of s d) ≡ origin_of s (twin_of s e) → d ≡ e
unfolding along
one_dart s h d e l k starts ends =
    let targets : target_of s d ≡ target_of s e = sym (origin-twin s h d l) ∙ ends ∙ origin-twin s h e k in
    let there : joins (origin_of s e) (target_of s e) (side_of s d) ≡ true = grind (arith, dart_joins) in
    elim (along_edge s h d e l k (joins_both (origin_of s e) (target_of s e) (side_of s d) (side_of s e) there (dart_joins s e))) [
      | inl is ↦ sym is
      | inr twin ↦ absurd (no_loop s h d l (sym (origin-twin s h d l) ∙ ap (origin_of s) (sym twin) ∙ sym starts))
    ]

-- a side that the table has under an edge is the side of a dart of this edge
pub record IsSideInTable (s : OrientedMesh) (k : ℕ) (side : Side) : Type 0 where
  pub in_mesh : IsSide s.mesh side
  pub within : side_number s.mesh side < darts_of s
  pub edge : k ≡ edge_of s (side_number s.mesh side)

pub side_in_table : (s : OrientedMesh) → IsOrientedSurface s → (k j : ℕ) (d : Side) → k < length s.table
    → j < length (edge_in s.table k).sides
    → IsSideInTable s k (get_or (edge_in s.table k).sides j d)
unfolding joins_edge
side_in_table s h k j d l b =
    let side : Side = get_or (edge_in s.table k).sides j d in
    let here : IsSideOfEdge s.mesh (edge_in s.table k) side = side_of_edge s.mesh (edge_in s.table k) j d
    (table_edge s.mesh s.table k h.table l) b in
    let number : IsNumberOf s.mesh side.face.0 side.at (side_number s.mesh side) = numbered s side here.side_of in
    let dart : side_number s.mesh side < darts_of s = number_below s.mesh side.face.0 side.at (side_number s.mesh side) number in
    let joined : joins (edge_in s.table k).low (edge_in s.table k).high (side_of s (side_number s.mesh side)) ≡ true =
    ap (joins (edge_in s.table k).low (edge_in s.table k).high) (side_at s side.face.0 side.at (side_number s.mesh side) number)
    ∙ joins_from (edge_in s.table k).low (edge_in s.table k).high (face_side side.face.0 (face_at s.mesh side.face.0) side.at) here.ends in
    record { in_mesh = here.side_of; within = dart; edge = edge_is s h (side_number s.mesh side) k dart l joined }

-- each edge has two sides, and these have different numbers
pub two_sides : (s : OrientedMesh) → IsOrientedSurface s → (k : ℕ) → k < length s.table → length (edge_in s.table k).sides ≡ 2
two_sides s h k l =
    let edge : Edge = edge_in s.table k in
    let is : IsEdgeOf s.mesh edge = table_edge s.mesh s.table k h.table l in
    let pair : is_edge s.mesh edge.low edge.high ≡ true =
    edge_from_table s.mesh s.table edge.low edge.high h.table (k, edge, l, get_or_default s.table k _ _ l, inl (refl, refl)) in
    ap (λ (sides : List Side). length sides) is.sides ∙ length-map (filter (joins edge.low edge.high) (all_sides s.mesh)) side_name
    ∙ h.closed.two_sides edge.low edge.high pair

-- another dart of the edge of d is its twin
pub twin_is : (s : OrientedMesh) → IsOrientedSurface s → (d e : ℕ) → d < darts_of s → e < darts_of s → edge_of s d ≡ edge_of s e
    → e ≢ d → e ≡ twin_of s d
twin_is s h d e l k same other = grind (arith, edge_darts)

-- the edge between two vertices and the ends of its darts
pub between_is : (s : OrientedMesh) → IsOrientedSurface s → (u v k d : ℕ) → k < length s.table → HasEnds u v (edge_in s.table k)
    → d < darts_of s → edge_of s d ≡ k
    → ((origin_of s d ≡ u) × (target_of s d ≡ v)) ⊎ ((origin_of s d ≡ v) × (target_of s d ≡ u))
unfolding joins_edge
between_is s h u v k d l ends b is = grind (arith, dart_has_edge, dart_ends)

-- a side that was read from an edge
pub side_got : (s : OrientedMesh) → IsOrientedSurface s → (k j : ℕ) (side : Side) → k < length s.table
    → slice_get (edge_in s.table k).sides j ≡ Some side → IsSideInTable s k side
side_got s h k j side l is =
    subst (IsSideInTable s k) (get_or_from_slice_get (edge_in s.table k).sides j side side is)
    (side_in_table s h k j side l (slice_get_within (edge_in s.table k).sides j side is))

-- a dart whose number an edge keeps
pub dart_kept : (s : OrientedMesh) → IsOrientedSurface s → (k d : ℕ) → k < length s.table
    → Contains (edge_darts_of s.mesh (edge_in s.table k)) d → k ≡ edge_of s d
dart_kept s h k d l has =
    let sides : List Side = (edge_in s.table k).sides in
    let none : Side = record { face = record { 0 = 0 }; at = 0 } in
    let few : has.0 < length sides = omega (arith, has.1, length-map sides (side_number s.mesh)) in
    let number : side_number s.mesh (get_or sides has.0 none) ≡ d = sym (get_or-map (side_number s.mesh) sides has.0 none d few) ∙ has.2 in
    (side_in_table s h k has.0 none l few).edge ∙ ap (edge_of s) number

-- a dart and its edge
pub record IsAtEdge (s : OrientedMesh) (d k : ℕ) : Type 0 where
  pub dart : d < darts_of s
  pub edge : k < length s.table
  pub is : k ≡ edge_of s d

-- of the two sides of an edge the one follows the other
corner_of_two : (p : ℕ) → p < 2 → (next_corner true 2 p < 2) × (next_corner true 2 p ≢ p)
corner_of_two zero l = (omega arith, λ e. omega (arith, e))
corner_of_two (suc zero) l = (omega arith, λ e. omega (arith, e))
corner_of_two (suc (suc p)) l = absurd (omega arith)

pub next_is_twin : (s : OrientedMesh) → IsOrientedSurface s → (d e : ℕ) → d < darts_of s → IsNextInEdge s.mesh s.table d e → e ≡ twin_of s d
next_is_twin s h d e l next =
    let k : ℕ = next.edge in
    let edge : Edge = edge_in s.table k in
    let none : Side = record { face = record { 0 = 0 }; at = 0 } in
    let two : length edge.sides ≡ 2 = two_sides s h k next.in_table in
    let long : length (edge_darts_of s.mesh edge) ≡ 2 = length-map edge.sides (side_number s.mesh) ∙ two in
    let p : ℕ = next.place in
    let q : ℕ = next_corner true 2 p in
    let corner = corner_of_two p (omega (arith, next.in_edge, long)) in
    let p_in : p < length edge.sides = omega (arith, next.in_edge, long, two) in
    let q_in : q < length edge.sides = omega (arith, corner.0, two) in
    let read : (j : ℕ) → j < length edge.sides → get_or (edge_darts_of s.mesh edge) j 0 ≡ side_number s.mesh (get_or edge.sides j none) =
    λ j b. get_or-map (side_number s.mesh) edge.sides j none 0 b in
    let d_is : side_number s.mesh (get_or edge.sides p none) ≡ d = sym (read p p_in) ∙ next.here in
    let e_is : side_number s.mesh (get_or edge.sides q none) ≡ e = grind arith in
    let one : IsSideInTable s k (get_or edge.sides p none) = side_in_table s h k p none next.in_table p_in in
    let other : IsSideInTable s k (get_or edge.sides q none) = side_in_table s h k q none next.in_table q_in in
    let e_in : e < darts_of s = subst (λ x. x < darts_of s) e_is other.within in
    let same : edge_of s d ≡ edge_of s e = ap (edge_of s) (sym d_is) ∙ sym one.edge ∙ other.edge ∙ ap (edge_of s) e_is in
    let is_edge_here : IsEdgeOf s.mesh edge = table_edge s.mesh s.table k h.table next.in_table in
    twin_is s h d e l e_in same (λ is. elim (cases_lt p q) [
      | inl less ↦ omega (arith, edge_sides_rise s.mesh edge is_edge_here p q none less q_in, d_is, e_is, is)
      | inr more ↦
          (let rises : q < p = (let ne : q ≢ p = corner.1 in omega arith) in
          omega (arith, edge_sides_rise s.mesh edge is_edge_here q p none rises p_in, d_is, e_is, is))
    ])

-- the dart of an edge that starts at u, or else its twin, leads from u to v
pub leads_on : (s : OrientedMesh) → IsOrientedSurface s → (u v k d : ℕ) → IsAtEdge s d k → HasEnds u v (edge_in s.table k)
    → origin_of s d ≡ u → IsDartFrom (rotations_of s) u v d
leads_on s h u v k d at ends starts =
    elim (between_is s h u v k d at.edge ends at.dart (sym at.is)) [
      | inl on ↦ record { within = at.dart; starts = starts; ends = origin-twin s h d at.dart ∙ on.1 }
      | inr back ↦ absurd (no_loop s h d at.dart (back.1 ∙ sym starts))
    ]

pub leads_back : (s : OrientedMesh) → IsOrientedSurface s → (u v k d : ℕ) → IsAtEdge s d k → HasEnds u v (edge_in s.table k)
    → origin_of s d ≢ u
    → IsDartFrom (rotations_of s) u v (twin_of s d)
leads_back s h u v k d at ends other =
    elim (between_is s h u v k d at.edge ends at.dart (sym at.is)) [
      | inl on ↦ absurd (other on.0)
      | inr back ↦ record {
        within = twin_within s h d at.dart;
        starts = origin-twin s h d at.dart ∙ back.1;
        ends = ap (origin_of s) (twin-twin s h d at.dart) ∙ back.0;
      }
    ]

-- the edge of a dart joins the ends of the dart
same_ends : (a b u v : ℕ) (side : FaceSide) → joins a b side ≡ true → joins u v side ≡ true → ((a ≡ u) × (b ≡ v)) ⊎ ((a ≡ v) × (b ≡ u))
same_ends a b u v side h k = grind (arith, joins_read)

pub edge_has_ends : (s : OrientedMesh) → IsOrientedSurface s → (d : ℕ) → d < darts_of s
    → IsEdgeWithEnds s (origin_of s d) (origin_of s (twin_of s d)) (edge_of s d)
unfolding joins_edge
edge_has_ends s h d l =
    let own : IsEdgeOfDart s d (edge_of s d) = dart_has_edge s h d l in
    let edge : Edge = edge_in s.table (edge_of s d) in
    let ends : joins (origin_of s d) (origin_of s (twin_of s d)) (side_of s d) ≡ true = grind (arith, origin-twin, dart_joins) in
    record {
      within = own.within;
      ends = same_ends edge.low edge.high (origin_of s d) (origin_of s (twin_of s d))
          (side_of s d) own.joined ends;
    }

pub edge_has_dart : (s : OrientedMesh) → IsOrientedSurface s → (k : ℕ) → k < length s.table → (d : ℕ) × (d < darts_of s) × (edge_of s d ≡ k)
edge_has_dart s h k l =
    let none : Side = record { face = record { 0 = 0 }; at = 0 } in
    let side : IsSideInTable s k (get_or (edge_in s.table k).sides 0 none) = grind (arith, side_in_table, two_sides) in
    (side_number s.mesh (get_or (edge_in s.table k).sides 0 none), side.within, sym side.edge)

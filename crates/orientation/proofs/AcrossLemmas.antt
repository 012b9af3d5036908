-- The other side of an edge, read from the table.
use Rattle.orientation.proofs.Common.{partners_swap, number_once, EachEdgeHasAtMostTwoSides, IsAcross, IsAlong, map, ◌≡◌, ◌≢◌, ◌⊎◌, inl, inr, ℕ, ◌<◌, ◌≤◌, true, List, length, get_or, ap, sym, ◌∙◌, subst, arith, cases_lt, nat_tests, length-map, get_or-map, Contains, Some, None, filter, side_below, face_side_in, next_within, IsSide, side_number, tail_of, head_of, Edge, IsTableOf, IsEdgeOf, edge_in, side_name, FaceList, all_sides, joins, next_corner, total_sides, ArePartners, Side}
use Rattle.surf_model.proofs.PartnerLemmas.{IsSideOfEdge, side_of_edge, edge_has_side, table_edge, partners_of_edge, ends_agree}
use Rattle.surf_model.specs.EdgeDarts.{IsNextInEdge, edge_darts_of}
use Rattle.orientation.proofs.Partners.{entry_of, two_of, joined_edge, one_partner}

-- the side stands at a place of edge k of the table
pub record IsOnEdge (mesh : FaceList) (table : List Edge) (k : ℕ) (side : Side) : Type 0 where
  pub table_of : IsTableOf mesh table
  pub few : EachEdgeHasAtMostTwoSides mesh
  pub in_table : k < length table
  pub has : Contains (edge_in table k).sides side

on_edge : {mesh : FaceList} {table : List Edge} (k : ℕ) (side : Side) → IsTableOf mesh table → k < length table
    → Contains (edge_in table k).sides side → IsSideOfEdge mesh (edge_in table k) side
on_edge {mesh} {table} k side h l has =
    subst (IsSideOfEdge mesh (edge_in table k)) has.2 (side_of_edge mesh (edge_in table k) has.0 side (table_edge mesh table k h l) has.1)

-- a side of an edge runs along it
pub along_edge : {mesh : FaceList} {table : List Edge} (k : ℕ) (side : Side) → IsTableOf mesh table → k < length table
    → Contains (edge_in table k).sides side
    → IsAlong mesh side (edge_in table k).low (edge_in table k).high
along_edge {mesh} {table} k side h l has =
    record { ordered = (table_edge mesh table k h l).ordered; ends = (on_edge k side h l has).ends }

ends_join : (mesh : FaceList) (side : Side) (low high : ℕ)
    → ((tail_of mesh side ≡ low) × (head_of mesh side ≡ high)) ⊎ ((tail_of mesh side ≡ high) × (head_of mesh side ≡ low))
    → joins low high (entry_of mesh side) ≡ true
ends_join mesh side low high e = grind (arith, nat_tests)

at_most_two : {mesh : FaceList} {table : List Edge} {k : ℕ} {side : Side} → IsOnEdge mesh table k side → length (edge_in table k).sides ≤ 2
at_most_two {mesh} {table} {k} {side} h =
    let edge : Edge = edge_in table k in
    let on : IsSideOfEdge mesh edge side = on_edge k side h.table_of h.in_table h.has in
    let joined : joins edge.low edge.high (entry_of mesh side) ≡ true = ends_join mesh side edge.low edge.high on.ends in
    let few : length (filter (joins edge.low edge.high) (all_sides mesh)) ≤ 2 = h.few edge.low edge.high
    (joined_edge mesh edge.low edge.high (entry_of mesh side) (face_side_in mesh side.face.0 side.at on.side_of.face on.side_of.place)
    joined) in
    omega (
      arith,
      few,
      ap (λ (xs : List Side). length xs) (table_edge mesh table k h.table_of h.in_table).sides,
      length-map (filter (joins edge.low edge.high) (all_sides mesh)) side_name,
    )

-- an edge of one side has no partner for it
pub none_across : {mesh : FaceList} {table : List Edge} {k : ℕ} {side : Side} → IsOnEdge mesh table k side
    → length (edge_in table k).sides < 2 → IsAcross mesh side None
none_across {mesh} {table} {k} {side} h one = λ partner partners.
    let edge : Edge = edge_in table k in
    let is : IsEdgeOf mesh edge = table_edge mesh table k h.table_of h.in_table in
    let on : IsSideOfEdge mesh edge side = on_edge k side h.table_of h.in_table h.has in
    let has : Contains edge.sides partner = edge_has_side mesh edge partner is partners.second
    (ends_agree _ _ _ _ edge.low edge.high on.ends partners.one_edge) in
    elim (two_of edge.sides side partner (omega arith) h.has has partners.different) [
      | inl two ↦ omega (arith, ap (λ (xs : List Side). length xs) two)
      | inr two ↦ omega (arith, ap (λ (xs : List Side). length xs) two)
    ]

abbrev IsAtPlace : List Side → ℕ → Side → Type 0
IsAtPlace sides i side = (i < length sides) × (get_or sides i side ≡ side)

-- the place of a side's number among those of edge k is that of the side
at_place : {mesh : FaceList} {table : List Edge} (k i default : ℕ) {side : Side} (dart : ℕ) → IsTableOf mesh table → k < length table
    → IsSide mesh side → dart ≡ side_number mesh side → i < length (edge_darts_of mesh (edge_in table k))
    → get_or (edge_darts_of mesh (edge_in table k)) i default ≡ dart → IsAtPlace (edge_in table k).sides i side
at_place {mesh} {table} k i default {side} dart is in_table in_mesh number in_edge here =
    let sides : List Side = (edge_in table k).sides in
    let few : i < length sides = omega (arith, in_edge, length-map sides (side_number mesh)) in
    let at : side_number mesh (get_or sides i side) ≡ dart = sym (get_or-map (side_number mesh) sides i side default few) ∙ here in
    let stands : IsSideOfEdge mesh (edge_in table k) (get_or sides i side) = side_of_edge mesh (edge_in table k) i
    side (table_edge mesh table k is in_table) few in
    (few, number_once mesh (get_or sides i side) side stands.side_of in_mesh (at ∙ number))

-- an edge with a side's number has the side
pub has_numbered : {mesh : FaceList} {table : List Edge} (k : ℕ) {side : Side} (dart : ℕ) → IsTableOf mesh table → k < length table
    → IsSide mesh side → dart ≡ side_number mesh side → Contains (edge_darts_of mesh (edge_in table k)) dart
    → Contains (edge_in table k).sides side
has_numbered {table} k {side} dart is in_table in_mesh number has =
    let at : IsAtPlace (edge_in table k).sides has.0 side = at_place k has.0 dart dart is in_table in_mesh number has.1 has.2 in
    (has.0, at.0, at.1)

-- a side at a place of edge k, and the next side there, by their numbers
record IsBeside (mesh : FaceList) (table : List Edge) (k i : ℕ) (side : Side) (next : ℕ) : Type 0 where
  on : IsOnEdge mesh table k side
  place : i < length (edge_in table k).sides
  here : get_or (edge_in table k).sides i side ≡ side
  there : side_number mesh (get_or (edge_in table k).sides (next_corner true (length (edge_in table k).sides) i) side) ≡ next

beside : {mesh : FaceList} {table : List Edge} {side : Side} {dart next : ℕ} → IsTableOf mesh table → EachEdgeHasAtMostTwoSides mesh
    → IsSide mesh side
    → dart ≡ side_number mesh side → (h : IsNextInEdge mesh table dart next) → IsBeside mesh table h.edge h.place side next
beside {mesh} {table} {side} {dart} is two in_mesh number h =
    let sides : List Side = (edge_in table h.edge).sides in
    let size : length (map (side_number mesh) sides) ≡ length sides = length-map sides (side_number mesh) in
    let at : IsAtPlace sides h.place side = at_place h.edge h.place 0 dart is h.in_table in_mesh number h.in_edge h.here in
    let few : h.place < length sides = at.0 in
    let same : get_or sides h.place side ≡ side = at.1 in
    let next_few : next_corner true (length sides) h.place < length sides = next_within (length sides) h.place few in
    record {
      on = record { table_of = is; few = two; in_table = h.in_table; has = (h.place, few, same) };
      place = few;
      here = same;
      there =
          sym (get_or-map (side_number mesh) sides (next_corner true (length sides) h.place) side 0 next_few)
          ∙ ap (λ m. get_or (map (side_number mesh) sides) (next_corner true m h.place) 0) (sym size) ∙ h.there;
    }

next_of_two : (m i : ℕ) → i < m → m ≤ 2 → 2 ≤ m → ((i ≡ 0) × (next_corner true m i ≡ 1)) ⊎ ((i ≡ 1) × (next_corner true m i ≡ 0))
next_of_two m i few most least = grind (arith, nat_tests)

-- on an edge of two sides the next one is another
pub record IsOther (mesh : FaceList) (side : Side) (next : ℕ) : Type 0 where
  pub other : Side
  pub partners : ArePartners mesh side other
  pub number : side_number mesh other ≡ next

other_of_two : {mesh : FaceList} {table : List Edge} {k i : ℕ} {side : Side} {next : ℕ} → IsBeside mesh table k i side next
    → 2 ≤ length (edge_in table k).sides → IsOther mesh side next
other_of_two {mesh} {table} {k} {i} {side} h long =
    let sides : List Side = (edge_in table k).sides in
    let pair : ArePartners mesh (get_or sides 0 side) (get_or sides 1 side) = partners_of_edge mesh table k 0 1 side h.on.table_of
    h.on.in_table (omega arith) (omega arith) in
    elim (next_of_two (length sides) i h.place (at_most_two h.on) long) [
      | inl first ↦
          (let here : get_or sides 0 side ≡ side = ap (λ j. get_or sides j side) (sym first.0) ∙ h.here in
          record {
            other = get_or sides 1 side;
            partners = subst (λ s. ArePartners mesh s (get_or sides 1 side)) here pair;
            number = ap (λ j. side_number mesh (get_or sides j side)) (sym first.1) ∙ h.there;
          })
      | inr second ↦
          (let here : get_or sides 1 side ≡ side = ap (λ j. get_or sides j side) (sym second.0) ∙ h.here in
          record {
            other = get_or sides 0 side;
            partners = partners_swap mesh (get_or sides 0 side) side (subst (ArePartners mesh (get_or sides 0 side)) here pair);
            number = ap (λ j. side_number mesh (get_or sides j side)) (sym second.1) ∙ h.there;
          })
    ]

-- where the next one is the side itself, nothing is across
pub alone : {mesh : FaceList} {table : List Edge} {side : Side} {dart next : ℕ} → IsTableOf mesh table → EachEdgeHasAtMostTwoSides mesh
    → IsSide mesh side
    → dart ≡ side_number mesh side → IsNextInEdge mesh table dart next → next ≡ dart → IsAcross mesh side None
alone {mesh} {table} {side} {next} is two in_mesh number h same =
    let b : IsBeside mesh table h.edge h.place side next = beside is two in_mesh number h in
    elim (cases_lt (length (edge_in table h.edge).sides) 2) [
      | inl one ↦ none_across b.on one
      | inr more ↦
          (let o : IsOther mesh side next = other_of_two b more in
          absurd (o.partners.different (number_once mesh side o.other in_mesh o.partners.second (sym number ∙ sym same ∙ sym o.number))))
    ]

one_next : (m i : ℕ) → i < m → m < 2 → next_corner true m i ≡ i
one_next m i few one = grind (arith, nat_tests)

-- where it is another, that one is across
pub has_other : {mesh : FaceList} {table : List Edge} {side : Side} {dart next : ℕ} → IsTableOf mesh table
    → EachEdgeHasAtMostTwoSides mesh → IsSide mesh side
    → dart ≡ side_number mesh side → IsNextInEdge mesh table dart next → next ≢ dart → IsOther mesh side next
has_other {mesh} {table} {side} {next} is two in_mesh number h other =
    let b : IsBeside mesh table h.edge h.place side next = beside is two in_mesh number h in
    let sides : List Side = (edge_in table h.edge).sides in
    elim (cases_lt (length sides) 2) [
      | inl one ↦
          (let turned : next_corner true (length sides) h.place ≡ h.place = one_next (length sides) h.place b.place one in
          absurd (other (sym b.there ∙ ap (λ j. side_number mesh (get_or sides j side)) turned ∙ ap (side_number mesh) b.here ∙ sym
          number)))
      | inr more ↦ other_of_two b more
    ]

pub other_below : {mesh : FaceList} {side : Side} {next : ℕ} → IsOther mesh side next → next < total_sides mesh
other_below {mesh} o = omega (arith, o.number, side_below mesh o.other.face.0 o.other.at o.partners.second.face o.partners.second.place)

pub other_across : {mesh : FaceList} {side : Side} {next : ℕ} {result : Side} → EachEdgeHasAtMostTwoSides mesh → IsOther mesh side next
    → IsSide mesh result → side_number mesh result ≡ next
    → IsAcross mesh side (Some result)
other_across {mesh} {side} {result} two o is number =
    let same : o.other ≡ result = number_once mesh o.other result o.partners.second is (o.number ∙ sym number) in
    let partners : ArePartners mesh side result = subst (ArePartners mesh side) same o.partners in
    (partners, λ partner more. one_partner mesh side result partner two partners more)

-- Corners in rings, as the sides are gone through by their numbers.
use Rattle.connectivity.proofs.Common.{joined_at, KeepsJoined, NoEdgeHasThreeSides, AreCornersAcross, AreMadeJoined, IsJoinedAcross, JoinsOnlyByCornerSteps, IsCornerStep, AreRings, ◌≡◌, ◌⊎◌, inl, inr, ℕ, zero, suc, ◌+◌, ◌<◌, ◌≤◌, true, List, length, map, get_or, refl, ap, sym, ◌∙◌, subst, arith, cases_eq, nat_tests, length-map, get_or-map, get_or_default, length-range_with_len, range_with_len, Contains, IsSideOfEdge, side_of_edge, edge_has_side, ends_agree, partners_of_edge, table_edge, next_within, IsSide, side_number, side_after, tail_of, head_of, Edge, IsTableOf, IsEdgeOf, edge_in, FaceList, IsFaceList, next_corner, total_sides, ArePartners, IsCornerOfSide, Side}
use Rattle.surf_model.specs.EdgeDarts.{IsNextInEdge}
use Rattle.connectivity.proofs.Joining.{length-joined_at, joined_at_ends, joined_at_keeps, joins_only-joined_at, joins_only-alone}
use Rattle.connectivity.proofs.EdgeLemmas.{few_in_table}
use Rattle.connectivity.proofs.CornerLemmas.{number_below, number_once, corner_in_mesh, each_across, partners_swap, step_across}

-- the partner of a side, by its number; there is no other
pub record HasPartner (mesh : FaceList) (side : Side) (n : ℕ) : Type 0 where
  pub partner : Side
  pub partners : ArePartners mesh side partner
  pub number : side_number mesh partner ≡ n
  pub only : (other : Side) → ArePartners mesh side other → other ≡ partner

-- one of two sides
first_or_second : (sides : List Side) (d side : Side) → length sides ≡ 2 → Contains sides side → (get_or sides 0 d ≡ side)
    ⊎ (get_or sides 1 d ≡ side)
first_or_second sides d side two (zero, l, is) = inl (get_or_default sides 0 d side l ∙ is)
first_or_second sides d side two (suc zero, l, is) = inr (get_or_default sides 1 d side l ∙ is)
first_or_second sides d side two (suc (suc k), l, is) = absurd (omega arith)

next_of_two : (m i : ℕ) → m ≡ 2 → i < m → ((i ≡ 0) × (next_corner true m i ≡ 1)) ⊎ ((i ≡ 1) × (next_corner true m i ≡ 0))
next_of_two m i two few = grind (arith, nat_tests)

-- the side stands at place i of edge k of the table
record IsAtPlace (mesh : FaceList) (table : List Edge) (k i : ℕ) (side : Side) : Type 0 where
  table_of : IsTableOf mesh table
  in_table : k < length table
  in_edge : i < length (edge_in table k).sides
  here : get_or (edge_in table k).sides i side ≡ side

-- each partner of the side stands in its edge too
partner_in_edge : {mesh : FaceList} {table : List Edge} {k i : ℕ} {side other : Side} → IsAtPlace mesh table k i side
    → ArePartners mesh side other
    → Contains (edge_in table k).sides other
partner_in_edge {mesh} {table} {k} {i} {side} {other} h partners =
    let edge : Edge = edge_in table k in
    let is : IsEdgeOf mesh edge = table_edge mesh table k h.table_of h.in_table in
    let stands : IsSideOfEdge mesh edge side = subst (IsSideOfEdge mesh edge) h.here (side_of_edge mesh edge i side is h.in_edge) in
    edge_has_side mesh edge other is partners.second (ends_agree _ _ _ _ edge.low edge.high stands.ends partners.one_edge)

partner_at : {mesh : FaceList} {table : List Edge} {k i : ℕ} {side : Side} → IsAtPlace mesh table k i side
    → length (edge_in table k).sides ≡ 2
    → HasPartner mesh side (side_number mesh (get_or (edge_in table k).sides (next_corner true (length (edge_in table k).sides) i) side))
partner_at {mesh} {table} {k} {i} {side} h two =
    let sides : List Side = (edge_in table k).sides in
    let first : Side = get_or sides 0 side in
    let second : Side = get_or sides 1 side in
    let pair : ArePartners mesh first second = partners_of_edge mesh table k 0 1 side h.table_of h.in_table (omega arith)
    (omega (arith, two)) in
    let one_of : (other : Side) → ArePartners mesh side other → (first ≡ other) ⊎ (second ≡ other) =
    λ other partners. first_or_second sides side other two (partner_in_edge h partners) in
    elim (next_of_two (length sides) i two h.in_edge) [
      | inl e ↦
          (let here : first ≡ side = ap (λ j. get_or sides j side) (sym e.0) ∙ h.here in
          record {
            partner = second;
            partners = subst (λ s. ArePartners mesh s second) here pair;
            number = ap (λ j. side_number mesh (get_or sides j side)) (sym e.1);
            only = λ other partners. elim (one_of other partners) [
              | inl same ↦ absurd (partners.different (sym here ∙ same))
              | inr is ↦ sym is
            ];
          })
      | inr e ↦
          (let here : second ≡ side = ap (λ j. get_or sides j side) (sym e.0) ∙ h.here in
          record {
            partner = first;
            partners = partners_swap mesh first side (subst (ArePartners mesh first) here pair);
            number = ap (λ j. side_number mesh (get_or sides j side)) (sym e.1);
            only = λ other partners. elim (one_of other partners) [
              | inl is ↦ sym is
              | inr same ↦ absurd (partners.different (sym here ∙ same))
            ];
          })
    ]

-- the side is the only one of its edge
abbrev pub IsAlone : FaceList → Side → Type 0
IsAlone mesh side = (other : Side) → ArePartners mesh side other → ⊥

only_one : (sides : List Side) (i : ℕ) (side other : Side) → length sides ≡ 1 → i < length sides → get_or sides i side ≡ side
    → Contains sides other → side ≡ other
only_one sides i side other one l here has =
    let first : i ≡ 0 = omega arith in
    let place : has.0 ≡ 0 = omega (arith, has.1) in
    sym here ∙ ap (λ j. get_or sides j side) first ∙ get_or_default sides 0 side other (omega arith)
    ∙ ap (λ j. get_or sides j other) (sym place) ∙ has.2

-- the next side of an edge of at most two is the partner, or the side itself where there is none
pub partner_or_alone : (mesh : FaceList) (table : List Edge) (side : Side) (dart next : ℕ) → IsTableOf mesh table
    → NoEdgeHasThreeSides mesh → IsSide mesh side
    → dart ≡ side_number mesh side → IsNextInEdge mesh table dart next
    → HasPartner mesh side next ⊎ ((next ≡ dart) × IsAlone mesh side)
partner_or_alone mesh table side dart next is each in_mesh number h =
    let edge : Edge = edge_in table h.edge in
    let sides : List Side = edge.sides in
    let size : length (map (side_number mesh) sides) ≡ length sides = length-map sides (side_number mesh) in
    let few : h.place < length sides = omega (arith, h.in_edge, size) in
    let at : side_number mesh (get_or sides h.place side) ≡ dart = sym (get_or-map (side_number mesh) sides h.place side 0 few) ∙ h.here in
    let stands : IsSideOfEdge mesh edge (get_or sides h.place side) =
    side_of_edge mesh edge h.place side (table_edge mesh table h.edge is h.in_table) few in
    let turned : ℕ = next_corner true (length sides) h.place in
    let there : side_number mesh (get_or sides turned side) ≡ next =
    sym (get_or-map (side_number mesh) sides turned side 0 (next_within (length sides) h.place few))
    ∙ ap (λ m. get_or (map (side_number mesh) sides) (next_corner true m h.place) 0) (sym size) ∙ h.there in
    let place : IsAtPlace mesh table h.edge h.place side = record {
      table_of = is;
      in_table = h.in_table;
      in_edge = few;
      here = number_once mesh (get_or sides h.place side) side stands.side_of in_mesh (at ∙ number);
    } in
    let most : length sides ≤ 2 = few_in_table mesh table h.edge is each h.in_table in
    elim (cases_eq (length sides) 2) [
      | inl two ↦ inl (subst (HasPartner mesh side) there (partner_at place two))
      | inr other ↦
          (let one : length sides ≡ 1 = omega arith in
          let same : turned ≡ h.place = turned_of_one (length sides) h.place one few in
          inr (
            sym there ∙ ap (λ j. side_number mesh (get_or sides j side)) same ∙ at,
            λ partner partners. partners.different (only_one sides h.place side partner one few place.here
                (partner_in_edge place partners)),
          ))
    ]
  where
    turned_of_one : (m i : ℕ) → m ≡ 1 → i < m → next_corner true m i ≡ i
    turned_of_one m i one l = grind (arith, nat_tests)

-- a side that stands alone in its edge has no partner
pub alone_in_edge : (mesh : FaceList) (table : List Edge) (k : ℕ) (side : Side) → IsTableOf mesh table → k < length table
    → length (edge_in table k).sides ≡ 1 → get_or (edge_in table k).sides 0 side ≡ side → IsAlone mesh side
alone_in_edge mesh table k side h l one here other partners =
    let few : 0 < length (edge_in table k).sides = omega arith in
    partners.different (only_one (edge_in table k).sides 0 side other one few here
    (partner_in_edge (record { table_of = h; in_table = l; in_edge = few; here = here }) partners))

-- the partner of a side's partner is the side
pub partner_back : (mesh : FaceList) (side partner other : Side) (n : ℕ) → HasPartner mesh side n → ArePartners mesh side partner
    → ArePartners mesh partner other → other ≡ side
partner_back mesh side partner other n found one two =
    elim (cases_eq (side_number mesh other) (side_number mesh side)) [
      | inl same ↦ number_once mesh other side two.second one.first same
      | inr apart ↦
          (let third : ArePartners mesh side other = record {
            first = one.first;
            second = two.second;
            different = λ same. apart (ap (side_number mesh) (sym same));
            one_edge =
                ends_through (tail_of mesh side) (head_of mesh side) (tail_of mesh partner) (head_of mesh partner) (tail_of mesh other)
                (head_of mesh other) one.one_edge two.one_edge;
          } in
          absurd (two.different (found.only partner one ∙ sym (found.only other third))))
    ]
  where
    ends_through : (a b c d e f : ℕ) → ((a ≡ c) × (b ≡ d)) ⊎ ((a ≡ d) × (b ≡ c)) → ((c ≡ e) × (d ≡ f)) ⊎ ((c ≡ f) × (d ≡ e))
        → ((a ≡ e) × (b ≡ f)) ⊎ ((a ≡ f) × (b ≡ e))
    ends_through a b c d e f first second = grind arith

pub partner_below : (mesh : FaceList) (side : Side) (n : ℕ) → HasPartner mesh side n → n < total_sides mesh
partner_below mesh side n h = omega (arith, h.number, number_below mesh h.partner h.partners.second)

-- the side with the number of the partner is the partner
pub partners_by_number : (mesh : FaceList) (side other : Side) (n : ℕ) → HasPartner mesh side n → IsSide mesh other
    → side_number mesh other ≡ n → ArePartners mesh side other
partners_by_number mesh side other n h is number =
    subst (ArePartners mesh side) (number_once mesh h.partner other h.partners.second is (h.number ∙ sym number)) h.partners

-- the classes before and after two corners are made one class
record AreMadeOne (mesh : FaceList) (old new : List ℕ) (corner other : Side) : Type 0 where
  count : length new ≡ total_sides mesh
  same : get_or new (side_number mesh corner) 0 ≡ get_or new (side_number mesh other) 0
  kept : KeepsJoined old new
  steps : JoinsOnlyByCornerSteps mesh old → JoinsOnlyByCornerSteps mesh new

-- so it is at the corners of partners at a vertex
made_one : {mesh : FaceList} (least : List ℕ) (v : ℕ) {side partner : Side} (corner other : Side) → length least ≡ total_sides mesh
    → ArePartners mesh side partner
    → IsCornerOfSide mesh v side corner → IsCornerOfSide mesh v partner other
    → AreMadeOne mesh least (joined_at least (side_number mesh corner) (side_number mesh other)) corner other
made_one {mesh} least v {side} {partner} corner other count partners from to =
    let a : ℕ = side_number mesh corner in
    let b : ℕ = side_number mesh other in
    let is_a : IsSide mesh corner = corner_in_mesh mesh v side corner partners.first from in
    let is_b : IsSide mesh other = corner_in_mesh mesh v partner other partners.second to in
    record {
      count = length-joined_at least a b ∙ count;
      same = joined_at_ends least a b (omega (arith, count, number_below mesh corner is_a))
          (omega (arith, count, number_below mesh other is_b));
      kept = λ x y l k. joined_at_keeps least a b x y l k;
      steps = λ h. joins_only-joined_at (IsSide mesh) (side_number mesh) (IsCornerStep mesh) least corner other h
          (λ x is. omega (arith, count, number_below mesh x is)) is_a is_b (step_across mesh v side partner corner other partners from to)
          (step_across mesh v partner side other corner (partners_swap mesh side partner partners) to from);
    }

-- so it is once the corners of a side have been joined with those of its partner
made_joined : {mesh : FaceList} (least : List ℕ) {side partner first last : Side} → IsFaceList mesh → length least ≡ total_sides mesh
    → ArePartners mesh side partner → AreCornersAcross mesh side partner first last
    → AreMadeJoined mesh least
    (joined_at (joined_at least (side_number mesh side) (side_number mesh first)) (side_number mesh (side_after mesh side))
    (side_number mesh last)) side partner
made_joined {mesh} least {side} {partner} {first} {last} valid count partners h =
    let once : List ℕ = joined_at least (side_number mesh side) (side_number mesh first) in
    let twice : List ℕ = joined_at once (side_number mesh (side_after mesh side)) (side_number mesh last) in
    let start : AreMadeOne mesh least once side first =
    made_one least (tail_of mesh side) side first count partners (inl (refl, refl)) h.at_start in
    let end : AreMadeOne mesh once twice (side_after mesh side) last =
    made_one once (head_of mesh side) (side_after mesh side) last start.count partners (inr (refl, refl)) h.at_end in
    let below : (s : Side) → IsSide mesh s → side_number mesh s < length once =
    λ s is. omega (arith, start.count, number_below mesh s is) in
    let start_same : get_or twice (side_number mesh side) 0 ≡ get_or twice (side_number mesh first) 0 =
    end.kept (side_number mesh side) (side_number mesh first) (below side partners.first)
    (below first (corner_in_mesh mesh (tail_of mesh side) partner first partners.second h.at_start)) start.same in
    record {
      count = end.count;
      joined = each_across mesh side partner first last valid partners h
          (λ corner other. get_or twice (side_number mesh corner) 0 ≡ get_or twice (side_number mesh other) 0) start_same end.same;
      kept = λ x y l k same.
          end.kept x y (omega (arith, start.count, count, l)) (omega (arith, start.count, count, k)) (start.kept x y l k same);
      steps = λ only. end.steps (start.steps only);
    }

-- the numbers of the corners as they are read
pub joined_as_read : {mesh : FaceList} (least once twice : List ℕ) {side partner first last : Side} (a b c d : ℕ) → IsFaceList mesh
    → length least ≡ total_sides mesh → ArePartners mesh side partner → AreCornersAcross mesh side partner first last
    → a ≡ side_number mesh side → b ≡ side_number mesh first → c ≡ side_number mesh (side_after mesh side) → d ≡ side_number mesh last
    → once ≡ joined_at least a b → twice ≡ joined_at once c d → AreMadeJoined mesh least twice side partner
joined_as_read least once twice a b c d valid count partners h is_a is_b is_c is_d is_once is_twice =
    rw (is_twice, is_once, is_a, is_b, is_c, is_d) (made_joined least valid count partners h)

-- of the sides with numbers below n partners are joined across, and equal entries come by steps alone
pub record JoinsSidesUpTo (mesh : FaceList) (least : List ℕ) (n : ℕ) : Type 0 where
  pub count : length least ≡ total_sides mesh
  pub joined : JoinsOnlyByCornerSteps mesh least
  pub done : (side partner : Side) → ArePartners mesh side partner → side_number mesh side < n → side_number mesh partner < n
      → IsJoinedAcross mesh least side partner

pub sides_none : (mesh : FaceList) (least : List ℕ) → least ≡ range_with_len 0 (total_sides mesh) → JoinsSidesUpTo mesh least 0
sides_none mesh least is =
    let alone : JoinsOnlyByCornerSteps mesh (range_with_len 0 (total_sides mesh)) =
    joins_only-alone (IsSide mesh) (side_number mesh) (IsCornerStep mesh) (total_sides mesh) (number_below mesh) (number_once mesh) in
    record {
      count = ap (λ (l : List ℕ). length l) is ∙ length-range_with_len 0 (total_sides mesh);
      joined = subst (JoinsOnlyByCornerSteps mesh) (sym is) alone;
      done = λ side partner partners l. absurd (omega arith);
    }

pub sides_fewer : {mesh : FaceList} {least : List ℕ} (m : ℕ) {n : ℕ} → m ≤ n → JoinsSidesUpTo mesh least n → JoinsSidesUpTo mesh least m
sides_fewer m few h = record {
  count = h.count;
  joined = h.joined;
  done = λ side partner partners l k. h.done side partner partners (omega (arith, l)) (omega (arith, k));
}

joined_swap : (mesh : FaceList) (least : List ℕ) (side partner : Side) → IsJoinedAcross mesh least side partner
    → IsJoinedAcross mesh least partner side
joined_swap mesh least side partner h = λ v corner other from to. sym (h v other corner to from)

-- what is joined across stays so
joined_stays : {mesh : FaceList} (old new : List ℕ) {side partner : Side} → length old ≡ total_sides mesh → KeepsJoined old new
    → ArePartners mesh side partner
    → IsJoinedAcross mesh old side partner → IsJoinedAcross mesh new side partner
joined_stays {mesh} old new {side} {partner} count kept partners h v corner other from to =
    kept (side_number mesh corner) (side_number mesh other)
    (omega (arith, count, number_below mesh corner (corner_in_mesh mesh v side corner partners.first from)))
    (omega (arith, count, number_below mesh other (corner_in_mesh mesh v partner other partners.second to))) (h v corner other from to)

-- the side with number n is passed, and is joined with its partner where that has been passed before
sides_more : {mesh : FaceList} {old : List ℕ} (new : List ℕ) {side : Side} {n : ℕ} → IsSide mesh side → n ≡ side_number mesh side
    → JoinsSidesUpTo mesh old n → length new ≡ total_sides mesh → KeepsJoined old new → JoinsOnlyByCornerSteps mesh new
    → ((partner : Side) → ArePartners mesh side partner → side_number mesh partner < n → IsJoinedAcross mesh new side partner)
    → JoinsSidesUpTo mesh new (n + 1)
sides_more {mesh} {old} new {side} {n} is number h count kept joined here =
    let at_side : (partner : Side) → ArePartners mesh side partner → side_number mesh partner < n + 1
    → IsJoinedAcross mesh new side partner =
    λ partner partners l.
    let passed : side_number mesh partner < n =
    elim (cases_eq (side_number mesh partner) n) [
      | inl e ↦ absurd (partners.different (number_once mesh side partner is partners.second (sym number ∙ sym e)))
      | inr e ↦ omega (arith, l, e)
    ] in
    here partner partners passed in
    record {
      count = count;
      joined = joined;
      done = λ one other partners l k. elim (cases_eq (side_number mesh one) n) [
        | inl e ↦
            (let same : side ≡ one = number_once mesh side one is partners.first (sym number ∙ sym e) in
            subst (λ s. IsJoinedAcross mesh new s other) same (at_side other
            (subst (λ s. ArePartners mesh s other) (sym same) partners) k))
        | inr e ↦ elim (cases_eq (side_number mesh other) n) [
          | inl f ↦
              (let same : side ≡ other = number_once mesh side other is partners.second (sym number ∙ sym f) in
              joined_swap mesh new other one (subst (λ s. IsJoinedAcross mesh new s one) same
              (at_side one (subst (λ s. ArePartners mesh s one) (sym same) (partners_swap mesh one other partners)) l)))
          | inr f ↦ joined_stays old new h.count kept partners (h.done one other partners (omega (arith, l, e)) (omega (arith, k, f)))
        ]
      ];
    }

-- it has no partner
pub side_alone : {mesh : FaceList} {least : List ℕ} {side : Side} {n : ℕ} → IsSide mesh side → n ≡ side_number mesh side
    → IsAlone mesh side → JoinsSidesUpTo mesh least n → JoinsSidesUpTo mesh least (n + 1)
side_alone {least} is number alone h =
    sides_more least is number h h.count (λ x y l k same. same) h.joined (λ partner partners less. absurd (alone partner partners))

-- its partner has not been passed
pub side_passed : {mesh : FaceList} {least : List ℕ} {side : Side} {n next : ℕ} → IsSide mesh side → n ≡ side_number mesh side
    → HasPartner mesh side next → n ≤ next
    → JoinsSidesUpTo mesh least n → JoinsSidesUpTo mesh least (n + 1)
side_passed {mesh} {least} is number found later h =
    sides_more least is number h h.count (λ x y l k same. same) h.joined
    (λ partner partners less. absurd (omega (arith, later, less, ap (side_number mesh) (found.only partner partners), found.number)))

-- its partner has, and they are joined
pub side_joined : {mesh : FaceList} {old new : List ℕ} {side partner : Side} {n next : ℕ} → IsSide mesh side → n ≡ side_number mesh side
    → HasPartner mesh side next
    → AreMadeJoined mesh old new side partner → ArePartners mesh side partner
    → JoinsSidesUpTo mesh old n → JoinsSidesUpTo mesh new (n + 1)
side_joined {mesh} {new} {side} {partner} is number found made partners h =
    sides_more new is number h made.count made.kept (made.steps h.joined)
    (λ other others less. subst (IsJoinedAcross mesh new side) (found.only partner partners ∙ sym (found.only other others)) made.joined)

pub sides_all : {mesh : FaceList} {least : List ℕ} {n : ℕ} → total_sides mesh ≤ n → JoinsSidesUpTo mesh least n → AreRings mesh least
sides_all {mesh} all h = record {
  joined = h.joined;
  steps = λ corner other step.
      h.done step.side step.partner step.partners (omega (arith, all, number_below mesh step.side step.partners.first))
      (omega (arith, all, number_below mesh step.partner step.partners.second)) (tail_of mesh corner) corner other step.from step.to;
}

-- Edges turn by ways round the vertices as one of their sides tells, whichever it is.
use Rattle.orientation_cover.proofs.Common.{number_once, AreWaysRound, AreTurnsOf, turns_along, turns_by, IsSideBetween, ◌≡◌, ◌≢◌, ◌⊎◌, inl, inr, ℕ, Bool, true, false, not, ◌&&◌, List, refl, ap, sym, ◌∙◌, subst, arith, cases_Bool, cases_eq, eq-eqb, ne_eqb, and_from, both_ways, nat_tests, get_or_from_slice_get, ◌==◌, if◌then◌else◌, Contains, Some, slice_get, ends_differ, IsWholeSide, whole_side, IsSideOfEdge, side_of_edge, table_edge, IsSide, side_number, side_after, tail_of, head_of, Edge, IsEdgeOf, IsTableOf, HasEnds, edge_in, side_name, FaceList, FaceSide, IsFaceList, face_at, all_sides, joins, ArePartners, IsCornerOfSide, Side}
use Rattle.std.proofs.lemmas.List.Folds.{Any-from_list_any, list_any-from_Any}
use Rattle.std.specs.Prelude.{length, ◌<◌}
use Rattle.surf_model.proofs.NumberLemmas.{face_side}
use Rattle.surf_model.proofs.TableLemmas.{face_side_in, joins_swap, list_any_agree}

module _ (mesh : FaceList) (against : Side → Bool) where
  turns_swap : (u v : ℕ) → turns_by mesh against u v ≡ turns_by mesh against v u
  unfolding turns_by
  turns_swap u v = grind (arith, list_any_agree, joins_swap)

  -- some side that joins the two tells that they turn
  record TellsTurn (u v : ℕ) : Type 0 where
    side : Side
    in_mesh : IsSide mesh side
    ends : ((tail_of mesh side ≡ u) × (head_of mesh side ≡ v)) ⊎ ((tail_of mesh side ≡ v) × (head_of mesh side ≡ u))
    turns : turns_along mesh against side ≡ true

  joined_and_told : (u v : ℕ) (s : FaceSide) (t : Bool) → (joins u v s && t) ≡ true
      → (((s.tail ≡ u) × (s.head ≡ v)) ⊎ ((s.tail ≡ v) × (s.head ≡ u))) × (t ≡ true)
  joined_and_told u v s true e = (joined, refl)
    where
      joined : ((s.tail ≡ u) × (s.head ≡ v)) ⊎ ((s.tail ≡ v) × (s.head ≡ u))
      joined = grind (arith, nat_tests, e)
  joined_and_told u v s false e = absurd (never (joins u v s) e)
    where
      never : (b : Bool) → (b && false) ≡ true → ⊥
      never true e = cc
      never false e = cc

  told_turn : (u v : ℕ) → turns_by mesh against u v ≡ true → TellsTurn u v
  unfolding turns_by
  told_turn u v is =
      let any = Any-from_list_any (λ (s : FaceSide). joins u v s && turns_along mesh against (side_name s)) (all_sides mesh) is in
      let whole : IsWholeSide mesh any.0 any.1 = subst (IsWholeSide mesh any.0) any.3 (whole_side mesh any.0 any.1 any.2) in
      let told = joined_and_told u v any.1 (turns_along mesh against (side_name any.1)) any.4 in
      record {
        side = side_name any.1;
        in_mesh = whole.side_of;
        ends = grind arith;
        turns = told.1;
      }

  -- a side that tells so makes its ends turn
  turn_told : (side : Side) → IsSide mesh side → turns_along mesh against side ≡ true
      → turns_by mesh against (tail_of mesh side) (head_of mesh side) ≡ true
  unfolding turns_by
  turn_told side is turns =
      let whole : FaceSide = face_side side.face.0 (face_at mesh side.face.0) side.at in
      let all : Contains (all_sides mesh) whole = face_side_in mesh side.face.0 side.at is.face is.place in
      let joined : joins (tail_of mesh side) (head_of mesh side) whole ≡ true = itself whole in
      list_any-from_Any (λ (s : FaceSide). joins (tail_of mesh side) (head_of mesh side) s && turns_along mesh against (side_name s))
      (all_sides mesh)
      (all.0, whole, all.1, all.2, and_from (joins (tail_of mesh side) (head_of mesh side) whole) _ joined turns)
    where
      itself : (s : FaceSide) → joins s.tail s.head s ≡ true
      itself s = grind (arith, nat_tests)

turned_twice : (a b : Bool) → (if not a then not (not b) else not b) ≡ (if a then not b else b)
turned_twice true true = refl
turned_twice true false = refl
turned_twice false true = refl
turned_twice false false = refl

swapped : (a b : Bool) → (if b then not a else a) ≡ (if a then not b else b)
swapped true true = refl
swapped true false = refl
swapped false true = refl
swapped false false = refl

module _ (mesh : FaceList) (against : Side → Bool) (valid : IsFaceList mesh) (ways : AreWaysRound mesh against) where
  -- the two sides of an edge tell the same
  partners_agree : (side other : Side) → ArePartners mesh side other → turns_along mesh against other ≡ turns_along mesh against side
  partners_agree side other partners =
      elim partners.one_edge [
        | inl e ↦
            (let test : (tail_of mesh side == tail_of mesh other) ≡ true = eq-eqb (tail_of mesh side) (tail_of mesh other) e.0 in
            let first : against other ≡ not (against side) =
            carried (tail_of mesh side) side other true test (inl (refl, refl)) (inl (sym e.0, refl)) in
            let second : against (side_after mesh other) ≡ not (against (side_after mesh side)) =
            carried (head_of mesh side) (side_after mesh side) (side_after mesh other) true test (inr (refl, refl)) (inr (sym e.1, refl)) in
            told (against other) (against (side_after mesh other)) _ _ first second
            ∙ turned_twice (against side) (against (side_after mesh side)))
        | inr e ↦
            (let apart : tail_of mesh side ≢ tail_of mesh other = λ same. ends_differ mesh side valid partners.first (same ∙ sym e.1) in
            let test : (tail_of mesh side == tail_of mesh other) ≡ false = ne_eqb (tail_of mesh side) (tail_of mesh other) apart in
            let first : against (side_after mesh other) ≡ against side =
            carried (tail_of mesh side) side (side_after mesh other) false test (inl (refl, refl)) (inr (sym e.0, refl)) in
            let second : against other ≡ against (side_after mesh side) =
            carried (head_of mesh side) (side_after mesh side) other false test (inr (refl, refl)) (inl (sym e.1, refl)) in
            told (against other) (against (side_after mesh other)) _ _ second first
            ∙ swapped (against side) (against (side_after mesh side)))
      ]
    where
      carried : (v : ℕ) (corner there : Side) (alike : Bool) → (tail_of mesh side == tail_of mesh other) ≡ alike
          → IsCornerOfSide mesh v side corner → IsCornerOfSide mesh v other there
          → against there ≡ (if alike then not (against corner) else against corner)
      carried v corner there alike test from to =
          ways.across v side other corner there partners from to
          ∙ ap (λ (t : Bool). if t then not (against corner) else against corner) test

      told : (a b c d : Bool) → a ≡ c → b ≡ d → (if a then not b else b) ≡ (if c then not d else d)
      told a b c d p q = rw (p, q) refl

  along : (side : Side) → IsSide mesh side → turns_by mesh against (tail_of mesh side) (head_of mesh side) ≡ turns_along mesh against side
  along side is =
      elim (cases_Bool (turns_along mesh against side)) [
        | inl is_so ↦ turn_told mesh against side is is_so ∙ sym is_so
        | inr not_so ↦ elim (cases_Bool (turns_by mesh against (tail_of mesh side) (head_of mesh side))) [
          | inl turns ↦ absurd (nowhere not_so (told_turn mesh against (tail_of mesh side) (head_of mesh side) turns))
          | inr never ↦ never ∙ sym not_so
        ]
      ]
    where
      nowhere : turns_along mesh against side ≡ false → TellsTurn mesh against (tail_of mesh side) (head_of mesh side) → ⊥
      nowhere not_so other =
          elim (cases_eq (side_number mesh side) (side_number mesh other.side)) [
            | inl same ↦
                both_ways (turns_along mesh against side) not_so
                (ap (turns_along mesh against) (number_once mesh side other.side is other.in_mesh same) ∙ other.turns)
            | inr apart ↦
                both_ways (turns_along mesh against side) not_so
                (sym (partners_agree side other.side (record {
                  first = is;
                  second = other.in_mesh;
                  different = λ same. apart (ap (side_number mesh) same);
                  one_edge = elim other.ends [
                    | inl e ↦ inl (sym e.0, sym e.1)
                    | inr e ↦ inr (sym e.1, sym e.0)
                  ];
                })) ∙ other.turns)
          ]

  pub ways_turn : AreTurnsOf mesh against (turns_by mesh against)
  ways_turn = record { turned = turns_swap mesh against; along = along }

  -- so a side between two vertices tells whether they turn
  pub told_by_side : (u v : ℕ) (side : Side) → IsSideBetween mesh u v side → turns_along mesh against side ≡ turns_by mesh against u v
  told_by_side u v side is =
      elim is.ends [
        | inl e ↦
            sym (along side is.in_mesh) ∙ ap (λ (w : ℕ). turns_by mesh against w (head_of mesh side)) e.0
            ∙ ap (turns_by mesh against u) e.1
        | inr e ↦
            sym (along side is.in_mesh) ∙ ap (λ (w : ℕ). turns_by mesh against w (head_of mesh side)) e.0
            ∙ ap (turns_by mesh against v) e.1 ∙ turns_swap mesh against v u
      ]

-- a side of an edge of the table, by the edge's two ends
pub side_of_pair : (mesh : FaceList) (table : List Edge) (k u v : ℕ) (side : Side) → IsTableOf mesh table → k < length table
    → HasEnds u v (edge_in table k) → slice_get (edge_in table k).sides 0 ≡ Some side → IsSideBetween mesh u v side
side_of_pair mesh table k u v side h l ends first =
    let edge : Edge = edge_in table k in
    let is : IsEdgeOf mesh edge = table_edge mesh table k h l in
    let stands : IsSideOfEdge mesh edge side =
    subst (IsSideOfEdge mesh edge) (get_or_from_slice_get edge.sides 0 side side first) (side_of_edge mesh edge 0 side is is.some_side) in
    record { in_mesh = stands.side_of; ends = by_ends (tail_of mesh side) (head_of mesh side) edge.low edge.high stands.ends ends }
  where
    by_ends : (t h low high : ℕ) → ((t ≡ low) × (h ≡ high)) ⊎ ((t ≡ high) × (h ≡ low)) → ((low ≡ u) × (high ≡ v)) ⊎ ((low ≡ v) × (high ≡ u))
        → ((t ≡ u) × (h ≡ v)) ⊎ ((t ≡ v) × (h ≡ u))
    by_ends t h low high first second = grind arith

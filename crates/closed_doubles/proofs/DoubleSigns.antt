-- Signs of the faces of a mesh give signs of the faces of its double: a mirror of a flipped face is flipped, and a quad has the sign of the
-- face at its edge. No two sides of the double then run the same way, so the two sides of an edge run oppositely.
use Rattle.closed_doubles.proofs.Common.{after_in_mesh, corner_below, number_once, NoEdgeHasThreeSides, EachVertexHasOneRing, rims, no_side, double_size, rim_whole, kept_tail, kept_head, side_over, over_side_tail, over_head, rim_side, quad_side, rim_in_mesh, side_kinds, first_tail, second_tail, third_tail, fourth_tail, first_head, second_head, third_head, fourth_head, is_rim, double_of, ◌≡◌, ◌≢◌, ◌⊎◌, inl, inr, ℕ, zero, suc, ◌+◌, ◌-◌, ◌<◌, ◌≤◌, Bool, true, false, not, List, ◌++◌, length, map, take, get_or, refl, ap, ap₂, sym, ◌∙◌, subst, arith, length-append, cases_Bool, cases_eq, cases_order, common_steps, length-take-le, get_or-take, length-map, get_or-map, get_or-append_right, filter_passes, AllPairs-filter, if◌then◌else◌, AllPairs, ends_differ, whole_side, IsSide, side_number, tail_of, head_of, side_name, FaceList, FaceSide, IsFaceList, all_sides, ArePartners, is_flipped, start_under, end_under, RunOppositely, IsCoherent, IsOrientable, Side}
use Rattle.closed_doubles.proofs.DoubleRings.{kept_partners}
use Rattle.closed_doubles.proofs.SidePlaces.{IsAlone}
use Rattle.closed_doubles.proofs.Fans.{head_before, IsAt, other_side, other_of_start, other_of_end, Exits, reached_rim}
use Rattle.closed_doubles.proofs.TwoSides.{rim_is_alone, at_used}

-- ---- round a vertex, from a side that starts there to one that ends there

-- the first end of a side under the signs, or the second
abbrev end_at : FaceList → List Bool → Bool → Side → ℕ
end_at mesh signs true side = start_under mesh signs side
end_at mesh signs false side = end_under mesh signs side

starts_plain : (mesh : FaceList) (signs : List Bool) (side : Side) → is_flipped signs side.face.0 ≡ false
    → (start_under mesh signs side ≡ tail_of mesh side) × (end_under mesh signs side ≡ head_of mesh side)
starts_plain mesh signs side e = (rw e refl, rw e refl)

starts_flipped : (mesh : FaceList) (signs : List Bool) (side : Side) → is_flipped signs side.face.0 ≡ true
    → (start_under mesh signs side ≡ head_of mesh side) × (end_under mesh signs side ≡ tail_of mesh side)
starts_flipped mesh signs side e = (rw e refl, rw e refl)

other_turns : (mesh : FaceList) (signs : List Bool) (v : ℕ) (first : Bool) (side : Side) → IsFaceList mesh → IsSide mesh side
    → end_at mesh signs first side ≡ v → end_at mesh signs (not first) (other_side mesh v side) ≡ v
other_turns mesh signs v true side valid is e =
    grind (arith, head_of, starts_flipped, other_of_end, starts_plain, other_of_start, head_before)
other_turns mesh signs v false side valid is e =
    grind (arith, starts_flipped, other_of_start, head_before, head_of, starts_plain, other_of_end)

partner_turns : (mesh : FaceList) (signs : List Bool) (v : ℕ) (first : Bool) (side partner : Side) → IsCoherent mesh signs
    → ArePartners mesh side partner → end_at mesh signs first side ≡ v → end_at mesh signs (not first) partner ≡ v
partner_turns mesh signs v true side partner coherent h e = sym (coherent.opposite side partner h).starts ∙ e
partner_turns mesh signs v false side partner coherent h e = sym (coherent.opposite side partner h).ends ∙ e

-- the ends of a side, in the order of its listing or in the other one
abbrev AreEndsOf : ℕ → ℕ → ℕ → ℕ → Type 0
AreEndsOf tail head start end = ((tail ≡ start) × (head ≡ end)) ⊎ ((tail ≡ end) × (head ≡ start))

either_way : (mesh : FaceList) (signs : List Bool) (side : Side)
    → AreEndsOf (tail_of mesh side) (head_of mesh side) (start_under mesh signs side) (end_under mesh signs side)
either_way mesh signs side = grind (arith, starts_flipped, starts_plain)

-- which differ
ends_apart : (mesh : FaceList) (signs : List Bool) (side : Side) → IsFaceList mesh → IsSide mesh side
    → start_under mesh signs side ≢ end_under mesh signs side
ends_apart mesh signs side valid is same = grind (arith, ends_differ, either_way)

both_ends : (mesh : FaceList) (signs : List Bool) (v : ℕ) (first : Bool) (side : Side) → IsFaceList mesh → IsSide mesh side
    → end_at mesh signs first side ≡ v → end_at mesh signs (not first) side ≡ v → ⊥
both_ends mesh signs v true side valid is e f = ends_apart mesh signs side valid is (e ∙ sym f)
both_ends mesh signs v false side valid is e f = ends_apart mesh signs side valid is (f ∙ sym e)

at_end : (mesh : FaceList) (signs : List Bool) (v : ℕ) (first : Bool) (side : Side) → IsSide mesh side → end_at mesh signs first side ≡ v
    → IsAt mesh v side
at_end mesh signs v true side is e = grind (arith, either_way)
at_end mesh signs v false side is e = grind (arith, either_way)

run_along : (t h s e t' h' s' e' : ℕ) → AreEndsOf t h s e → AreEndsOf t' h' s' e' → s ≡ s' → e ≡ e' → AreEndsOf t h t' h'
run_along t h s e t' h' s' e' one two starts ends = grind arith

run_against : (t h s e t' h' s' e' : ℕ) → AreEndsOf t h s e → AreEndsOf t' h' s' e' → s ≡ e' → e ≡ s' → AreEndsOf t h t' h'
run_against t h s e t' h' s' e' one two starts ends = grind arith

alike_or_against : (t h s e t' h' s' e' : ℕ) → AreEndsOf t h s e → AreEndsOf t' h' s' e' → AreEndsOf t h t' h'
    → ((s ≡ s') × (e ≡ e')) ⊎ ((s ≡ e') × (e ≡ s'))
alike_or_against t h s e t' h' s' e' one two edge = grind arith

ends_below : (mesh : FaceList) (signs : List Bool) (side : Side) → IsFaceList mesh → IsSide mesh side
    → (start_under mesh signs side < mesh.count) × (end_under mesh signs side < mesh.count)
ends_below mesh signs side valid is = grind (arith, corner_below, head_of, after_in_mesh, either_way)

module _ (mesh : FaceList) (signs : List Bool) (valid : IsFaceList mesh) (few : NoEdgeHasThreeSides mesh) (ring : EachVertexHasOneRing mesh)
    (coherent : IsCoherent mesh signs)
  where
    exits_turn : (v : ℕ) (side : Side) (first : Bool) (j : ℕ) (last : Side) → IsAt mesh v side → Exits mesh v side j last
        → end_at mesh signs first side ≡ v → end_at mesh signs (not first) last ≡ v
    exits_turn v side first zero last at e out =
        subst (λ s. end_at mesh signs (not first) s ≡ v) (sym e) (other_turns mesh signs v first side valid at.side_of out)
    exits_turn v side true (suc j) last at e out =
        let before : end_under mesh signs e.0 ≡ v = exits_turn v side true j e.0 at e.2 out in
        let over : start_under mesh signs e.1 ≡ v = partner_turns mesh signs v false e.0 e.1 coherent e.3 before in
        subst (λ s. end_under mesh signs s ≡ v) (sym e.4) (other_turns mesh signs v true e.1 valid e.3.second over)
    exits_turn v side false (suc j) last at e out =
        let before : start_under mesh signs e.0 ≡ v = exits_turn v side false j e.0 at e.2 out in
        let over : end_under mesh signs e.1 ≡ v = partner_turns mesh signs v true e.0 e.1 coherent e.3 before in
        subst (λ s. start_under mesh signs s ≡ v) (sym e.4) (other_turns mesh signs v false e.1 valid e.3.second over)

    -- two sides on the boundary that start at one vertex are one, and so are two that end there
    one_rim : (v : ℕ) (first : Bool) (side other : Side) → IsSide mesh side → IsSide mesh other → IsAlone mesh side → IsAlone mesh other
        → end_at mesh signs first side ≡ v → end_at mesh signs first other ≡ v → other ≡ side
    one_rim v first side other is it rim end e f =
        elim (cases_eq (side_number mesh other) (side_number mesh side)) [
          | inl same ↦ number_once mesh other side it is same
          | inr differ ↦
              (let at : IsAt mesh v side = at_end mesh signs v first side is e in
              let found =
              reached_rim mesh v side valid few at rim other (at_used mesh v side at ring) (at_end mesh signs v first other it f) end
              (λ same. differ (ap (side_number mesh) same)) in
              absurd (both_ends mesh signs v first other valid it f (exits_turn v side first found.0 other at found.1 e)))
        ]

    -- two sides that run the same way are one
    same_way : (side other : Side) → IsSide mesh side → IsSide mesh other → start_under mesh signs side ≡ start_under mesh signs other
        → end_under mesh signs side ≡ end_under mesh signs other → side ≡ other
    same_way side other is it starts ends =
        elim (cases_eq (side_number mesh side) (side_number mesh other)) [
          | inl same ↦ number_once mesh side other is it same
          | inr differ ↦
              (let partners : ArePartners mesh side other = record {
                first = is;
                second = it;
                different = λ same. differ (ap (side_number mesh) same);
                one_edge = run_along _ _ _ _ _ _ _ _ (either_way mesh signs side) (either_way mesh signs other) starts ends;
              } in
              absurd (ends_apart mesh signs other valid it (sym starts ∙ (coherent.opposite side other partners).starts)))
        ]

    -- no side runs against one on the boundary
    against : (side rim : Side) → IsSide mesh side → IsSide mesh rim → IsAlone mesh rim
        → start_under mesh signs side ≡ end_under mesh signs rim → end_under mesh signs side ≡ start_under mesh signs rim → ⊥
    against side rim is it alone starts ends =
        elim (cases_eq (side_number mesh rim) (side_number mesh side)) [
          | inl same ↦
              ends_apart mesh signs rim valid it (ap (start_under mesh signs) (number_once mesh rim side it is same) ∙ starts)
          | inr differ ↦
              alone side (record {
                first = it;
                second = is;
                different = λ same. differ (ap (side_number mesh) same);
                one_edge = run_against _ _ _ _ _ _ _ _ (either_way mesh signs rim) (either_way mesh signs side) (sym ends) (sym starts);
              })
        ]

-- ---- the signs of the double

abbrev pub double_signs : FaceList → List Bool → List Bool
double_signs mesh signs = signs ++ signs ++ map (λ (s : FaceSide). is_flipped signs s.face) (rims mesh)

abbrev start_there : FaceList → List Bool → Side → ℕ
start_there mesh signs side = start_under (double_of mesh) (double_signs mesh signs) side

abbrev end_there : FaceList → List Bool → Side → ℕ
end_there mesh signs side = end_under (double_of mesh) (double_signs mesh signs) side

-- the places of the sides of a quad that lead to the mirror, and home
abbrev up_at : Bool → ℕ
up_at flipped = if flipped then 3 else 1

abbrev down_at : Bool → ℕ
down_at flipped = if flipped then 1 else 3

abbrev quad_sign : FaceList → List Bool → ℕ → Bool
quad_sign mesh signs k = is_flipped signs (rim_side mesh k).face.0

choose-plus : (b : Bool) (x y n : ℕ) → (if b then x + n else y + n) ≡ (if b then x else y) + n
choose-plus true x y n = refl
choose-plus false x y n = refl

-- the two ends of a side under the signs
abbrev Runs : FaceList → List Bool → Side → ℕ → ℕ → Type 0
Runs mesh signs side start end = (start_there mesh signs side ≡ start) × (end_there mesh signs side ≡ end)

module _ (mesh : FaceList) (signs : List Bool) (size : length signs ≡ length mesh.faces) where
  sign_quad : (k : ℕ) → k < length (rims mesh)
      → is_flipped (double_signs mesh signs) (length mesh.faces + length mesh.faces + k) ≡ quad_sign mesh signs k
  sign_quad k l =
      let n : ℕ = length mesh.faces in
      let those : List Bool = map (λ (s : FaceSide). is_flipped signs s.face) (rims mesh) in
      let there : n + n + k - (n + n) ≡ k = omega arith in
      get_or-append_right (signs ++ signs) those (n + n) (n + n + k) false (omega (arith, size, length-append signs signs)) (omega arith)
      ∙ ap (λ j. get_or those j false) there
      ∙ get_or-map (λ (s : FaceSide). is_flipped signs s.face) (rims mesh) k no_side false l

  -- by its sign and the ends of its listing
  runs_by : (side : Side) (b : Bool) (tail head : ℕ) → is_flipped (double_signs mesh signs) side.face.0 ≡ b
      → tail_of (double_of mesh) side ≡ tail → head_of (double_of mesh) side ≡ head
      → Runs mesh signs side (if b then head else tail) (if b then tail else head)
  runs_by side b tail head sign e f = grind (arith, head_of)

  kept_runs : (side : Side) → IsSide mesh side → Runs mesh signs side (start_under mesh signs side) (end_under mesh signs side)
  kept_runs side is = grind (arith, common_steps, head_of, kept_tail, kept_head)

  over_runs : (side : Side) → IsSide mesh side
      → Runs mesh signs (side_over mesh side) (end_under mesh signs side + mesh.count) (start_under mesh signs side + mesh.count)
  over_runs side is = grind (arith, common_steps, head_of, over_side_tail, over_head, choose-plus)

  module _ (k : ℕ) (l : k < length (rims mesh)) where
    back_runs : Runs mesh signs (quad_side mesh k 0) (end_under mesh signs (rim_side mesh k)) (start_under mesh signs (rim_side mesh k))
    back_runs =
        runs_by (quad_side mesh k 0) (quad_sign mesh signs k) (head_of mesh (rim_side mesh k)) (tail_of mesh (rim_side mesh k))
        (sign_quad k l) (first_tail mesh k l) (first_head mesh k l)

    along_runs : Runs mesh signs (quad_side mesh k 2) (start_under mesh signs (rim_side mesh k) + mesh.count)
        (end_under mesh signs (rim_side mesh k) + mesh.count)
    along_runs =
        let b : Bool = quad_sign mesh signs k in
        let tail : ℕ = tail_of mesh (rim_side mesh k) in
        let head : ℕ = head_of mesh (rim_side mesh k) in
        let runs = runs_by (quad_side mesh k 2) b (tail + mesh.count) (head + mesh.count) (sign_quad k l) (third_tail mesh k l)
        (third_head mesh k l) in
        (runs.0 ∙ choose-plus b head tail mesh.count, runs.1 ∙ choose-plus b tail head mesh.count)

    up_runs : (b : Bool) → quad_sign mesh signs k ≡ b
        → Runs mesh signs (quad_side mesh k (up_at b)) (start_under mesh signs (rim_side mesh k))
        (start_under mesh signs (rim_side mesh k) + mesh.count)
    up_runs true e =
        let start = (starts_flipped mesh signs (rim_side mesh k) e).0 in
        let runs = runs_by (quad_side mesh k 3) true (head_of mesh (rim_side mesh k) + mesh.count) (head_of mesh (rim_side mesh k))
        (sign_quad k l ∙ e) (fourth_tail mesh k l) (fourth_head mesh k l) in
        (runs.0 ∙ sym start, runs.1 ∙ ap (λ x. x + mesh.count) (sym start))
    up_runs false e =
        let start = (starts_plain mesh signs (rim_side mesh k) e).0 in
        let runs = runs_by (quad_side mesh k 1) false (tail_of mesh (rim_side mesh k)) (tail_of mesh (rim_side mesh k) + mesh.count)
        (sign_quad k l ∙ e) (second_tail mesh k l) (second_head mesh k l) in
        (runs.0 ∙ sym start, runs.1 ∙ ap (λ x. x + mesh.count) (sym start))

    down_runs : (b : Bool) → quad_sign mesh signs k ≡ b
        → Runs mesh signs (quad_side mesh k (down_at b)) (end_under mesh signs (rim_side mesh k) + mesh.count)
        (end_under mesh signs (rim_side mesh k))
    down_runs true e =
        let end = (starts_flipped mesh signs (rim_side mesh k) e).1 in
        let runs = runs_by (quad_side mesh k 1) true (tail_of mesh (rim_side mesh k)) (tail_of mesh (rim_side mesh k) + mesh.count)
        (sign_quad k l ∙ e) (second_tail mesh k l) (second_head mesh k l) in
        (runs.0 ∙ ap (λ x. x + mesh.count) (sym end), runs.1 ∙ sym end)
    down_runs false e =
        let end = (starts_plain mesh signs (rim_side mesh k) e).1 in
        let runs = runs_by (quad_side mesh k 3) false (head_of mesh (rim_side mesh k) + mesh.count) (head_of mesh (rim_side mesh k))
        (sign_quad k l ∙ e) (fourth_tail mesh k l) (fourth_head mesh k l) in
        (runs.0 ∙ ap (λ x. x + mesh.count) (sym end), runs.1 ∙ sym end)

-- ---- each side by where it runs: in the mesh, in the mirror, up to it, or down

abbrev IsLow : FaceList → Side → Type 0
IsLow mesh side = IsSide mesh side ⊎ ((k : ℕ) × (k < length (rims mesh)) × (side ≡ quad_side mesh k 0))

abbrev IsHigh : FaceList → Side → Type 0
IsHigh mesh side =
    ((under : Side) × IsSide mesh under × (side ≡ side_over mesh under))
    ⊎ ((k : ℕ) × (k < length (rims mesh)) × (side ≡ quad_side mesh k 2))

abbrev IsUp : FaceList → List Bool → Side → Type 0
IsUp mesh signs side = (k : ℕ) × (k < length (rims mesh)) × (side ≡ quad_side mesh k (up_at (quad_sign mesh signs k)))

abbrev IsDown : FaceList → List Bool → Side → Type 0
IsDown mesh signs side = (k : ℕ) × (k < length (rims mesh)) × (side ≡ quad_side mesh k (down_at (quad_sign mesh signs k)))

abbrev Ways : FaceList → List Bool → Side → Type 0
Ways mesh signs side = IsLow mesh side ⊎ (IsHigh mesh side ⊎ (IsUp mesh signs side ⊎ IsDown mesh signs side))

quad_ways : (mesh : FaceList) (signs : List Bool) (k i : ℕ) → k < length (rims mesh) → i < 4 → Ways mesh signs (quad_side mesh k i)
quad_ways mesh signs k zero l b = inl (inr (k, l, refl))
quad_ways mesh signs k (suc zero) l b =
    elim (cases_Bool (quad_sign mesh signs k)) [
      | inl flipped ↦ inr (inr (inr (k, l, ap (λ c. quad_side mesh k (down_at c)) (sym flipped))))
      | inr plain ↦ inr (inr (inl (k, l, ap (λ c. quad_side mesh k (up_at c)) (sym plain))))
    ]
quad_ways mesh signs k (suc (suc zero)) l b = inr (inl (inr (k, l, refl)))
quad_ways mesh signs k (suc (suc (suc zero))) l b =
    elim (cases_Bool (quad_sign mesh signs k)) [
      | inl flipped ↦ inr (inr (inl (k, l, ap (λ c. quad_side mesh k (up_at c)) (sym flipped))))
      | inr plain ↦ inr (inr (inr (k, l, ap (λ c. quad_side mesh k (down_at c)) (sym plain))))
    ]
quad_ways mesh signs k (suc (suc (suc (suc i)))) l b = absurd (omega arith)

ways : (mesh : FaceList) (signs : List Bool) (side : Side) → IsSide (double_of mesh) side → Ways mesh signs side
ways mesh signs side h =
    elim (side_kinds mesh side h) [
      | inl is ↦ inl (inl is)
      | inr others ↦ elim others [
        | inl over ↦ inr (inl (inl (over.under, over.in_mesh, over.is)))
        | inr quad ↦ subst (Ways mesh signs) (sym quad.is) (quad_ways mesh signs quad.quad quad.at quad.in_list quad.in_quad)
      ]
    ]

rim_alone : (mesh : FaceList) (k : ℕ) → k < length (rims mesh) → IsAlone mesh (rim_side mesh k)
rim_alone mesh k l =
    let whole = rim_whole mesh k l in
    rim_is_alone mesh whole.0 (get_or (rims mesh) k no_side) whole.1 (filter_passes (is_rim mesh) (all_sides mesh) k no_side l)

rims_rise : (mesh : FaceList) (i j : ℕ) → i < j → j < length (rims mesh)
    → side_number mesh (rim_side mesh i) < side_number mesh (rim_side mesh j)
rims_rise mesh i j less l =
    let Rises : FaceSide → FaceSide → Type 0 = λ s t. side_number mesh (side_name s) < side_number mesh (side_name t) in
    let rise : AllPairs Rises (all_sides mesh) = λ p q e s t. grind (arith, whole_side) in
    AllPairs-filter Rises (is_rim mesh) (all_sides mesh) rise i j no_side less l

rim_once : (mesh : FaceList) (k j : ℕ) → k < length (rims mesh) → j < length (rims mesh) → rim_side mesh k ≡ rim_side mesh j → k ≡ j
rim_once mesh k j l b same =
    let number : side_number mesh (rim_side mesh k) ≡ side_number mesh (rim_side mesh j) = ap (side_number mesh) same in
    elim (cases_order k j) [
      | inl is ↦ is
      | inr differ ↦ elim differ [
        | inl less ↦ absurd (omega (arith, number, rims_rise mesh k j less b))
        | inr more ↦ absurd (omega (arith, number, rims_rise mesh j k more l))
      ]
    ]

-- ---- no two sides of the double run the same way

plus-same : (a b n : ℕ) → a + n ≡ b + n → a ≡ b
plus-same a b n e = omega arith

module _ (mesh : FaceList) (signs : List Bool) (valid : IsFaceList mesh) (few : NoEdgeHasThreeSides mesh) (ring : EachVertexHasOneRing mesh)
    (coherent : IsCoherent mesh signs)
  where
    there : (side other : Side) (start end : ℕ) → side ≡ other → Runs mesh signs other start end → Runs mesh signs side start end
    there side other start end e runs = subst (λ s. Runs mesh signs s start end) (sym e) runs

    at_over : (side under : Side) → IsSide mesh under → side ≡ side_over mesh under
        → Runs mesh signs side (end_under mesh signs under + mesh.count) (start_under mesh signs under + mesh.count)
    at_over side under is e = there side (side_over mesh under) _ _ e (over_runs mesh signs coherent.each_face under is)

    at_back : (side : Side) (k : ℕ) → k < length (rims mesh) → side ≡ quad_side mesh k 0
        → Runs mesh signs side (end_under mesh signs (rim_side mesh k)) (start_under mesh signs (rim_side mesh k))
    at_back side k l e = there side (quad_side mesh k 0) _ _ e (back_runs mesh signs coherent.each_face k l)

    at_along : (side : Side) (k : ℕ) → k < length (rims mesh) → side ≡ quad_side mesh k 2
        → Runs mesh signs side (start_under mesh signs (rim_side mesh k) + mesh.count) (end_under mesh signs (rim_side mesh k) + mesh.count)
    at_along side k l e = there side (quad_side mesh k 2) _ _ e (along_runs mesh signs coherent.each_face k l)

    at_up : (side : Side) (up : IsUp mesh signs side)
        → Runs mesh signs side (start_under mesh signs (rim_side mesh up.0)) (start_under mesh signs (rim_side mesh up.0) + mesh.count)
    at_up side up =
        there side (quad_side mesh up.0 (up_at (quad_sign mesh signs up.0))) _ _ up.2
        (up_runs mesh signs coherent.each_face up.0 up.1 (quad_sign mesh signs up.0) refl)

    at_down : (side : Side) (down : IsDown mesh signs side)
        → Runs mesh signs side (end_under mesh signs (rim_side mesh down.0) + mesh.count) (end_under mesh signs (rim_side mesh down.0))
    at_down side down =
        there side (quad_side mesh down.0 (down_at (quad_sign mesh signs down.0))) _ _ down.2
        (down_runs mesh signs coherent.each_face down.0 down.1 (quad_sign mesh signs down.0) refl)

    -- which ends are in the mesh, and which are mirrors
    rim_below : (k : ℕ) → k < length (rims mesh)
        → (start_under mesh signs (rim_side mesh k) < mesh.count) × (end_under mesh signs (rim_side mesh k) < mesh.count)
    rim_below k l = ends_below mesh signs (rim_side mesh k) valid (rim_in_mesh mesh k l)

    low_range : (side : Side) → IsLow mesh side
        → (start_there mesh signs side < mesh.count) × (end_there mesh signs side < mesh.count)
    low_range side (inl is) =
        let runs = kept_runs mesh signs coherent.each_face side is in
        let small = ends_below mesh signs side valid is in
        (omega (arith, runs.0, small.0), omega (arith, runs.1, small.1))
    low_range side (inr (k, l, e)) =
        let runs = at_back side k l e in
        let small = rim_below k l in
        (omega (arith, runs.0, small.1), omega (arith, runs.1, small.0))

    high_range : (side : Side) → IsHigh mesh side
        → (mesh.count ≤ start_there mesh signs side) × (mesh.count ≤ end_there mesh signs side)
    high_range side (inl (under, is, e)) =
        let runs = at_over side under is e in
        (omega (arith, runs.0), omega (arith, runs.1))
    high_range side (inr (k, l, e)) =
        let runs = at_along side k l e in
        (omega (arith, runs.0), omega (arith, runs.1))

    up_range : (side : Side) → IsUp mesh signs side → (start_there mesh signs side < mesh.count) × (mesh.count ≤ end_there mesh signs side)
    up_range side up =
        let runs = at_up side up in
        (omega (arith, runs.0, (rim_below up.0 up.1).0), omega (arith, runs.1))

    down_range : (side : Side) → IsDown mesh signs side
        → (mesh.count ≤ start_there mesh signs side) × (end_there mesh signs side < mesh.count)
    down_range side down =
        let runs = at_down side down in
        (omega (arith, runs.0), omega (arith, runs.1, (rim_below down.0 down.1).1))

    -- sides on the boundary that run the same way
    same_rim : (k j : ℕ) → k < length (rims mesh) → j < length (rims mesh)
        → start_under mesh signs (rim_side mesh k) ≡ start_under mesh signs (rim_side mesh j)
        → end_under mesh signs (rim_side mesh k) ≡ end_under mesh signs (rim_side mesh j) → k ≡ j
    same_rim k j l b starts ends =
        rim_once mesh k j l b
        (same_way mesh signs valid few ring coherent (rim_side mesh k) (rim_side mesh j) (rim_in_mesh mesh k l) (rim_in_mesh mesh j b)
        starts ends)

    against_rim : (side : Side) (k : ℕ) → IsSide mesh side → k < length (rims mesh)
        → start_under mesh signs side ≡ end_under mesh signs (rim_side mesh k)
        → end_under mesh signs side ≡ start_under mesh signs (rim_side mesh k) → ⊥
    against_rim side k is l =
        against mesh signs valid few ring coherent side (rim_side mesh k) is (rim_in_mesh mesh k l) (rim_alone mesh k l)

    one_low : (side other : Side) → IsLow mesh side → IsLow mesh other → start_there mesh signs side ≡ start_there mesh signs other
        → end_there mesh signs side ≡ end_there mesh signs other → side ≡ other
    one_low side other (inl is) (inl it) starts ends =
        let one = kept_runs mesh signs coherent.each_face side is in
        let two = kept_runs mesh signs coherent.each_face other it in
        same_way mesh signs valid few ring coherent side other is it (sym one.0 ∙ starts ∙ two.0) (sym one.1 ∙ ends ∙ two.1)
    one_low side other (inl is) (inr (k, l, e)) starts ends =
        let one = kept_runs mesh signs coherent.each_face side is in
        let two = at_back other k l e in
        absurd (against_rim side k is l (sym one.0 ∙ starts ∙ two.0) (sym one.1 ∙ ends ∙ two.1))
    one_low side other (inr (k, l, e)) (inl it) starts ends =
        let one = at_back side k l e in
        let two = kept_runs mesh signs coherent.each_face other it in
        absurd (against_rim other k it l (sym two.0 ∙ sym starts ∙ one.0) (sym two.1 ∙ sym ends ∙ one.1))
    one_low side other (inr (k, l, e)) (inr (j, b, f)) starts ends =
        let one = at_back side k l e in
        let two = at_back other j b f in
        e ∙ ap (λ i. quad_side mesh i 0) (same_rim k j l b (sym one.1 ∙ ends ∙ two.1) (sym one.0 ∙ starts ∙ two.0)) ∙ sym f

    one_high : (side other : Side) → IsHigh mesh side → IsHigh mesh other → start_there mesh signs side ≡ start_there mesh signs other
        → end_there mesh signs side ≡ end_there mesh signs other → side ≡ other
    one_high side other (inl (under, is, e)) (inl (below, it, f)) starts ends =
        let one = at_over side under is e in
        let two = at_over other below it f in
        e
        ∙ ap (side_over mesh)
        (same_way mesh signs valid few ring coherent under below is it (plus-same _ _ mesh.count (sym one.1 ∙ ends ∙ two.1))
        (plus-same _ _ mesh.count (sym one.0 ∙ starts ∙ two.0)))
        ∙ sym f
    one_high side other (inl (under, is, e)) (inr (k, l, f)) starts ends =
        let one = at_over side under is e in
        let two = at_along other k l f in
        absurd (against_rim under k is l (plus-same _ _ mesh.count (sym one.1 ∙ ends ∙ two.1))
        (plus-same _ _ mesh.count (sym one.0 ∙ starts ∙ two.0)))
    one_high side other (inr (k, l, e)) (inl (below, it, f)) starts ends =
        let one = at_along side k l e in
        let two = at_over other below it f in
        absurd (against_rim below k it l (plus-same _ _ mesh.count (sym two.1 ∙ sym ends ∙ one.1))
        (plus-same _ _ mesh.count (sym two.0 ∙ sym starts ∙ one.0)))
    one_high side other (inr (k, l, e)) (inr (j, b, f)) starts ends =
        let one = at_along side k l e in
        let two = at_along other j b f in
        e
        ∙ ap (λ i. quad_side mesh i 2)
        (same_rim k j l b (plus-same _ _ mesh.count (sym one.0 ∙ starts ∙ two.0)) (plus-same _ _ mesh.count (sym one.1 ∙ ends ∙ two.1)))
        ∙ sym f

    one_up : (side other : Side) → IsUp mesh signs side → IsUp mesh signs other → start_there mesh signs side ≡ start_there mesh signs other
        → side ≡ other
    one_up side other (k, l, e) (j, b, f) starts =
        let one = at_up side (k, l, e) in
        let two = at_up other (j, b, f) in
        let rim : rim_side mesh k ≡ rim_side mesh j =
        one_rim mesh signs valid few ring coherent (start_under mesh signs (rim_side mesh j)) true (rim_side mesh j) (rim_side mesh k)
        (rim_in_mesh mesh j b) (rim_in_mesh mesh k l) (rim_alone mesh j b) (rim_alone mesh k l) refl (sym one.0 ∙ starts ∙ two.0) in
        e ∙ ap (λ i. quad_side mesh i (up_at (quad_sign mesh signs i))) (rim_once mesh k j l b rim) ∙ sym f

    one_down : (side other : Side) → IsDown mesh signs side → IsDown mesh signs other
        → end_there mesh signs side ≡ end_there mesh signs other → side ≡ other
    one_down side other (k, l, e) (j, b, f) ends =
        let one = at_down side (k, l, e) in
        let two = at_down other (j, b, f) in
        let rim : rim_side mesh k ≡ rim_side mesh j =
        one_rim mesh signs valid few ring coherent (end_under mesh signs (rim_side mesh j)) false (rim_side mesh j) (rim_side mesh k)
        (rim_in_mesh mesh j b) (rim_in_mesh mesh k l) (rim_alone mesh j b) (rim_alone mesh k l) refl (sym one.1 ∙ ends ∙ two.1) in
        e ∙ ap (λ i. quad_side mesh i (down_at (quad_sign mesh signs i))) (rim_once mesh k j l b rim) ∙ sym f

    run_once : (side other : Side) → Ways mesh signs side → Ways mesh signs other
        → start_there mesh signs side ≡ start_there mesh signs other → end_there mesh signs side ≡ end_there mesh signs other → side ≡ other
    run_once side other (inl a) (inl c) s e = one_low side other a c s e
    run_once side other (inl a) (inr (inl c)) s e = absurd (omega (arith, s, (low_range side a).0, (high_range other c).0))
    run_once side other (inl a) (inr (inr (inl c))) s e = absurd (omega (arith, e, (low_range side a).1, (up_range other c).1))
    run_once side other (inl a) (inr (inr (inr c))) s e = absurd (omega (arith, s, (low_range side a).0, (down_range other c).0))
    run_once side other (inr (inl a)) (inl c) s e = absurd (omega (arith, s, (high_range side a).0, (low_range other c).0))
    run_once side other (inr (inl a)) (inr (inl c)) s e = one_high side other a c s e
    run_once side other (inr (inl a)) (inr (inr (inl c))) s e = absurd (omega (arith, s, (high_range side a).0, (up_range other c).0))
    run_once side other (inr (inl a)) (inr (inr (inr c))) s e = absurd (omega (arith, e, (high_range side a).1, (down_range other c).1))
    run_once side other (inr (inr (inl a))) (inl c) s e = absurd (omega (arith, e, (up_range side a).1, (low_range other c).1))
    run_once side other (inr (inr (inl a))) (inr (inl c)) s e = absurd (omega (arith, s, (up_range side a).0, (high_range other c).0))
    run_once side other (inr (inr (inl a))) (inr (inr (inl c))) s e = one_up side other a c s
    run_once side other (inr (inr (inl a))) (inr (inr (inr c))) s e = absurd (omega (arith, s, (up_range side a).0, (down_range other c).0))
    run_once side other (inr (inr (inr a))) (inl c) s e = absurd (omega (arith, s, (down_range side a).0, (low_range other c).0))
    run_once side other (inr (inr (inr a))) (inr (inl c)) s e = absurd (omega (arith, e, (down_range side a).1, (high_range other c).1))
    run_once side other (inr (inr (inr a))) (inr (inr (inl c))) s e = absurd (omega (arith, s, (down_range side a).0, (up_range other c).0))
    run_once side other (inr (inr (inr a))) (inr (inr (inr c))) s e = one_down side other a c e

    opposite_there : (side other : Side) → ArePartners (double_of mesh) side other
        → RunOppositely (double_of mesh) (double_signs mesh signs) side other
    opposite_there side other h =
        elim (alike_or_against _ _ _ _ _ _ _ _ (either_way (double_of mesh) (double_signs mesh signs) side)
        (either_way (double_of mesh) (double_signs mesh signs) other) h.one_edge) [
          | inl e ↦ absurd (h.different (run_once side other (ways mesh signs side h.first) (ways mesh signs other h.second) e.0 e.1))
          | inr e ↦ record { starts = e.0; ends = e.1 }
        ]

pub double_orientable : (mesh : FaceList) → IsFaceList mesh → NoEdgeHasThreeSides mesh → EachVertexHasOneRing mesh → IsOrientable mesh
    → IsOrientable (double_of mesh)
double_orientable mesh valid few ring (signs, coherent) = (
  double_signs mesh signs,
  record {
    each_face =
        omega (
          arith,
          coherent.each_face,
          double_size mesh,
          length-append (signs ++ signs) (map (λ (s : FaceSide). is_flipped signs s.face) (rims mesh)),
          length-append signs signs,
          length-map (rims mesh) (λ (s : FaceSide). is_flipped signs s.face),
        );
    opposite = opposite_there mesh signs valid few ring coherent;
  },
)

-- And signs of the double are signs of the mesh, whose sides run there as they do here.
pub orientable_there : (mesh : FaceList) → IsOrientable (double_of mesh) → IsOrientable mesh
orientable_there mesh (signs, coherent) = (
  take (length mesh.faces) signs,
  record {
    each_face = length-take-le (length mesh.faces) signs (omega (arith, coherent.each_face, double_size mesh));
    opposite = λ side other h.
        let there = coherent.opposite side other (kept_partners mesh side other h) in
        let one = as_here side h.first in
        let two = as_here other h.second in
        record { starts = sym one.0 ∙ there.starts ∙ two.1; ends = sym one.1 ∙ there.ends ∙ two.0 };
  },
)
  where
    as_here : (side : Side) → IsSide mesh side
        → (start_under (double_of mesh) signs side ≡ start_under mesh (take (length mesh.faces) signs) side)
        × (end_under (double_of mesh) signs side ≡ end_under mesh (take (length mesh.faces) signs) side)
    as_here side is =
        let sign : is_flipped signs side.face.0 ≡ is_flipped (take (length mesh.faces) signs) side.face.0 =
        sym (get_or-take (length mesh.faces) signs side.face.0 false is.face) in
        let tail = kept_tail mesh side is in
        let head = kept_head mesh side is in (
          ap (λ b. if b then head_of (double_of mesh) side else tail_of (double_of mesh) side) sign
              ∙ ap₂ (λ x y. if is_flipped (take (length mesh.faces) signs) side.face.0 then x else y) head tail,
          ap (λ b. if b then tail_of (double_of mesh) side else head_of (double_of mesh) side) sign
              ∙ ap₂ (λ x y. if is_flipped (take (length mesh.faces) signs) side.face.0 then x else y) tail head,
        )

-- The way back along an approach and on along a walk that begins alike: where both have no spur it has none either, once what they have in
-- common is left out.
use Rattle.move_lifting.proofs.Common.{last_entry, last_of, RisesWithTurn, before, behind, home_and_there, backward_is, free_equality, IsWay, way_home, backward, ◌≡◌, ◌≢◌, inl, inr, ℕ, zero, suc, ◌+◌, ◌-◌, ◌<◌, ◌≤◌, max, List, [], ◌∷◌, ◌++◌, length, take, drop, get_or, ap, sym, ◌∙◌, subst, arith, append_assoc, length-append, cases_lt, common_steps, get_or_append_left, get_or-append-add, take-append-drop, drop_more, length-take-le, length-drop, get_or-take, FaceList, AreFreelyEqual, HasNoSpur, IsWalk, darts}
use Rattle.move_lifting.proofs.BackLemmas.{backward_at, length-backward, last_joined, backward-append, way_apart, way_of}
use Rattle.move_lifting.proofs.TurnLemmas.{BeginAlike, turned_whole, length-turned_whole}

-- a part at the end of a walk without spurs has none
no_spur_back : (front rest : List ℕ) → HasNoSpur (front ++ rest) → HasNoSpur rest
no_spur_back front rest h k l same =
    let more : length front + k + 2 < length (front ++ rest) = omega (arith, length-append front rest, l) in
    let at : length front + k + 2 ≡ length front + (k + 2) = omega arith in
    h (length front + k) more
    (get_or-append-add front rest k 0 ∙ same
    ∙ sym (ap (λ (n : ℕ). get_or (front ++ rest) n 0) at ∙ get_or-append-add front rest (k + 2) 0))

-- the entries of a walk back from its end
back_entry : (b : ℕ) (d : List ℕ) (k : ℕ) → k ≤ length d
    → get_or (last_of (b ∷ d) ∷ backward b d) k 0 ≡ get_or (b ∷ d) (length d - k) 0
back_entry b d zero l = ap (λ (n : ℕ). get_or (b ∷ d) n 0) (let at : length (b ∷ d) - 1 ≡ length d - 0 = omega arith in at)
back_entry b d (suc k) l = grind (arith, backward_at)

-- back along one walk from b, and on along another one from there
no_spur_round : (b : ℕ) (d e : List ℕ) → HasNoSpur (b ∷ d) → HasNoSpur (b ∷ e) → (0 < length d → 0 < length e → get_or d 0 0 ≢ get_or e 0 0)
    → HasNoSpur (last_of (b ∷ d) ∷ (backward b d ++ e))
no_spur_round b d e clean other apart k l same =
    let home : List ℕ = last_of (b ∷ d) ∷ backward b d in
    let long : length home ≡ suc (length d) = ap suc (length-backward b d) in
    let whole : length (home ++ e) ≡ suc (length d) + length e = length-append home e ∙ ap (λ (n : ℕ). n + length e) long in
    let early : (j : ℕ) → j ≤ length d → get_or (home ++ e) j 0 ≡ get_or (b ∷ d) (length d - j) 0 =
    λ j m. get_or_append_left home e 0 j (omega (arith, m, long)) ∙ back_entry b d j m in
    let late : (j : ℕ) → get_or (home ++ e) (suc (length d) + j) 0 ≡ get_or e j 0 =
    λ j. ap (λ (n : ℕ). get_or (home ++ e) (n + j) 0) (sym long) ∙ get_or-append-add home e j 0 in
    elim (cases_lt (k + 2) (suc (length d))) [
      | inl within ↦
          let here : length d - k ≡ length d - (k + 2) + 2 = omega (arith, within) in
          clean (length d - (k + 2)) (let short : length d - (k + 2) + 2 < length (b ∷ d) = omega (arith, within) in short)
          (sym (early (k + 2) (omega (arith, within))) ∙ sym same ∙ early k (omega (arith, within))
          ∙ ap (λ (n : ℕ). get_or (b ∷ d) n 0) here)
      | inr beyond ↦ elim (cases_lt k (length d)) [
        | inl joint ↦
            let some : 0 < length d = omega (arith, joint) in
            let first : length d - k ≡ 1 = omega (arith, joint, beyond) in
            let second : k + 2 ≡ suc (length d) + 0 = omega (arith, joint, beyond) in
            apart some (omega (arith, l, whole, second))
            (sym (early k (omega (arith, joint)) ∙ ap (λ (n : ℕ). get_or (b ∷ d) n 0) first) ∙ same
            ∙ ap (λ (n : ℕ). get_or (home ++ e) n 0) second ∙ late 0)
        | inr past ↦
            let j : ℕ = k - length d in
            let last : length d - length d ≡ 0 = omega arith in
            let from : get_or (home ++ e) k 0 ≡ get_or (b ∷ e) j 0 = at_or_past b d e j k early late (omega (arith, past)) in
            let to_at : k + 2 ≡ suc (length d) + (j + 1) = omega (arith, past) in
            let up : suc (j + 1) ≡ j + 2 = omega arith in
            let to : get_or (home ++ e) (k + 2) 0 ≡ get_or (b ∷ e) (j + 2) 0 =
            ap (λ (n : ℕ). get_or (home ++ e) n 0) to_at ∙ late (j + 1) ∙ ap (λ (n : ℕ). get_or (b ∷ e) n 0) up in
            other j (omega (arith, l, whole, past)) (sym from ∙ same ∙ to)
      ]
    ]
  where
    at_or_past : (b : ℕ) (d e : List ℕ) (j k : ℕ)
        → ((i : ℕ) → i ≤ length d → get_or ((last_of (b ∷ d) ∷ backward b d) ++ e) i 0 ≡ get_or (b ∷ d) (length d - i) 0)
        → ((i : ℕ) → get_or ((last_of (b ∷ d) ∷ backward b d) ++ e) (suc (length d) + i) 0 ≡ get_or e i 0) → k ≡ length d + j
        → get_or ((last_of (b ∷ d) ∷ backward b d) ++ e) k 0 ≡ get_or (b ∷ e) j 0
    at_or_past b d e zero k early late at =
        let here : k ≡ length d = omega (arith, at) in
        let first : length d - length d ≡ 0 = omega arith in
        ap (λ (n : ℕ). get_or ((last_of (b ∷ d) ∷ backward b d) ++ e) n 0) here ∙ early (length d) (omega arith)
        ∙ ap (λ (n : ℕ). get_or (b ∷ d) n 0) first
    at_or_past b d e (suc j) k early late at =
        let here : k ≡ suc (length d) + j = omega (arith, at) in
        ap (λ (n : ℕ). get_or ((last_of (b ∷ d) ∷ backward b d) ++ e) n 0) here ∙ late j

-- The walk back from the end of the approach to where the walk leaves it, and on.
pub back_and_on : List ℕ → List ℕ → ℕ → List ℕ
back_and_on approach walk n = last_of approach ∷ (backward (last_of (take n approach)) (drop n approach) ++ drop n walk)

pub back-long : {approach walk : List ℕ} {n : ℕ} → BeginAlike approach walk n
    → length (back_and_on approach walk n) ≡ 1 + (length approach - n) + (length walk - n)
unfolding back_and_on
back-long {approach} {walk} {n} a = grind (arith, common_steps, length-backward)

-- the first n entries, up to the last of them
parts : (approach : List ℕ) (n : ℕ) → 0 < n → n ≤ length approach → (rest : List ℕ)
    → take n approach ++ rest ≡ take (n - 1) (take n approach) ++ (last_of (take n approach) ∷ rest)
parts approach n some le rest = grind (arith, common_steps, last_entry)

pub back_no_spur : {approach walk : List ℕ} {n : ℕ} → BeginAlike approach walk n → HasNoSpur approach → HasNoSpur walk
    → (n < length approach → n < length walk → get_or approach n 0 ≢ get_or walk n 0) → HasNoSpur (back_and_on approach walk n)
unfolding back_and_on
back_no_spur {approach} {walk} {n} a clean other apart =
    let b : ℕ = last_of (take n approach) in
    let d : List ℕ = drop n approach in
    let e : List ℕ = drop n walk in
    let front : List ℕ = take (n - 1) (take n approach) in
    let first_some : 0 < length (take n approach) = omega (arith, length-take-le n approach a.in_approach, a.some) in
    let approach_is : approach ≡ front ++ (b ∷ d) =
    sym (take-append-drop n approach) ∙ parts approach n a.some a.in_approach d in
    let walk_is : walk ≡ front ++ (b ∷ e) =
    sym (take-append-drop n walk) ∙ ap (λ (l : List ℕ). l ++ e) (sym a.same) ∙ parts approach n a.some a.in_approach e in
    let out : HasNoSpur (b ∷ d) = no_spur_back front (b ∷ d) (subst HasNoSpur approach_is clean) in
    let on : HasNoSpur (b ∷ e) = no_spur_back front (b ∷ e) (subst HasNoSpur walk_is other) in
    let end : last_of (b ∷ d) ≡ last_of approach =
    last_joined (take n approach) d first_some ∙ ap last_of (take-append-drop n approach) in
    let read : (w : List ℕ) → n < length w → get_or (drop n w) 0 0 ≡ get_or w n 0 =
    λ w l. ap (λ (l : List ℕ). get_or l 0 0) (drop_more w n 0 l) in
    subst (λ (y : ℕ). HasNoSpur (y ∷ (backward b d ++ e))) end
    (no_spur_round b d e out on
    (λ some more same.
    let in_approach : n < length approach = omega (arith, some, length-drop n approach) in
    let in_walk : n < length walk = omega (arith, more, length-drop n walk) in
    apart in_approach in_walk (sym (read approach in_approach) ∙ same ∙ read walk in_walk)))

-- up to spurs it is the way back along the whole approach and on along the whole walk
pub back_freely : (mesh : FaceList) {approach walk : List ℕ} {n : ℕ} → IsWalk mesh approach → BeginAlike approach walk n
    → AreFreelyEqual mesh (last_of approach ∷ (backward (get_or walk 0 0) (drop 1 approach) ++ drop 1 walk)) (back_and_on approach walk n)
unfolding back_and_on
back_freely mesh {approach} {walk} {n} w a =
    let x : ℕ = get_or walk 0 0 in
    let y : ℕ = last_of approach in
    let c : List ℕ = drop 1 (take n approach) in
    let d : List ℕ = drop n approach in
    let e : List ℕ = drop n walk in
    let b : ℕ = last_of (take n approach) in
    let home : List ℕ = backward b d in
    let around : List ℕ = backward x c ++ c in
    let f = free_equality mesh in
    let first_long : length (take n approach) ≡ n = length-take-le n approach a.in_approach in
    let start : get_or (take n approach) 0 0 ≡ x =
    ap (λ (l : List ℕ). get_or l 0 0) a.same ∙ get_or-take n walk 0 0 a.some in
    let first_is : take n approach ≡ x ∷ c =
    drop_more (take n approach) 0 0 (omega (arith, a.some, first_long)) ∙ ap (λ (v : ℕ). v ∷ c) start in
    let approach_is : approach ≡ x ∷ (c ++ d) = sym (take-append-drop n approach) ∙ ap (λ (l : List ℕ). l ++ d) first_is in
    let walk_is : walk ≡ x ∷ (c ++ e) =
    sym (take-append-drop n walk) ∙ ap (λ (l : List ℕ). l ++ e) (sym a.same ∙ first_is) in
    let b_is : last_of (x ∷ c) ≡ b = ap last_of (sym first_is) in
    let y_is : last_of (x ∷ (c ++ d)) ≡ y = ap last_of (sym approach_is) in
    let ways = way_apart mesh x (last_of (x ∷ (c ++ d))) c d (way_of mesh x (c ++ d) (subst (IsWalk mesh) approach_is w)) in
    let there : IsWay mesh x b c = subst (λ (v : ℕ). IsWay mesh x v c) b_is ways.0 in
    let on : IsWay mesh b y d =
    subst (λ (v : ℕ). IsWay mesh b v d) y_is (subst (λ (v : ℕ). IsWay mesh v (last_of (x ∷ (c ++ d))) d) b_is ways.1) in
    let home_way : IsWay mesh y b home = subst (IsWay mesh y b) (sym (backward_is b d)) (way_home mesh b y d on) in
    let nothing : AreFreelyEqual mesh (b ∷ around) (b ∷ []) =
    subst (λ (l : List ℕ). AreFreelyEqual mesh (b ∷ (l ++ c)) (b ∷ [])) (sym (backward_is x c)) (home_and_there f x b c there) in
    let back_is : backward x (drop 1 approach) ≡ home ++ backward x c =
    ap (λ (l : List ℕ). backward x (drop 1 l)) approach_is ∙ backward-append x c d ∙ ap (λ (v : ℕ). backward v d ++ backward x c) b_is in
    let rest_is : drop 1 walk ≡ c ++ e = ap (λ (l : List ℕ). drop 1 l) walk_is in
    let shape : backward x (drop 1 approach) ++ drop 1 walk ≡ home ++ (around ++ e) =
    ap (λ (l : List ℕ). l ++ drop 1 walk) back_is ∙ ap (λ (l : List ℕ). home ++ backward x c ++ l) rest_is
    ∙ regroup home (backward x c) c e in
    subst (λ (l : List ℕ). AreFreelyEqual mesh (y ∷ l) (y ∷ (home ++ e))) (sym shape)
    (behind f y b home (around ++ e) e home_way (before f b around [] e nothing))
  where
    regroup : (h g c e : List ℕ) → h ++ g ++ (c ++ e) ≡ h ++ (g ++ c ++ e)
    regroup h g c e = simp append_assoc

-- how high the peak rises
pub turn_rises : (approach walk turn whole : List ℕ) (n behind around most moves peak old there turned new : ℕ) → BeginAlike approach walk n
    → HasNoSpur approach → HasNoSpur walk → (n < length approach → n < length walk → get_or approach n 0 ≢ get_or walk n 0)
    → there ≤ max old (length approach - 1 + (length approach - n) + (length walk - n + behind))
    → around ≡ length approach - 1 + (length approach - n) + (length walk - n + behind)
    → (moves ≡ 0 → turned ≡ there) → (0 < moves → turned ≡ max there (around + peak)) → peak ≤ most → darts turn ≤ most → 0 < length turn
    → whole ≡ turned_whole approach turn walk n → new ≤ max turned (darts whole + behind)
    → RisesWithTurn approach walk behind most old new
turn_rises approach walk turn whole n behind around most moves peak old there turned new a clean other apart first counted none more low few
    some is last =
    record {
      back = back_and_on approach walk n;
      no_spur = back_no_spur a clean other apart;
      freely = λ mesh w. back_freely mesh w a;
      peak =
          let long : length whole + 1 ≡ length approach + (length turn + ((length approach - n) + (length walk - n))) =
          ap (λ (l : List ℕ). length l + 1) is ∙ length-turned_whole approach turn walk n some in
          let rises : turned ≤ max there (around + most) = elim (cases_lt 0 moves) [
            | inl has ↦ omega (arith, more has, low)
            | inr hasnt ↦ (let nothing : moves ≡ 0 = omega (arith, hasnt) in omega (arith, none nothing))
          ] in
          omega (arith, a.some, a.in_approach, a.in_walk, back-long a, long, rises, first, counted, few, some, last);
    }

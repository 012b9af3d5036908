-- A turn put into a walk: there, round, back, and on.
use Rattle.move_lifting.proofs.Common.{spliced, last_entry, LeadsAtPeak, TrackView, GoesOn, last_of, home_and_there, backward_is, free_equality, IsWay, back, backward, put_behind, ◌≡◌, ℕ, ◌+◌, ◌-◌, ◌<◌, ◌≤◌, max, true, List, [], ◌∷◌, ◌++◌, length, take, drop, get_or, ap, sym, ◌∙◌, subst, arith, append_assoc, length-append, common_steps, take_rest, drop-map, take-append-drop, take_more, drop_more, length-take-le, length-drop, get_or-take, FaceList, is_edge, AreFreelyEqual, PeakedMoves, all_raised, numbers, IsWalk, Insert, VertexName}
use Rattle.move_lifting.proofs.ExpandLemmas.{length-numbers}
use Rattle.move_lifting.proofs.BackLemmas.{back_more, length-backward, last_joined, last_back, backward-append, way_apart, way_of}
use Rattle.move_lifting.proofs.InsertLemmas.{spur_in_last, leads_further_on}

-- the way back along a walk from its entry k to its entry n, both counted from 1
abbrev pub way_back_to : List ℕ → ℕ → ℕ → List ℕ
way_back_to walk n k = backward (last_of (take n walk)) (drop n (take k walk))

-- the way there and back, one step further
pub out_more : (mesh : FaceList) (first walk rest : List ℕ) (n k passed : ℕ) (via : VertexName) (list more : PeakedMoves) → IsWalk mesh walk
    → 0 < n → n ≤ k → k < length walk
    → via.0 ≡ get_or walk k 0
    → more ≡ record { moves = list.moves ++ Insert (k - 1) via ∷ []; peak = max list.peak passed } → passed ≡ k + 1 + (k - n + length rest)
    → LeadsAtPeak mesh first list (take k walk ++ (way_back_to walk n k ++ rest))
    → LeadsAtPeak mesh first more (take (k + 1) walk ++ (way_back_to walk n (k + 1) ++ rest))
out_more mesh first walk rest n k passed via list more w some le l read noted counted h =
    let laid : List ℕ = take k walk in
    let back : List ℕ = way_back_to walk n k in
    let long : length laid ≡ k = length-take-le k walk (omega arith) in
    let out : length (drop n laid) ≡ k - n = length-drop n laid ∙ ap (λ (m : ℕ). m - n) long in
    let back_long : length back ≡ k - n = length-backward (last_of (take n walk)) (drop n laid) ∙ out in
    let at : k - 1 ≡ length laid - 1 = omega arith in
    let count : passed ≡ length laid + 1 + length (back ++ rest) = omega (arith, counted, length-append back rest) in
    let noted_there : more ≡ record {
      moves = list.moves ++ Insert (length laid - 1) via ∷ [];
      peak = max list.peak (length laid + 1 + length (back ++ rest));
    } =
    subst (λ (m : ℕ). more ≡ record { moves = list.moves ++ Insert (length laid - 1) via ∷ []; peak = max list.peak m }) count
    (subst (λ (m : ℕ). more ≡ record { moves = list.moves ++ Insert m via ∷ []; peak = max list.peak passed }) at noted) in
    let last : last_of laid ≡ get_or walk (k - 1) 0 = ap (λ (m : ℕ). get_or laid m 0) (sym at)
    ∙ get_or-take k walk (k - 1) 0 (omega arith) in
    let up : k - 1 + 1 ≡ k = omega arith in
    let edge : is_edge mesh (last_of laid) via.0 ≡ true =
    ap (λ (x : ℕ). is_edge mesh x via.0) last
    ∙ ap (is_edge mesh (get_or walk (k - 1) 0)) (read ∙ ap (λ (m : ℕ). get_or walk m 0) (sym up)) ∙ w.edges (k - 1) (omega arith) in
    let more_laid : take (k + 1) walk ≡ laid ++ via.0 ∷ [] = take_more walk k 0 l ∙ ap (λ (x : ℕ). laid ++ x ∷ []) (sym read) in
    let whole : laid ++ via.0 ∷ [] ++ (last_of laid ∷ (back ++ rest)) ≡ take (k + 1) walk ++ (way_back_to walk n (k + 1) ++ rest) =
    ap (λ (x : List ℕ). x ++ (last_of laid ∷ (back ++ rest))) (sym more_laid)
    ∙ ap (λ (x : List ℕ). take (k + 1) walk ++ (x ++ rest)) (sym (back_more walk n k some le l)) in
    subst (LeadsAtPeak mesh first more) whole (spur_in_last mesh first laid (back ++ rest) via list more (omega arith) edge noted_there h)

-- A walk and an approach that begin alike, with what is told of them.
pub record BeginAlike (approach walk : List ℕ) (n : ℕ) : Type 0 where
  pub some : 0 < n
  pub in_approach : n ≤ length approach
  pub in_walk : n ≤ length walk
  pub same : take n approach ≡ take n walk

-- the whole: there, round, back to where the walk leaves the approach, and on
abbrev pub turned_whole : List ℕ → List ℕ → List ℕ → ℕ → List ℕ
turned_whole approach turn walk n = approach ++ (drop 1 turn ++ (backward (last_of (take n approach)) (drop n approach) ++ drop n walk))

walk_is : {approach walk : List ℕ} {n : ℕ} → BeginAlike approach walk n → walk ≡ take n approach ++ drop n walk
walk_is {walk} {n} a = sym (take-append-drop n walk) ∙ ap (λ (l : List ℕ). l ++ drop n walk) (sym a.same)

-- the moves lead on
pub turn_goes : (mesh : FaceList) (behind : ℕ) (approach walk turn whole : List ℕ) (n around : ℕ) (list there turned round : PeakedMoves)
    (after : TrackView)
    → BeginAlike approach walk n
    → ((first rest : List ℕ) → length rest ≡ length walk - n + behind → LeadsAtPeak mesh first list (take n approach ++ rest)
    → LeadsAtPeak mesh first there (approach ++ (backward (last_of (take n approach)) (drop n approach) ++ rest)))
    → LeadsAtPeak mesh (last_of approach ∷ []) round turn → 0 < length turn → get_or turn 0 0 ≡ last_of approach
    → turned.moves ≡ there.moves ++ all_raised (length approach - 1) round.moves
    → (length round.moves ≡ 0 → turned.peak ≡ there.peak) → (0 < length round.moves → turned.peak ≡ max there.peak (around + round.peak))
    → around ≡ length approach - 1 + (length approach - n) + (length walk - n + behind)
    → whole ≡ turned_whole approach turn walk n → GoesOn mesh behind whole turned after.walk after.list
    → GoesOn mesh behind walk list after.walk after.list
turn_goes mesh behind approach walk turn whole n around list there turned round after a inserts leads some starts moves none peak counted is
    goes first rest long h =
    let y : ℕ = last_of approach in
    let front : List ℕ = take (length approach - 1) approach in
    let home : List ℕ = backward (last_of (take n approach)) (drop n approach) in
    let left : List ℕ = drop n walk in
    let tail : List ℕ = home ++ (left ++ rest) in
    let approach_some : 0 < length approach = omega (arith, a.some, a.in_approach) in
    let approach_is : approach ≡ front ++ y ∷ [] = last_entry approach approach_some in
    let turn_is : turn ≡ y ∷ drop 1 turn = drop_more turn 0 0 some ∙ ap (λ (x : ℕ). x ∷ drop 1 turn) starts in
    let left_long : length (left ++ rest) ≡ length walk - n + behind = length-append left rest ∙ omega (arith, length-drop n walk, long) in
    let from : walk ++ rest ≡ take n approach ++ (left ++ rest) = ap (λ (l : List ℕ). l ++ rest) (walk_is a)
    ∙ append_assoc (take n approach) left rest in
    let out : LeadsAtPeak mesh first there (approach ++ tail) =
    inserts first (left ++ rest) left_long (subst (LeadsAtPeak mesh first list) from h) in
    let parted : approach ++ tail ≡ front ++ y ∷ [] ++ tail = ap (λ (l : List ℕ). l ++ tail) approach_is in
    let front_long : length front ≡ length approach - 1 = length-take-le (length approach - 1) approach (omega arith) in
    let count : around ≡ length front + length tail =
    omega (
      arith,
      counted,
      front_long,
      left_long,
      length-append home (left ++ rest),
      length-backward (last_of (take n approach))
          (drop n approach),
      length-drop n approach,
    ) in
    let there_moves : turned.moves ≡ there.moves ++ all_raised (length front) round.moves =
    moves ∙ ap (λ (k : ℕ). there.moves ++ all_raised k round.moves) (sym front_long) in
    let there_peak : 0 < length round.moves → turned.peak ≡ max there.peak (length front + length tail + round.peak) =
    λ l. peak l ∙ ap (λ (k : ℕ). max there.peak (k + round.peak)) count in
    let done : LeadsAtPeak mesh first turned (front ++ turn ++ tail) =
    leads_further_on mesh first front (y ∷ []) tail turn round there turned leads (omega arith)
    (subst (LeadsAtPeak mesh first there) parted out) there_moves none there_peak in
    let to : front ++ turn ++ tail ≡ whole ++ rest =
    ap (λ (l : List ℕ). front ++ l ++ tail) turn_is ∙ regroup front (drop 1 turn) home left rest y
    ∙ ap (λ (l : List ℕ). l ++ (drop 1 turn ++ (home ++ left)) ++ rest) (sym approach_is) ∙ ap (λ (l : List ℕ). l ++ rest) (sym is) in
    goes first rest long (subst (LeadsAtPeak mesh first turned) to done)
  where
    regroup : (front turn home left rest : List ℕ) (y : ℕ)
        → front ++ y ∷ turn ++ (home ++ (left ++ rest)) ≡ front ++ y ∷ [] ++ (turn ++ (home ++ left)) ++ rest
    regroup front turn home left rest y = simp append_assoc

-- the way there, round and back ends where the walk leaves the approach
turned_end : (approach turn : List ℕ) (n : ℕ) → 0 < n → n ≤ length approach → 0 < length turn → get_or turn 0 0 ≡ last_of approach
    → last_of turn ≡ last_of approach
    → last_of (approach ++ (drop 1 turn ++ backward (last_of (take n approach)) (drop n approach))) ≡ last_of (take n approach)
turned_end approach turn n some le turn_some starts closed =
    let y : ℕ = last_of approach in
    let b : ℕ = last_of (take n approach) in
    let d : List ℕ = drop n approach in
    let home : List ℕ = backward b d in
    let out : List ℕ = approach ++ drop 1 turn in
    let approach_some : 0 < length approach = omega arith in
    let first_some : 0 < length (take n approach) = omega (arith, length-take-le n approach le) in
    let turn_is : turn ≡ y ∷ drop 1 turn = drop_more turn 0 0 turn_some ∙ ap (λ (x : ℕ). x ∷ drop 1 turn) starts in
    let out_some : 0 < length out = omega (arith, length-append approach (drop 1 turn)) in
    let out_end : last_of out ≡ y = sym (last_joined approach (drop 1 turn) approach_some) ∙ ap last_of (sym turn_is) ∙ closed in
    let y_is : y ≡ last_of (b ∷ d) = ap last_of (sym (take-append-drop n approach)) ∙ sym (last_joined (take n approach) d first_some) in
    ap last_of (sym (append_assoc approach (drop 1 turn) home)) ∙ sym (last_joined out home out_some)
    ∙ ap (λ (x : ℕ). last_of (x ∷ home)) (out_end ∙ y_is) ∙ last_back b d

-- the whole ends where the walk does
pub turn_last : {approach walk : List ℕ} (turn : List ℕ) {n : ℕ} → BeginAlike approach walk n → 0 < length turn
    → get_or turn 0 0 ≡ last_of approach → last_of turn ≡ last_of approach → last_of (turned_whole approach turn walk n) ≡ last_of walk
turn_last {approach} {walk} turn {n} a turn_some starts closed =
    let b : ℕ = last_of (take n approach) in
    let home : List ℕ = backward b (drop n approach) in
    let left : List ℕ = drop n walk in
    let there : List ℕ = approach ++ (drop 1 turn ++ home) in
    let first_some : 0 < length (take n approach) = omega (arith, length-take-le n approach a.in_approach, a.some) in
    let there_some : 0 < length there = omega (arith, length-append approach (drop 1 turn ++ home), a.some, a.in_approach) in
    let shape : turned_whole approach turn walk n ≡ there ++ left = regroup approach (drop 1 turn) home left in
    ap last_of shape ∙ sym (last_joined there left there_some)
    ∙ ap (λ (x : ℕ). last_of (x ∷ left)) (turned_end approach turn n a.some a.in_approach turn_some starts closed)
    ∙ last_joined (take n approach) left first_some ∙ ap last_of (sym (walk_is a))
  where
    regroup : (a b c d : List ℕ) → a ++ (b ++ (c ++ d)) ≡ a ++ (b ++ c) ++ d
    regroup a b c d = simp append_assoc

-- the whole is the walk with the turn put in behind the approach, up to spurs
pub turn_freely : (mesh : FaceList) (approach walk turn whole new : List ℕ) (n : ℕ) → IsWalk mesh approach → BeginAlike approach walk n
    → 0 < length turn
    → get_or turn 0 0 ≡ last_of approach → last_of turn ≡ last_of approach → whole ≡ turned_whole approach turn walk n
    → AreFreelyEqual mesh whole new
    → AreFreelyEqual mesh (get_or walk 0 0 ∷ put_behind (get_or walk 0 0) (drop 1 approach) (drop 1 turn) (drop 1 walk)) new
turn_freely mesh approach walk turn whole new n w a turn_some starts closed is h =
    let x : ℕ = get_or walk 0 0 in
    let c : List ℕ = drop 1 (take n approach) in
    let d : List ℕ = drop n approach in
    let e : List ℕ = drop n walk in
    let t : List ℕ = drop 1 turn in
    let b : ℕ = last_of (take n approach) in
    let home : List ℕ = backward b d in
    let around : List ℕ = backward x c ++ c in
    let there : List ℕ = approach ++ (t ++ home) in
    let front : List ℕ = take (length there - 1) there in
    let first_long : length (take n approach) ≡ n = length-take-le n approach a.in_approach in
    let start : get_or (take n approach) 0 0 ≡ x =
    ap (λ (l : List ℕ). get_or l 0 0) a.same ∙ get_or-take n walk 0 0 a.some in
    let first_is : take n approach ≡ x ∷ c = drop_more (take n approach) 0 0 (omega (arith, a.some)) ∙ ap (λ (y : ℕ). y ∷ c) start in
    let approach_is : approach ≡ x ∷ (c ++ d) = sym (take-append-drop n approach) ∙ ap (λ (l : List ℕ). l ++ d) first_is in
    let walk_parts : walk ≡ x ∷ (c ++ e) = walk_is a ∙ ap (λ (l : List ℕ). l ++ e) first_is in
    let b_is : last_of (x ∷ c) ≡ b = ap last_of (sym first_is) in
    let way : IsWay mesh x b c =
    subst (λ (y : ℕ). IsWay mesh x y c) b_is (way_apart mesh x _ c d (way_of mesh x (c ++ d) (subst (IsWalk mesh) approach_is w))).0 in
    let nothing : AreFreelyEqual mesh (b ∷ around) (b ∷ []) =
    subst (λ (l : List ℕ). AreFreelyEqual mesh (b ∷ (l ++ c)) (b ∷ [])) (sym (backward_is x c))
    (home_and_there (free_equality mesh) x b c way) in
    let there_is : there ≡ front ++ b ∷ [] =
    last_entry there (omega (arith, length-append approach (t ++ home), a.some, a.in_approach))
    ∙ ap (λ (y : ℕ). front ++ y ∷ []) (turned_end approach turn n a.some a.in_approach turn_some starts closed) in
    let contract : AreFreelyEqual mesh (front ++ (b ∷ around) ++ e) (front ++ (b ∷ []) ++ e) =
    (free_equality mesh).within front (b ∷ around) (b ∷ []) e (omega arith) nothing in
    let back_is : backward x (drop 1 approach) ≡ home ++ backward x c =
    ap (λ (l : List ℕ). backward x (drop 1 l)) approach_is ∙ backward-append x c d ∙ ap (λ (y : ℕ). backward y d ++ backward x c) b_is in
    let rest_is : drop 1 walk ≡ c ++ e = ap (λ (l : List ℕ). drop 1 l) walk_parts in
    let own_start : x ∷ drop 1 approach ≡ approach = ap (λ (l : List ℕ). x ∷ drop 1 l) approach_is ∙ sym approach_is in
    let from : x ∷ put_behind x (drop 1 approach) t (drop 1 walk) ≡ front ++ (b ∷ around) ++ e =
    ap (λ (l : List ℕ). l ++ (t ++ (backward x (drop 1 approach) ++ drop 1 walk))) own_start
    ∙ ap (λ (l : List ℕ). approach ++ (t ++ (l ++ drop 1 walk))) back_is
    ∙ ap (λ (l : List ℕ). approach ++ (t ++ (home ++ backward x c ++ l))) rest_is
    ∙ regroup approach t home (backward x c) c e ∙ ap (λ (l : List ℕ). l ++ (around ++ e)) there_is ∙ again front around e b in
    let to : front ++ (b ∷ []) ++ e ≡ whole =
    ap (λ (l : List ℕ). l ++ e) (sym there_is) ∙ shape approach t home e ∙ sym is in
    subst (λ (l : List ℕ). AreFreelyEqual mesh l new) (sym from)
    ((free_equality mesh).on (front ++ (b ∷ around) ++ e) whole new (subst (AreFreelyEqual mesh (front ++ (b ∷ around) ++ e)) to contract)
    h)
  where
    regroup : (a t h g c e : List ℕ) → a ++ (t ++ (h ++ g ++ (c ++ e))) ≡ a ++ (t ++ h) ++ (g ++ c ++ e)
    regroup a t h g c e = simp append_assoc

    again : (front around e : List ℕ) (b : ℕ) → front ++ b ∷ [] ++ (around ++ e) ≡ front ++ (b ∷ around) ++ e
    again front around e b = simp append_assoc

    shape : (a t h e : List ℕ) → a ++ (t ++ h) ++ e ≡ a ++ (t ++ (h ++ e))
    shape a t h e = simp append_assoc

-- the whole, with the piece between moved in where the walk leaves the approach
pub spliced_whole : (approach there back : List VertexName) (turn walk : List ℕ) (n : ℕ) → BeginAlike (numbers approach) walk n
    → there ≡ take (length approach - n) (drop n approach)
    → numbers back ≡ backward (last_of (take n (numbers approach))) (drop n (numbers approach))
    → spliced walk n (numbers there ++ (drop 1 turn ++ numbers back)) ≡ turned_whole (numbers approach) turn walk n
spliced_whole approach there back turn walk n a there_is back_is =
    let names : List ℕ = numbers approach in
    let home : List ℕ = backward (last_of (take n names)) (drop n names) in
    let out : numbers there ≡ drop n names =
    ap numbers (there_is ∙ take_rest approach n) ∙ sym (drop-map (λ (v : VertexName). v.0) n approach) in
    ap (λ (l : List ℕ). l ++ (numbers there ++ (drop 1 turn ++ numbers back) ++ drop n walk)) (sym a.same)
    ∙ ap (λ (l : List ℕ). take n names ++ (l ++ (drop 1 turn ++ numbers back) ++ drop n walk)) out
    ∙ ap (λ (l : List ℕ). take n names ++ (drop n names ++ (drop 1 turn ++ l) ++ drop n walk)) back_is
    ∙ regroup (take n names) (drop n names) (drop 1 turn) home (drop n walk)
    ∙ ap (λ (l : List ℕ). l ++ (drop 1 turn ++ (home ++ drop n walk))) (take-append-drop n names)
  where
    regroup : (a b c d e : List ℕ) → a ++ (b ++ (c ++ d) ++ e) ≡ a ++ b ++ (c ++ (d ++ e))
    regroup a b c d e = simp append_assoc

-- how long the way back is
pub back_long : (approach back : List VertexName) (n : ℕ)
    → numbers back ≡ backward (last_of (take n (numbers approach))) (drop n (numbers approach)) → length back ≡ length approach - n
back_long approach back n is = grind (arith, common_steps, length-numbers, back, length-backward)

-- how long the whole is
pub length-turned_whole : (approach turn walk : List ℕ) (n : ℕ) → 0 < length turn
    → length (turned_whole approach turn walk n) + 1 ≡ length approach + (length turn + ((length approach - n) + (length walk - n)))
length-turned_whole approach turn walk n some = grind (arith, common_steps, length-backward)

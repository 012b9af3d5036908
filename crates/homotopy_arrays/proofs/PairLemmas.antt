-- Pairs of walks, cut from arrays.
use Rattle.homotopy_arrays.proofs.Common.{IsClosedWalk, AreWalks, length_fault, walk_in_arrays, two_walks_fault, ◌≡◌, ◌≢◌, ℕ, Bool, true, false, cond, eqb, ltb, ◌+◌, ◌-◌, ◌*◌, ◌<◌, ◌≤◌, List, [], ◌∷◌, ◌++◌, length, take, drop, get_or, refl, sym, ap, ap₂, subst, ◌∙◌, inl, inr, arith, ◌↔◌, cases_lt, ne_eqb, eqb-false, le-ltb, ltb-false, take_more, get_or_append_left, length_push, sum_by-append, sum_by-take-drop, sum_by-cons, none-some, Some, None, sum_by, Option, MatchOption, option_map, FaceList, IsWalk, HaveCommonEnds, IsClosedPair, loops_fault, IsPair, pair_fault}
use Rattle.homotopy_arrays.specs.Loops.{AreLoops, closed_fault}
use Rattle.homotopy_arrays.specs.declared.pair.TheConstants.{MOST_WALK}
use Rattle.homotopy_arrays.specs.declared.pair.WalkFault.{WalkFault}
use Rattle.homotopy_arrays.specs.declared.pair.WalkFault.TheVariants.{Empty, Long, Pair, Loops}
use Rattle.std.proofs.Math.Seq.{get_or-append_seam}
use Rattle.std.specs.Option.{option_or}
use Rattle.std.specs.Prelude.{sum}
use Rattle.surf_model.specs.declared.decisions.Answer.TheVariants.{Homotopic}
use Rattle.walk_files.specs.declared.loops.LoopFault.{LoopFault}
use Rattle.walk_files.specs.declared.pair.PairFault.{PairFault}
use Rattle.walk_translate.specs.Found.{IsFoundOn}
use Rattle.surf_model.specs.Moves as moves
use Rattle.surf_model.specs.declared.decisions.Answer as deciding

-- ---- the lengths

pub length_good : (walk : ℕ) (vertices : List ℕ) → length_fault walk vertices ≡ None
    → (0 < length vertices) × (length vertices ≤ MOST_WALK)
length_good walk vertices e = by_tests (eqb (length vertices) 0) (ltb MOST_WALK (length vertices)) refl refl e
  where
    by_tests : (a b : Bool) → eqb (length vertices) 0 ≡ a → ltb MOST_WALK (length vertices) ≡ b
        → cond a (Some (Empty walk)) (cond b (Some (Long walk)) None) ≡ None → (0 < length vertices) × (length vertices ≤ MOST_WALK)
    by_tests true b p q e = absurd cc
    by_tests false true p q e = absurd cc
    by_tests false false p q e =
        let some : length vertices ≢ 0 = eqb-false (length vertices) 0 p in
        (omega (arith, some), ltb-false MOST_WALK (length vertices) q)

pub length_fits : (walk : ℕ) (vertices : List ℕ) → 0 < length vertices → length vertices ≤ MOST_WALK → length_fault walk vertices ≡ None
length_fits walk vertices some few = rw (ne_eqb (length vertices) 0 (omega (arith, some)), le-ltb MOST_WALK (length vertices) few) refl

pub length_bad : (walk : ℕ) (vertices : List ℕ) (fault : WalkFault) → length_fault walk vertices ≡ Some fault → 0 < length vertices
    → length vertices ≤ MOST_WALK → ⊥
length_bad walk vertices fault e some few = none-some fault (sym (length_fits walk vertices some few) ∙ e)

-- ---- the walks of a pair

pub walks_of_pair : (mesh : FaceList) (first second : List ℕ) → IsPair mesh (first ∷ second ∷ [])
    → (length first ≤ MOST_WALK) × (length second ≤ MOST_WALK) → AreWalks mesh first second
walks_of_pair mesh first second is few =
    let one : is.first ≡ first = cc is.two in
    let other : is.second ≡ second = cc is.two in
    record {
      first_walk = subst (IsWalk mesh) one is.are.first_walk;
      second_walk = subst (IsWalk mesh) other is.are.second_walk;
      ends = subst (HaveCommonEnds first) other (subst (λ (w : List ℕ). HaveCommonEnds w is.second) one is.are.ends);
      few = few;
    }

pub pair_of_walks : (mesh : FaceList) (first second : List ℕ) → AreWalks mesh first second → IsPair mesh (first ∷ second ∷ [])
pair_of_walks mesh first second are =
    record {
      first = first;
      second = second;
      two = refl;
      are = record { first_walk = are.first_walk; second_walk = are.second_walk; ends = are.ends };
    }

-- ---- what is first wrong

-- one of the lengths
pub lengths_bad : (first second : List ℕ) (fault : WalkFault) → option_or (length_fault 1 first) (length_fault 2 second) ≡ Some fault
    → 0 < length first → 0 < length second → (length first ≤ MOST_WALK) × (length second ≤ MOST_WALK) → ⊥
lengths_bad first second fault e some others few =
    none-some fault (sym (ap₂ option_or (length_fits 1 first some few.0) (length_fits 2 second others few.1)) ∙ e)

-- is told before all else
pub told_first : (one other rest : Option WalkFault) (fault : WalkFault) → option_or one other ≡ Some fault
    → option_or one (option_or other rest) ≡ Some fault
told_first None None rest fault e = absurd cc
told_first None (Some other) rest fault e = e
told_first (Some one) other rest fault e = e

pub no_pair : (mesh : FaceList) (first second : List ℕ) (fault : PairFault) → length_fault 1 first ≡ None → length_fault 2 second ≡ None
    → Some fault ≡ pair_fault mesh (first ∷ second ∷ []) → (IsPair mesh (first ∷ second ∷ []) → ⊥)
    → (two_walks_fault mesh first second ≡ Some (Pair fault)) × (AreWalks mesh first second → ⊥)
no_pair mesh first second fault one other e none =
    let found : option_map Pair (pair_fault mesh (first ∷ second ∷ [])) ≡ Some (Pair fault) = ap (option_map Pair) (sym e) in
    (rw (one, other) found, λ are. none (pair_of_walks mesh first second are))

-- ---- closed walks

pub loops_of_pair : (mesh : FaceList) (first second : List ℕ) → IsClosedPair mesh (first ∷ second ∷ [])
    → (length first ≤ MOST_WALK) × (length second ≤ MOST_WALK) → AreLoops mesh first second
loops_of_pair mesh first second is few =
    let one : is.first ≡ first = cc is.two in
    let other : is.second ≡ second = cc is.two in
    record {
      first_closed = subst (IsClosedWalk mesh) one is.first_closed;
      second_closed = subst (IsClosedWalk mesh) other is.second_closed;
      few = few;
    }

pub no_loops : (mesh : FaceList) (first second : List ℕ) (fault : LoopFault) → length_fault 1 first ≡ None → length_fault 2 second ≡ None
    → Some fault ≡ loops_fault mesh (first ∷ second ∷ []) → (IsClosedPair mesh (first ∷ second ∷ []) → ⊥)
    → (closed_fault mesh first second ≡ Some (Loops fault)) × (AreLoops mesh first second → ⊥)
no_loops mesh first second fault one other e none =
    let found : option_map Loops (loops_fault mesh (first ∷ second ∷ [])) ≡ Some (Loops fault) = ap (option_map Loops) (sym e) in (
      rw (one, other) found,
      λ are. none (record {
        first = first;
        second = second;
        two = refl;
        first_closed = are.first_closed;
        second_closed = are.second_closed;
      }),
    )

-- ---- the walks that sizes cut from vertices

-- behind one more walk
pub next_place : (sizes : List ℕ) (k at : ℕ) → at ≡ sum (take k sizes) → k < length sizes
    → at + get_or sizes k 0 ≡ sum (take (k + 1) sizes)
next_place sizes k at place below =
    let last : sum (take k sizes ++ get_or sizes k 0 ∷ []) ≡ sum (take k sizes) + get_or sizes k 0 =
    sum_by-append (λ x. x) (take k sizes) (get_or sizes k 0 ∷ [])
    ∙ ap (λ (n : ℕ). sum (take k sizes) + n) (sum_by-cons (λ x. x) (get_or sizes k 0) [] ∙ omega arith) in
    omega (arith, place, last, ap (sum_by (λ x. x)) (take_more sizes k 0 below))

-- which is within the vertices
pub place_within : (sizes : List ℕ) (k at total : ℕ) → at ≡ sum (take k sizes) → k < length sizes → sum sizes ≡ total
    → at + get_or sizes k 0 ≤ total
place_within sizes k at total place below all =
    omega (arith, all, next_place sizes k at place below, sum_by-take-drop (λ x. x) sizes (k + 1))

-- what is cut at its place is the walk
pub walk_cut : (sizes vertices : List ℕ) (k at : ℕ) → at ≡ sum (take k sizes)
    → take (at + get_or sizes k 0 - at) (drop at vertices) ≡ walk_in_arrays sizes vertices k
walk_cut sizes vertices k at place =
    let size : at + get_or sizes k 0 - at ≡ get_or sizes k 0 = omega arith in
    ap₂ (λ (n a : ℕ). take n (drop a vertices)) size place

-- where the next pair starts
pub pair_end : (sizes : List ℕ) (k at : ℕ) → at ≡ sum (take (2 * k) sizes) → 2 * k + 1 < length sizes
    → at + get_or sizes (2 * k) 0 + get_or sizes (2 * k + 1) 0 ≡ sum (take (2 * (k + 1)) sizes)
pair_end sizes k at place below =
    let two : 2 * k + 1 + 1 ≡ 2 * (k + 1) = omega arith in
    next_place sizes (2 * k + 1) (at + get_or sizes (2 * k) 0) (next_place sizes (2 * k) at place (omega (arith, below))) below
    ∙ ap (λ (n : ℕ). sum (take n sizes)) two

-- what holds of each entry at its place still does with one entry more
one_more : {X : Type 0} (Holds : ℕ → X → Type 0) (xs : List X) (k : ℕ) (x : X) → length xs ≡ k
    → ((j : ℕ) (none : X) → j < length xs → Holds j (get_or xs j none)) → Holds k x
    → (j : ℕ) (none : X) → j < length (xs ++ x ∷ []) → Holds j (get_or (xs ++ x ∷ []) j none)
one_more Holds xs k x many so_far is j none below =
    elim (cases_lt j (length xs)) [
      | inl before ↦ subst (Holds j) (sym (get_or_append_left xs (x ∷ []) none j before)) (so_far j none before)
      | inr last ↦
          (let here : j ≡ length xs = omega (arith, last, below, length_push xs x) in
          let there : k ≡ j = omega (arith, here, many) in
          let found : x ≡ get_or (xs ++ x ∷ []) j none =
          sym (ap (λ (n : ℕ). get_or (xs ++ x ∷ []) n none) here ∙ get_or-append_seam xs x [] none) in
          subst (Holds j) found (subst (λ (n : ℕ). Holds n x) there is))
    ]

-- ---- the answers on pairs

-- what is found of two walks is found of their vertices, of which there are not too many
found_few : (mesh : FaceList) (first second : List ℕ) (found : Option deciding.Answer)
    → (length first ≤ MOST_WALK) × (length second ≤ MOST_WALK) → IsFoundOn mesh first second found
    → MatchOption found (AreWalks mesh first second → ⊥)
    (λ answer. AreWalks mesh first second × ((answer ≡ Homotopic) ↔ moves.Homotopic mesh first second))
found_few mesh first second None few none =
    λ are. none (record { first_walk = are.first_walk; second_walk = are.second_walk; ends = are.ends })
found_few mesh first second (Some answer) few told =
    (record { first_walk = told.0.first_walk; second_walk = told.0.second_walk; ends = told.0.ends; few = few }, told.1)

pub told_of_vertices : (mesh : FaceList) (first second one other : List ℕ) (found : Option deciding.Answer) → one ≡ first → other ≡ second
    → (length first ≤ MOST_WALK) × (length second ≤ MOST_WALK) → IsFoundOn mesh one other found
    → MatchOption found (AreWalks mesh first second → ⊥)
    (λ answer. AreWalks mesh first second × ((answer ≡ Homotopic) ↔ moves.Homotopic mesh first second))
told_of_vertices mesh first second one other found e f few told =
    found_few mesh first second found few
    (subst (λ (w : List ℕ). IsFoundOn mesh first w found) f (subst (λ (w : List ℕ). IsFoundOn mesh w other found) e told))

-- what is said of pair k
abbrev pub IsAnswerAt : {A : Type 0} → ((first second : List ℕ) → A → Type 0) → (sizes vertices : List ℕ) → ℕ → A → Type 0
IsAnswerAt Is sizes vertices k answer = Is (walk_in_arrays sizes vertices (2 * k)) (walk_in_arrays sizes vertices (2 * k + 1)) answer

-- a pair more
pub more_answers : {A : Type 0} (Is : FaceList → (first second : List ℕ) → A → Type 0) (mesh same : FaceList) (sizes vertices : List ℕ)
    (answers next : List A) (k at : ℕ) (answer : A)
    → next ≡ answers ++ answer ∷ [] → length answers ≡ k → at ≡ sum (take (2 * k) sizes) → 2 * k + 1 < length sizes → mesh ≡ same
    → Is mesh (take (at + get_or sizes (2 * k) 0 - at) (drop at vertices))
    (take (at + get_or sizes (2 * k) 0 + get_or sizes (2 * k + 1) 0 - (at + get_or sizes (2 * k) 0))
    (drop (at + get_or sizes (2 * k) 0) vertices)) answer
    → ((j : ℕ) (none : A) → j < length answers → IsAnswerAt (Is same) sizes vertices j (get_or answers j none))
    → (j : ℕ) (none : A) → j < length next → IsAnswerAt (Is same) sizes vertices j (get_or next j none)
more_answers {A} Is mesh same sizes vertices answers next k at answer grown each place below e told so_far =
    let middle : at + get_or sizes (2 * k) 0 ≡ sum (take (2 * k + 1) sizes) = next_place sizes (2 * k) at place (omega (arith, below)) in
    let second : List ℕ =
    take (at + get_or sizes (2 * k) 0 + get_or sizes (2 * k + 1) 0 - (at + get_or sizes (2 * k) 0))
    (drop (at + get_or sizes (2 * k) 0) vertices) in
    let is : IsAnswerAt (Is same) sizes vertices k answer =
    subst (λ (m : FaceList). IsAnswerAt (Is m) sizes vertices k answer) e
    (subst (λ (w : List ℕ). Is mesh (walk_in_arrays sizes vertices (2 * k)) w answer)
    (walk_cut sizes vertices (2 * k + 1) (at + get_or sizes (2 * k) 0) middle)
    (subst (λ (w : List ℕ). Is mesh w second answer) (walk_cut sizes vertices (2 * k) at place) told)) in
    subst (λ (l : List A). (j : ℕ) (none : A) → j < length l → IsAnswerAt (Is same) sizes vertices j (get_or l j none))
    (sym grown) (one_more (IsAnswerAt (Is same) sizes vertices) answers k answer each so_far is)

-- The way back along a list of moves: its peak, and the moves one by one.
use Rattle.free_forms.proofs.Common.{greatest_darts-more, greatest_darts-none, greatest_darts-push, greatest_both, LeadsAtPeak, IsListWithin, IsMoveOf, ◌≡◌, inl, inr, ℕ, zero, suc, ◌+◌, ◌<◌, ◌≤◌, max, List, [], ◌∷◌, ◌++◌, length, drop, refl, ap, sym, ◌∙◌, subst, arith, length-append, cases_eq, common_steps, drop_more, get_or_from_slice_get, All, Some, slice_get, first_answer, one_after_another, stays_walk, by_replacing, keeps_walk, undone, list_undone, FaceList, PeakedMoves, apply, apply_all, greatest_darts, inverse_of, sides_of_move, way_back, IsWalk, darts, Move, Insert, Remove, Across}

-- the way back passes the same walks
greatest_darts-back : (mesh : FaceList) (moves : List Move) (walk next : List ℕ) → IsWalk mesh walk → apply_all mesh walk moves ≡ Some next
    → greatest_darts mesh next (way_back mesh moves) ≡ greatest_darts mesh walk moves
greatest_darts-back mesh [] walk next w e = grind arith
greatest_darts-back mesh (move ∷ moves) walk next w e =
    let told = first_answer (λ x. apply_all mesh x moves) (apply mesh walk move) next e in
    let on : IsWalk mesh told.0 = keeps_walk mesh walk told.0 move w told.1 in
    let rest = greatest_darts-back mesh moves told.0 next on told.2 in
    let last = greatest_darts-push mesh (way_back mesh moves) next told.0 walk (inverse_of (sides_of_move mesh move) move)
    (list_undone mesh moves told.0 next on told.2) (undone mesh walk told.0 move w told.1) in
    omega (arith, rest, last, greatest_darts-more mesh walk told.0 move moves told.1)

-- moves that lead are moves of the mesh
move_of : (mesh : FaceList) (walk next : List ℕ) (move : Move) → 0 < length walk → apply mesh walk move ≡ Some next → IsMoveOf mesh move
move_of mesh walk next (Insert at via) start e = tt
move_of mesh walk next (Remove at via) start e = tt
move_of mesh walk next (Across at face corner forward taken) start e =
    let r = (by_replacing mesh walk next (Across at face corner forward taken) start).0 e in grind arith

pub moves_of : (mesh : FaceList) (moves : List Move) (walk next : List ℕ) → 0 < length walk → apply_all mesh walk moves ≡ Some next
    → All (IsMoveOf mesh) moves
moves_of mesh [] walk next start e k d l = absurd (omega arith)
moves_of mesh (move ∷ moves) walk next start e zero d l = grind (arith, first_answer, move_of)
moves_of mesh (move ∷ moves) walk next start e (suc k) d l =
    let told = first_answer (λ x. apply_all mesh x moves) (apply mesh walk move) next e in
    moves_of mesh moves told.0 next (stays_walk mesh walk told.0 move start told.1) told.2 k d (omega arith)

-- the way back along the last moves, one move more
pub back_more : (mesh : FaceList) (moves : List Move) (k : ℕ) (move : Move) → k < length moves → slice_get moves k ≡ Some move
    → way_back mesh (drop k moves) ≡ way_back mesh (drop (k + 1) moves) ++ inverse_of (sides_of_move mesh move) move ∷ []
back_more mesh moves k move l is =
    ap (way_back mesh) (drop_more moves k move l)
    ∙ ap (λ (m : Move). way_back mesh (drop (k + 1) moves) ++ inverse_of (sides_of_move mesh m) m ∷ [])
    (get_or_from_slice_get moves k move move is)

-- the walk at the end is one of those that are passed
greatest_darts-last : (mesh : FaceList) (moves : List Move) (first walk : List ℕ) → apply_all mesh first moves ≡ Some walk
    → darts walk ≤ greatest_darts mesh first moves
greatest_darts-last mesh [] first walk e = grind (arith, greatest_darts-none)
greatest_darts-last mesh (move ∷ moves) first walk e =
    let told = first_answer (λ x. apply_all mesh x moves) (apply mesh first move) walk e in
    omega (arith, greatest_darts-last mesh moves told.0 walk told.2, greatest_darts-more mesh first told.0 move moves told.1)

-- where the second list has no moves, the first passes its walk
no_others : {mesh : FaceList} {first second one two : List ℕ} {list others : PeakedMoves} → LeadsAtPeak mesh first list one
    → LeadsAtPeak mesh second others two → one ≡ two → (ms : List Move) → others.moves ≡ ms → length ms ≡ 0
    → max list.peak others.peak ≡ list.peak
no_others h k same (m ∷ ms) is none = absurd (omega arith)
no_others {mesh} {first} {second} {one} {two} {list} {others} h k same [] is none =
    grind (arith, greatest_darts-none, greatest_darts-last)

-- from the first walk to the one where both lists lead, and back along the second list
pub there_and_back_leads : {mesh : FaceList} {first second one two : List ℕ} {list others : PeakedMoves} (whole : PeakedMoves) → IsWalk mesh
    second
    → LeadsAtPeak mesh first list one → LeadsAtPeak mesh second others two → one ≡ two
    → whole.moves ≡ list.moves ++ way_back mesh others.moves
    → (length others.moves ≡ 0 → whole.peak ≡ list.peak) → (0 < length others.moves → whole.peak ≡ max list.peak others.peak)
    → LeadsAtPeak mesh first whole second
there_and_back_leads {mesh} {first} {second} {one} {two} {list} {others} whole is_walk h k same moves none some =
    let back : apply_all mesh two (way_back mesh others.moves) ≡ Some second = list_undone mesh others.moves second two is_walk k.leads in
    let from_one : apply_all mesh one (way_back mesh others.moves) ≡ Some second =
    subst (λ (w : List ℕ). apply_all mesh w (way_back mesh others.moves) ≡ Some second) (sym same) back in
    let passed : greatest_darts mesh one (way_back mesh others.moves) ≡ greatest_darts mesh second others.moves =
    ap (λ (w : List ℕ). greatest_darts mesh w (way_back mesh others.moves)) same
    ∙ greatest_darts-back mesh others.moves second two is_walk k.leads in
    let all : greatest_darts mesh first (list.moves ++ way_back mesh others.moves) ≡ max list.peak others.peak =
    omega (arith, greatest_both mesh list.moves (way_back mesh others.moves) first one h.leads, passed, h.peak, k.peak) in
    let whole_is : greatest_darts mesh first whole.moves ≡ max list.peak others.peak = ap (greatest_darts mesh first) moves ∙ all in
    record {
      leads = grind (arith, one_after_another);
      peak = elim (cases_eq (length others.moves) 0) [
        | inl empty ↦
            none empty ∙ sym (no_others h k same others.moves refl empty) ∙ sym whole_is
        | inr more ↦ some (omega arith) ∙ sym whole_is
      ];
    }

length-way_back : (mesh : FaceList) (moves : List Move) → length (way_back mesh moves) ≡ length moves
length-way_back mesh [] = refl
length-way_back mesh (move ∷ moves) =
    omega (
      arith,
      length-append (way_back mesh moves) (inverse_of (sides_of_move mesh move) move ∷ []),
      length-way_back mesh moves,
    )

-- neither list is long, so neither is that of both
pub both_within : (mesh : FaceList) {n m : ℕ} (most : ℕ) {list others : PeakedMoves} (whole : PeakedMoves) → IsListWithin n list
    → IsListWithin m
    others → n + m ≤ most
    → whole.moves ≡ list.moves ++ way_back mesh others.moves
    → (length others.moves ≡ 0 → whole.peak ≡ list.peak) → (0 < length others.moves → whole.peak ≡ max list.peak others.peak)
    → IsListWithin most whole
both_within mesh most {list} {others} whole h k few moves none some = grind (arith, common_steps, length-way_back)

-- Spur moves leave a walk the same up to spurs, so walks without spurs to which they lead are equal.
use Rattle.surf_model.proofs.Common.{◌≡◌, ℕ, suc, ◌<◌, List, [], ◌∷◌, ◌++◌, length, ap, sym, ◌∙◌, arith, common_steps, All-nil, All-cons, All-append, All-map, All, Some, FaceList, HasNoSpur, IsSpurMove, AreFreelyEqual, apply, apply_all, raised, all_raised, inverse_of, sides_of_move, way_back, Move, Insert, Remove, Across}
use Rattle.surf_model.proofs.ReplacementLemmas.{by_replacing}
use Rattle.surf_model.proofs.ContextLemmas.{first_answer, stays_walk}
use Rattle.surf_model.proofs.StackLemmas.{AreSame, all_put, same_after, spur_same, same_equal}

-- a spur in the middle of a walk
spur_inside : (before after : List ℕ) (here via : ℕ)
    → AreSame (before ++ (here ∷ via ∷ here ∷ []) ++ after) (before ++ (here ∷ []) ++ after)
spur_inside before after here via = grind (arith, common_steps, same_after, spur_same)

spur_move_same : (mesh : FaceList) (walk next : List ℕ) (move : Move) → 0 < length walk → IsSpurMove move
    → apply mesh walk move ≡ Some next → AreSame walk next
spur_move_same mesh walk next (Insert at via) start spur e stack n =
    let r = (by_replacing mesh walk next (Insert at via) start).0 e in
    let here : ℕ = r.replaces.0 in
    let to : next ≡ r.before ++ (here ∷ via.0 ∷ here ∷ []) ++ r.after = grind arith in grind (arith, spur_inside)
spur_move_same mesh walk next (Remove at via) start spur e stack n =
    let r = (by_replacing mesh walk next (Remove at via) start).0 e in
    let here : ℕ = r.replaces.0 in
    let from : walk ≡ r.before ++ (here ∷ via.0 ∷ here ∷ []) ++ r.after =
    r.walk_is ∙ ap (λ (l : List ℕ). r.before ++ l ++ r.after) r.replaces.1 in
    let to : next ≡ r.before ++ (here ∷ []) ++ r.after = r.next_is ∙ ap (λ (l : List ℕ). r.before ++ l ++ r.after) r.replaces.2 in
    ap (all_put stack) from ∙ spur_inside r.before r.after here via.0 stack n ∙ sym (ap (all_put stack) to)
spur_move_same mesh walk next (Across at face corner forward taken) start spur e stack n = absurd spur

pub spur_list_same : (mesh : FaceList) (moves : List Move) (walk next : List ℕ) → 0 < length walk → All IsSpurMove moves
    → apply_all mesh walk moves ≡ Some next → AreSame walk next
spur_list_same mesh [] walk next start spurs e stack n = grind arith
spur_list_same mesh (move ∷ moves) walk next start spurs e stack n =
    let told = first_answer (λ x. apply_all mesh x moves) (apply mesh walk move) next e in
    let one : AreSame walk told.0 = spur_move_same mesh walk told.0 move start (spurs 0 move (omega arith)) told.1 in
    let rest : All IsSpurMove moves = λ k d l. spurs (suc k) d (omega arith) in
    one stack n ∙ spur_list_same mesh moves told.0 next (stays_walk mesh walk told.0 move start told.1) rest told.2 stack n

-- walks without spurs that spur moves join are equal
pub one_reduced_walk : (mesh : FaceList) (first second : List ℕ) → 0 < length first → AreFreelyEqual mesh first second → HasNoSpur first
    → HasNoSpur second → first ≡ second
one_reduced_walk mesh first second start free h k = grind (arith, same_equal, spur_list_same)

-- spur moves stay spur moves in a longer walk, and on the way back
spur_raised : (n : ℕ) (move : Move) → IsSpurMove move → IsSpurMove (raised n move)
spur_raised n (Insert at via) spur = tt
spur_raised n (Remove at via) spur = tt
spur_raised n (Across at face corner forward taken) spur = absurd spur

pub spurs_raised : (n : ℕ) (moves : List Move) → All IsSpurMove moves → All IsSpurMove (all_raised n moves)
spurs_raised n moves spurs = All-map IsSpurMove (raised n) moves (λ k d l. spur_raised n _ (spurs k d l))

spur_back : (sides : ℕ) (move : Move) → IsSpurMove move → IsSpurMove (inverse_of sides move)
spur_back sides (Insert at via) spur = tt
spur_back sides (Remove at via) spur = tt
spur_back sides (Across at face corner forward taken) spur = absurd spur

pub spurs_back : (mesh : FaceList) (moves : List Move) → All IsSpurMove moves → All IsSpurMove (way_back mesh moves)
spurs_back mesh [] spurs = All-nil IsSpurMove
spurs_back mesh (move ∷ moves) spurs =
    let back : Move = inverse_of (sides_of_move mesh move) move in
    let rest : All IsSpurMove moves = λ k d l. spurs (suc k) d (omega arith) in
    All-append IsSpurMove (way_back mesh moves) (back ∷ []) (spurs_back mesh moves rest)
    (All-cons IsSpurMove back [] (spur_back (sides_of_move mesh move) move (spurs 0 move (omega arith))) (All-nil IsSpurMove))

-- One more move behind a list of moves, and a spur that goes out at the end of the part of a walk that is laid.
use Rattle.move_lifting.proofs.Common.{greatest_darts-more, greatest_darts-none, one_more, spur_goes, LeadsAtPeak, IsRemoval, TrackView, GoesOn, IsStepBack, ◌≡◌, ℕ, suc, ◌+◌, ◌-◌, ◌<◌, max, List, [], ◌∷◌, ◌++◌, length, take, get_or, ap, sym, ◌∙◌, subst, arith, append_assoc, length-append, common_steps, get_or_append_left, length-take-le, Some, All, first_answer, stays_walk, by_replacing, FaceList, HasNoSpur, PeakedMoves, apply, apply_all, greatest_darts, darts, Move, Insert, Remove, Across, VertexName}
use Rattle.move_lifting.proofs.ListLemmas.{front_and_last, no_spur_front}

-- a spur goes out
goes_back : (mesh : FaceList) (behind : ℕ) (front : List ℕ) (here : ℕ) (via : VertexName) (list more : PeakedMoves)
    → more ≡ record { moves = list.moves ++ Remove (length front) via ∷ []; peak = max list.peak (length front + behind) }
    → GoesOn mesh behind (front ++ here ∷ [] ++ via.0 ∷ [] ++ here ∷ []) list (front ++ here ∷ []) more
goes_back mesh behind front here via list more is first rest long h =
    let from : front ++ here ∷ [] ++ via.0 ∷ [] ++ here ∷ [] ++ rest ≡ front ++ here ∷ via.0 ∷ here ∷ rest = simp append_assoc in
    let to : front ++ here ∷ rest ≡ front ++ here ∷ [] ++ rest = sym (append_assoc front (here ∷ []) rest) in
    let count : length front + behind ≡ darts (front ++ here ∷ rest) = omega (arith, length-append front (here ∷ rest), long) in
    let noted : more ≡ record { moves = list.moves ++ Remove (length front) via ∷ []; peak = max list.peak (darts (front ++ here ∷ rest)) }
    =
    subst (λ (n : ℕ). more ≡ record { moves = list.moves ++ Remove (length front) via ∷ []; peak = max list.peak n }) count is in
    subst (LeadsAtPeak mesh first more) to
    (one_more mesh first (front ++ here ∷ via.0 ∷ here ∷ rest) (front ++ here ∷ rest) (Remove (length front) via) list more
    (subst (LeadsAtPeak mesh first list) from h) (spur_goes mesh front rest here via) noted)

-- a step back to where the walk came from
pub step_back_goes : (mesh : FaceList) {behind : ℕ} (next : ℕ) {old new : TrackView} → 1 < length old.walk
    → get_or old.walk (length old.walk - 2) 0 ≡ next → IsStepBack behind old new
    → GoesOn mesh behind (old.walk ++ next ∷ []) old.list new.walk new.list
step_back_goes mesh {behind} next {old} {new} some came back =
    let n : ℕ = length old.walk - 2 in
    let long : length old.walk ≡ length new.walk + 1 = ap (λ (l : List ℕ). length l) back.walk ∙ length-append new.walk (back.via.0 ∷ []) in
    let at : n + 1 ≡ length new.walk = omega arith in
    let here : get_or new.walk n 0 ≡ next =
    sym (get_or_append_left new.walk (back.via.0 ∷ []) 0 n (omega arith)) ∙ ap (λ (l : List ℕ). get_or l n 0) (sym back.walk) ∙ came in
    let front : List ℕ = take n new.walk in
    let new_is : new.walk ≡ front ++ next ∷ [] = front_and_last new.walk n at ∙ ap (λ (x : ℕ). front ++ x ∷ []) here in
    let old_is : old.walk ≡ front ++ next ∷ [] ++ back.via.0 ∷ [] = back.walk ∙ ap (λ (l : List ℕ). l ++ back.via.0 ∷ []) new_is in
    let front_long : n ≡ length front = sym (length-take-le n new.walk (omega arith)) in
    let noted : new.list ≡ record {
      moves = old.list.moves ++ Remove (length front) back.via ∷ [];
      peak = max old.list.peak (length front + behind);
    } =
    subst (λ (k : ℕ). new.list ≡ record { moves = old.list.moves ++ Remove k back.via ∷ []; peak = max old.list.peak (k + behind) })
    front_long back.list in
    subst (λ (l : List ℕ). GoesOn mesh behind (l ++ next ∷ []) old.list new.walk new.list) (sym old_is)
    (subst (λ (l : List ℕ). GoesOn mesh behind (front ++ next ∷ [] ++ back.via.0 ∷ [] ++ next ∷ []) old.list l new.list) (sym new_is)
    (goes_back mesh behind front next back.via old.list new.list noted))

pub step_back_no_spur : {behind : ℕ} {old new : TrackView} → HasNoSpur old.walk → IsStepBack behind old new → HasNoSpur new.walk
step_back_no_spur {new} h back = no_spur_front new.walk (back.via.0 ∷ []) (subst HasNoSpur back.walk h)

-- removals pass no walk longer than the first
pub removals_peak : (mesh : FaceList) (moves : List Move) (first walk : List ℕ) → 0 < length first → All IsRemoval moves
    → apply_all mesh first moves ≡ Some walk → greatest_darts mesh first moves ≡ darts first
removals_peak mesh [] first walk start all e = greatest_darts-none mesh first
removals_peak mesh (Insert at via ∷ moves) first walk start all e = absurd (all 0 (Insert at via) (omega arith))
removals_peak mesh (Across at face corner forward taken ∷ moves) first walk start all e =
    absurd (all 0 (Across at face corner forward taken) (omega arith))
removals_peak mesh (Remove at via ∷ moves) first walk start all e =
    let told = first_answer (λ x. apply_all mesh x moves) (apply mesh first (Remove at via)) walk e in
    let next : List ℕ = told.0 in
    let r = (by_replacing mesh first next (Remove at via) start).0 told.1 in
    let from : length first ≡ length r.before + length r.part + length r.after =
    ap (λ (l : List ℕ). length l) r.walk_is ∙ simp length-append in
    let to : length next ≡ length r.before + length r.other + length r.after =
    ap (λ (l : List ℕ). length l) r.next_is ∙ simp length-append in
    let out : length r.part ≡ 3 = ap (λ (l : List ℕ). length l) r.replaces.1 in
    let one : length r.other ≡ 1 = ap (λ (l : List ℕ). length l) r.replaces.2 in
    let rest : greatest_darts mesh next moves ≡ darts next =
    removals_peak mesh moves next walk (stays_walk mesh first next (Remove at via) start told.1) (λ k d l. all (suc k) d (omega arith))
    told.2 in
    omega (arith, rest, from, to, out, one, greatest_darts-more mesh first next (Remove at via) moves told.1)

pub step_back_some : {behind : ℕ} {old new : TrackView} → 1 < length old.walk → IsStepBack behind old new → 0 < length new.walk
step_back_some {new} some back = grind (arith, common_steps)

-- Moves in a longer walk: what stands in front and behind stays.
use Rattle.surf_model.proofs.Common.{◌≡◌, ℕ, ◌+◌, ◌<◌, List, [], ◌∷◌, ◌++◌, length, refl, ap, sym, ◌∙◌, arith, append_assoc, length-append, Option, Some, None, option_and_then, FaceList, apply, apply_all, Replaces, place_of_move, raised, all_raised, Move, Insert, Remove, Across}
use Rattle.surf_model.proofs.ReplacementLemmas.{by_replacing, length-corners_from}

replaces_raised : (mesh : FaceList) (k : ℕ) (move : Move) (part other : List ℕ) → Replaces mesh move part other
    → Replaces mesh (raised k move) part other
replaces_raised mesh k (Insert at via) part other h = h
replaces_raised mesh k (Remove at via) part other h = h
replaces_raised mesh k (Across at face corner forward taken) part other h = h

place_raised : (k : ℕ) (move : Move) → place_of_move (raised k move) ≡ k + place_of_move move
place_raised k (Insert at via) = refl
place_raised k (Remove at via) = refl
place_raised k (Across at face corner forward taken) = refl

-- a move gives no empty walk
pub some_entry : (mesh : FaceList) (move : Move) (part other : List ℕ) → Replaces mesh move part other → 0 < length other
some_entry mesh (Insert at via) part other h = rw h.3 (omega arith)
some_entry mesh (Remove at via) part other h = rw h.2 (omega arith)
some_entry mesh (Across at face corner forward taken) part other h = rw (h.4, length-corners_from) (omega arith)

pub stays_walk : (mesh : FaceList) (walk next : List ℕ) (move : Move) → 0 < length walk → apply mesh walk move ≡ Some next → 0 < length next
stays_walk mesh walk next move start e =
    let r = (by_replacing mesh walk next move start).0 e in
    let some : 0 < length r.other = some_entry mesh move r.part r.other r.replaces in
    rw (r.next_is, length-append, length-append) (omega arith)

pub in_context : (mesh : FaceList) (walk next before after : List ℕ) (move : Move) → 0 < length walk → apply mesh walk move ≡ Some next
    → apply mesh (before ++ walk ++ after) (raised (length before) move) ≡ Some (before ++ next ++ after)
in_context mesh walk next before after move start e =
    let r = (by_replacing mesh walk next move start).0 e in
    let long : 0 < length (before ++ walk ++ after) = rw (length-append, length-append) (omega arith) in
    (by_replacing mesh (before ++ walk ++ after) (before ++ next ++ after) (raised (length before) move) long).1
    (record {
      before = before ++ r.before;
      part = r.part;
      other = r.other;
      after = r.after ++ after;
      walk_is = ap (λ (l : List ℕ). before ++ l ++ after) r.walk_is ∙ simp append_assoc;
      next_is = ap (λ (l : List ℕ). before ++ l ++ after) r.next_is ∙ simp append_assoc;
      place = length-append before r.before ∙ ap (λ (n : ℕ). length before + n) r.place ∙ sym (place_raised (length before) move);
      replaces = replaces_raised mesh (length before) move r.part r.other r.replaces;
    })

-- what leads on from a first answer
pub first_answer : {A B : Type 0} (f : A → Option B) (o : Option A) (y : B) → option_and_then f o ≡ Some y
    → (x : A) × (o ≡ Some x) × (f x ≡ Some y)
first_answer f None y e = cc
first_answer f (Some x) y e = (x, refl, e)

pub list_in_context : (mesh : FaceList) (moves : List Move) (walk next before after : List ℕ) → 0 < length walk
    → apply_all mesh walk moves ≡ Some next
    → apply_all mesh (before ++ walk ++ after) (all_raised (length before) moves) ≡ Some (before ++ next ++ after)
list_in_context mesh [] walk next before after start e = grind arith
list_in_context mesh (move ∷ moves) walk next before after start e =
    let told = first_answer (λ x. apply_all mesh x moves) (apply mesh walk move) next e in
    let one = in_context mesh walk told.0 before after move start told.1 in
    let more = list_in_context mesh moves told.0 next before after (stays_walk mesh walk told.0 move start told.1) told.2 in grind arith

-- lists of moves one after another
pub one_after_another : (mesh : FaceList) (moves others : List Move) (walk between next : List ℕ)
    → apply_all mesh walk moves ≡ Some between → apply_all mesh between others ≡ Some next
    → apply_all mesh walk (moves ++ others) ≡ Some next
one_after_another mesh [] others walk between next e f = grind arith
one_after_another mesh (move ∷ moves) others walk between next e f =
    let told = first_answer (λ x. apply_all mesh x moves) (apply mesh walk move) between e in
    let more = one_after_another mesh moves others told.0 between next told.2 f in grind arith

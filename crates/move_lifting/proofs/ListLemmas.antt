-- Entries of walks that are put together, and spurs in them.
use Rattle.move_lifting.proofs.Common.{◌≡◌, ◌≢◌, ℕ, ◌+◌, ◌<◌, List, [], ◌∷◌, ◌++◌, length, take, drop, get_or, sym, ◌∙◌, arith, length-append, common_steps, get_or_append_left, take_more, take_all, HasNoSpur}

-- a part in front of a walk without spurs has none
pub no_spur_front : (front rest : List ℕ) → HasNoSpur (front ++ rest) → HasNoSpur front
no_spur_front front rest h k l same =
    let more : k + 2 < length (front ++ rest) = omega (arith, length-append front rest, l) in
    h k more (get_or_append_left front rest 0 k (omega arith) ∙ same ∙ sym (get_or_append_left front rest 0 (k + 2) l))

-- nor has the walk with one more entry, which is not the entry two places before
pub no_spur_on : (walk : List ℕ) (next : ℕ) → HasNoSpur walk → ((k : ℕ) → k + 2 ≡ length walk → get_or walk k 0 ≢ next)
    → HasNoSpur (walk ++ next ∷ [])
no_spur_on walk next h other k l same = grind (arith, common_steps)

-- a list is its front and its last entry
pub front_and_last : (xs : List ℕ) (n : ℕ) → n + 1 ≡ length xs → xs ≡ take n xs ++ get_or xs n 0 ∷ []
front_and_last xs n h = sym (take_all (n + 1) xs (omega arith)) ∙ take_more xs n 0 (omega arith)

-- one entry of a walk is read
pub read_on : (front walk : List ℕ) (place v : ℕ) → place < length walk → get_or walk place 0 ≡ v
    → front ++ drop place walk ≡ front ++ v ∷ [] ++ drop (place + 1) walk
read_on front walk place v l is = grind (arith, common_steps)

-- a walk of one vertex has no spur
pub one_no_spur : (v : ℕ) → HasNoSpur (v ∷ [])
one_no_spur v k l = absurd (omega arith)

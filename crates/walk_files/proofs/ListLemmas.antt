-- Lists: one element more, and lists of numbers that lie one after another.
use Rattle.walk_files.proofs.Common.{◌≡◌, ℕ, ◌+◌, ◌-◌, ◌≤◌, List, [], ◌∷◌, ◌++◌, length, take, drop, refl, sym, ap, subst, ◌∙◌, arith, drop-append-le, take-append-le, length-drop, All-head, All-tail, All-more, slice_get_within, get_or_from_slice_get, All, Some, slice_get, list_at, stored_lists, AreWithin}
use Rattle.walk_files.specs.declared.number_lines.Place.{Place}

-- what holds of the first ones and of the next one holds of one more
pub all-next : {X : Type 0} (P : X → Type 0) (xs : List X) (k : ℕ) (x : X) → All P (take k xs) → slice_get xs k ≡ Some x → P x
    → All P (take (k + 1) xs)
all-next P xs k x so_far here holds =
    All-more P xs k x (slice_get_within xs k x here) so_far (subst P (sym (get_or_from_slice_get xs k x x here)) holds)

-- a place among the numbers
abbrev IsWithin : List ℕ → Place → Type 0
IsWithin numbers place = (place.start ≤ place.end) × (place.end ≤ length numbers)

-- numbers behind a list leave it
list_at-append : (numbers more : List ℕ) (place : Place) → IsWithin numbers place → list_at (numbers ++ more) place ≡ list_at numbers place
list_at-append numbers more place within =
    ap (λ ns. record { line = place.line; numbers = ns })
    (ap (take (place.end - place.start)) (drop-append-le place.start numbers more (omega arith))
    ∙ take-append-le (place.end - place.start) (drop place.start numbers) more (omega (arith, length-drop place.start numbers)))

pub stored_lists-append : (places : List Place) (numbers more : List ℕ) → AreWithin places numbers
    → stored_lists places (numbers ++ more) ≡ stored_lists places numbers
stored_lists-append [] numbers more within = refl
stored_lists-append (place ∷ places) numbers more within =
    ap (λ l. l ∷ stored_lists places (numbers ++ more))
    (list_at-append numbers more place (All-head (IsWithin numbers) place places within))
    ∙ ap (λ ls. list_at numbers place ∷ ls) (stored_lists-append places numbers more (All-tail (IsWithin numbers) place places within))

-- A turn word over a degree is a list of numbers below it: empty, or a start direction and then turns.
-- An elementary step changes it at one place, wherever that is.
use Rattle.std.specs.Prelude.{◌≡◌, ℕ, ◌==◌, nat_lt, zero, suc, Bool, true, false, if◌then◌else◌, List, [], ◌∷◌, Option, Some, None, option_map, option_and_then}
use Rattle.turn_words.specs.Modulo.{add, minus}
use Rattle.turn_words.specs.declared.step.Step.{Step}
use Rattle.turn_words.specs.declared.step.Step.TheVariants.{SpurIn, SpurOut, Push}

-- the entry that comes next, if there is one, is changed by an amount
abbrev pub next_changed : ℕ → ℕ → List ℕ → List ℕ
next_changed degree amount [] = []
next_changed degree amount (y ∷ rest) = add degree y amount ∷ rest

-- `s` becomes `first 0 (s - first)`
abbrev pub spur_in : ℕ → ℕ → List ℕ → Option (List ℕ)
spur_in degree first rest =
    if nat_lt first degree then Some (first ∷ 0 ∷ next_changed degree (minus degree first) rest) else None

-- `x 0 y` becomes `x + y`
abbrev pub spur_out : ℕ → List ℕ → Option (List ℕ)
spur_out degree [] = None
spur_out degree (x ∷ []) = None
spur_out degree (x ∷ turn ∷ rest) = if turn == 0 then Some (next_changed degree x rest) else None

-- up, `x -1 y` becomes `(x + 1) 1 (y + 1)`; down, `x 1 y` becomes `(x - 1) -1 (y - 1)`
abbrev pub pushed : ℕ → Bool → List ℕ → Option (List ℕ)
pushed degree up [] = None
pushed degree up (x ∷ []) = None
pushed degree true (x ∷ turn ∷ rest) =
    if turn == minus degree 1 then Some (add degree x 1 ∷ 1 ∷ next_changed degree 1 rest) else None
pushed degree false (x ∷ turn ∷ rest) =
    if turn == 1
    then Some (add degree x (minus degree 1) ∷ minus degree 1 ∷ next_changed degree (minus degree 1) rest)
    else None

-- a rule used on the part of the word from a place on
abbrev pub from_place : ℕ → (List ℕ → Option (List ℕ)) → List ℕ → Option (List ℕ)
from_place zero rule word = rule word
from_place (suc at) rule [] = None
from_place (suc at) rule (x ∷ word) = option_map (λ changed. x ∷ changed) (from_place at rule word)

-- the word after an elementary step, or nothing where the step is not allowed
abbrev pub after_step : ℕ → Step → List ℕ → Option (List ℕ)
after_step degree (SpurIn at first) word = from_place at (spur_in degree first) word
after_step degree (SpurOut at) word = from_place at (spur_out degree) word
after_step degree (Push at up) word = from_place at (pushed degree up) word

-- the word after a list of steps, or nothing where one of them is not allowed
abbrev pub after_word_steps : ℕ → List Step → List ℕ → Option (List ℕ)
after_word_steps degree [] word = Some word
after_word_steps degree (step ∷ steps) word = option_and_then (after_word_steps degree steps) (after_step degree step word)

-- some list of elementary steps leads from the one word to the other
abbrev pub Reaches : ℕ → List ℕ → List ℕ → Type 0
Reaches degree word reached = (steps : List Step) × (after_word_steps degree steps word ≡ Some reached)

-- How a turn is put at the end of a canonical word. Here a word is read from its end: the last entry comes first,
-- and the start direction last.
use Rattle.std.specs.Prelude.{ℕ, ◌==◌, Bool, false, ◌&&◌, ◌||◌, if◌then◌else◌, List, [], ◌∷◌, reverse}
use Rattle.turn_words.specs.Modulo.{add, minus}

-- a word, and the number by which the turn that comes next is changed
pub record Put : Type 0 where
  pub word : List ℕ
  pub change : ℕ

-- the word ends in `1 2^k` for some `k` from 0 on, with the 1 a turn
abbrev pub is_open : List ℕ → Bool
is_open [] = false
is_open (start ∷ []) = false
is_open (turn ∷ x ∷ before) = turn == 1 || (turn == 2 && is_open (x ∷ before))

-- `x (-2)^k` at the end, the run of turns taken whole, becomes `(x + 1) 1 2^k`
abbrev pub flipped : ℕ → List ℕ → List ℕ
flipped degree [] = []
flipped degree (start ∷ []) = 1 ∷ add degree start 1 ∷ []
flipped degree (turn ∷ x ∷ before) =
    if turn == minus degree 2 then 2 ∷ flipped degree (x ∷ before) else 1 ∷ add degree turn 1 ∷ x ∷ before

-- `x 1 2^k` at the end becomes `(x - 1) (-2)^k`
abbrev pub closed : ℕ → List ℕ → List ℕ
closed degree [] = []
closed degree (start ∷ []) = start ∷ []
closed degree (turn ∷ x ∷ before) =
    if turn == 1 then add degree x (minus degree 1) ∷ before else minus degree 2 ∷ closed degree (x ∷ before)

-- the five cases: a start direction, a spur, a flip, a bracket that is closed, and every other turn
abbrev pub put : ℕ → List ℕ → ℕ → Put
put degree [] turn = record { word = turn ∷ []; change = 0 }
put degree (x ∷ before) turn =
    if turn == 0 then record { word = before; change = x }
    else if turn == minus degree 1 then record { word = flipped degree (x ∷ before); change = 1 }
    else if turn == 1 && is_open (x ∷ before)
    then record { word = closed degree (x ∷ before); change = minus degree 1 }
    else record { word = turn ∷ x ∷ before; change = 0 }

-- the same with words written from their start, as they are everywhere else
abbrev pub put_last : ℕ → List ℕ → ℕ → Put
put_last degree word turn =
    let ended = put degree (reverse word) turn in record { word = reverse ended.word; change = ended.change }

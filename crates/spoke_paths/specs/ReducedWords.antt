-- Turn words that no short rule makes shorter.
use Rattle.std.specs.Prelude.{◌≡◌, ◌≢◌, ℕ, ◌==◌, Bool, false, ◌&&◌, ◌||◌, List, [], ◌∷◌}
use Rattle.turn_words.specs.Modulo.{minus}
use Rattle.turn_words.specs.Canonical.{turns_of}

-- the turns begin with `two^k one` for some `k` from 0 on, and so close a bracket that a turn `one` before them opens
abbrev pub closes : ℕ → ℕ → List ℕ → Bool
closes one two [] = false
closes one two (turn ∷ turns) = turn == one || (turn == two && closes one two turns)

-- no turn is 0, and no run of neighbouring turns is `1 2^k 1` or `(-1) (-2)^k (-1)`
abbrev pub HasNoBracket : ℕ → List ℕ → Type 0
HasNoBracket degree [] = Unit {0}
HasNoBracket degree (turn ∷ turns) =
    (turn ≢ 0) × (turn ≡ 1 → closes 1 2 turns ≡ false)
    × (turn ≡ minus degree 1 → closes (minus degree 1) (minus degree 2) turns ≡ false) × HasNoBracket degree turns

-- a reduced word: the start direction is no turn
abbrev pub IsReducedWord : ℕ → List ℕ → Type 0
IsReducedWord degree word = HasNoBracket degree (turns_of word)

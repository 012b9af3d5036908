-- Canonical turn words.
use Rattle.std.specs.Prelude.{◌≡◌, ◌≢◌, ℕ, ◌<◌, ◌≤◌, ◌==◌, Bool, false, ◌&&◌, ◌||◌, List, [], ◌∷◌, ◌++◌, replicate, All}
use Rattle.turn_words.specs.Modulo.{minus}
use Rattle.turn_words.specs.StepTable.{Reaches}

-- the entries of a word but the start direction, which is no turn
abbrev pub turns_of : List ℕ → List ℕ
turns_of [] = []
turns_of (start ∷ turns) = turns

-- the turns begin with `2^k 1` for some `k` from 0 on, and so close a bracket that a turn 1 before them opens
abbrev pub closes_bracket : List ℕ → Bool
closes_bracket [] = false
closes_bracket (turn ∷ turns) = turn == 1 || (turn == 2 && closes_bracket turns)

-- no turn is 0 (a spur), none is -1, and no run of neighbouring turns is a bracket `1 2^k 1`
abbrev pub AreReduced : ℕ → List ℕ → Type 0
AreReduced degree [] = Unit {0}
AreReduced degree (turn ∷ turns) =
    (turn ≢ 0) × (turn ≢ minus degree 1) × (turn ≡ 1 → closes_bracket turns ≡ false) × AreReduced degree turns

-- a canonical word over a degree: a test on a finished list
pub record IsCanonical (degree : ℕ) (word : List ℕ) : Type 0 where
  pub in_range : All (λ entry. entry < degree) word
  pub reduced : AreReduced degree (turns_of word)

-- a turn word over a degree from 5 on
pub record IsTurnWord (degree : ℕ) (word : List ℕ) : Type 0 where
  pub five : 5 ≤ degree
  pub in_range : All (λ entry. entry < degree) word

-- a canonical word that the word reaches
pub record IsCanonicalOf (degree : ℕ) (word canonical : List ℕ) : Type 0 where
  pub is_canonical : IsCanonical degree canonical
  pub reached : Reaches degree word canonical

-- the same, said of every place: no spur, no turn -1 and no bracket stands anywhere among the turns
pub record StandsNowhere (degree : ℕ) (word : List ℕ) : Type 0 where
  pub in_range : All (λ entry. entry < degree) word
  pub no_spur : (before after : List ℕ) → turns_of word ≢ before ++ 0 ∷ after
  pub no_minus : (before after : List ℕ) → turns_of word ≢ before ++ minus degree 1 ∷ after
  pub no_bracket : (before after : List ℕ) (k : ℕ) → turns_of word ≢ before ++ 1 ∷ replicate k 2 ++ 1 ∷ after

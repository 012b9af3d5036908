-- How a turn word is kept: its start direction, its length, and the runs of its turns.
use Rattle.std.specs.Prelude.{◌≡◌, ◌≢◌, ℕ, ◌+◌, ◌<◌, ◌^◌, ◌==◌, if◌then◌else◌, List, [], ◌∷◌, length}
use Rattle.turn_words.specs.Modulo.{add}
use Rattle.turn_words.specs.Runs.{written, AreApart}

-- the word: the start direction stands apart from the runs
abbrev pub word_of_runs : ℕ → ℕ → List (ℕ × ℕ) → List ℕ
word_of_runs len start runs = if len == 0 then [] else start ∷ written runs

-- a word as it is kept
pub record IsStoredWord (len : ℕ) (runs : List (ℕ × ℕ)) : Type 0 where
  pub few : len < 2 ^ 32
  pub none : len ≡ 0 → runs ≡ []
  pub some : 0 < len → len ≡ length (written runs) + 1
  pub apart : AreApart runs

-- the run on top, if there is one, has another value
abbrev pub TopDiffers : ℕ → List (ℕ × ℕ) → Type 0
TopDiffers value [] = Unit {0}
TopDiffers value (run ∷ []) = run.0 ≢ value
TopDiffers value (run ∷ next ∷ runs) = TopDiffers value (next ∷ runs)

-- the word, its runs, and how many runs there is room for in all
pub record RunWordView : Type 0 where
  pub word : List ℕ
  pub runs : List (ℕ × ℕ)
  pub room : ℕ

-- a word read from its end is the start direction alone, or its last turn is not the value
abbrev pub EndsOtherwise : ℕ → List ℕ → Type 0
EndsOtherwise value [] = ⊥
EndsOtherwise value (start ∷ []) = Unit {0}
EndsOtherwise value (turn ∷ x ∷ before) = turn ≢ value

-- a word read from its end has a last entry, and it is below the degree
abbrev pub EndsBelow : ℕ → List ℕ → Type 0
EndsBelow degree [] = ⊥
EndsBelow degree (x ∷ before) = x < degree

-- a number is added to the last entry of a word read from its end
abbrev pub last_changed : ℕ → ℕ → List ℕ → List ℕ
last_changed degree by [] = []
last_changed degree by (x ∷ before) = add degree x by ∷ before

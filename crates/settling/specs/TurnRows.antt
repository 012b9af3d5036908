-- Endless rows of turns that come round again and again, and what is left where such a row is put at the end of a
-- canonical word.
use Rattle.std.specs.Prelude.{◌≡◌, ◌≢◌, ℕ, ◌+◌, ◌*◌, ◌<◌, ◌≤◌, zero, suc, List, [], ◌∷◌, ◌++◌, length}
use Rattle.turn_words.specs.Modulo.{add, minus}
use Rattle.turn_words.specs.PutTurns.{Put, put_last}

-- some entries of a row, from a place on
abbrev pub entries : (ℕ → ℕ) → ℕ → ℕ → List ℕ
entries row start zero = []
entries row start (suc count) = row start ∷ entries row (start + 1) count

-- a word after the first entries of a row were put at its end, one after another, and the number by which the entry that
-- comes next is changed
abbrev pub put_along : ℕ → Put → (ℕ → ℕ) → ℕ → Put
put_along degree began row zero = began
put_along degree began row (suc count) =
    let ended = put_along degree began row count in
    put_last degree ended.word (add degree (row count) ended.change)

-- the turns of a row that comes round are canonical: no spur, no turn -1 and no bracket stands anywhere, and they are not
-- all -2
pub record IsCanonicalRow (degree period : ℕ) (row : ℕ → ℕ) : Type 0 where
  pub some : 0 < period
  pub comes_round : (at : ℕ) → row (at + period) ≡ row at
  pub below : (at : ℕ) → row at < degree
  pub no_spur : (at : ℕ) → row at ≢ 0
  pub no_minus : (at : ℕ) → row at ≢ minus degree 1
  pub no_bracket : (at k : ℕ) → row at ≡ 1 → ((i : ℕ) → i < k → row (at + 1 + i) ≡ 2) → row (at + 1 + k) ≢ 1
  pub not_all_fall : ¬ ((at : ℕ) → row at ≡ minus degree 2)

-- from a place of the row on, each entry is only put last, whatever the number of entries
pub record IsSettled (degree : ℕ) (began : Put) (row : ℕ → ℕ) (start : ℕ) : Type 0 where
  pub only_put : (count : ℕ) →
      put_along degree began row (start + count)
      ≡ record { word = (put_along degree began row start).word ++ entries row start count; change = 0 }

-- never are more than so many entries lost: each loss shortens the word by two against the length that it should have
abbrev pub LosesAtMost : ℕ → ℕ → Put → (ℕ → ℕ) → Type 0
LosesAtMost budget degree began row =
    (count : ℕ) → length began.word + count ≤ length (put_along degree began row count).word + 2 * budget

-- a place from which the row is settled, which comes soon
pub record Settles (degree period budget : ℕ) (began : Put) (row : ℕ → ℕ) : Type 0 where
  pub start : ℕ
  pub soon : start ≤ (budget + 1) * (2 * period + 1)
  pub settled : IsSettled degree began row start

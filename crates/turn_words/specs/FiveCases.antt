-- How a turn is put at the end of a word, as a table over the five cases, with the word written from its start.
use Rattle.std.specs.Prelude.{◌≡◌, ◌≢◌, ℕ, List, [], ◌∷◌, ◌++◌, replicate}
use Rattle.turn_words.specs.Modulo.{add, minus}
use Rattle.turn_words.specs.PutTurns.{put_last}

-- the word ends in `x 1 2^k`, with that 1 a turn
pub record EndsOpen (word : List ℕ) : Type 0 where
  pub before : List ℕ
  pub x : ℕ
  pub k : ℕ
  pub is : word ≡ before ++ x ∷ 1 ∷ replicate k 2

-- the run of turns behind `x` is taken whole: `x` is the start direction, or no -2
abbrev pub IsWhole : ℕ → List ℕ → ℕ → Type 0
IsWhole degree before x = before ≢ [] → x ≢ minus degree 2

-- the five cases: the word after, and the number by which the turn that comes next is changed
pub record FiveCases (degree : ℕ) : Type 0 where
  pub start : (t : ℕ) → put_last degree [] t ≡ record { word = t ∷ []; change = 0 }
  pub spur : (v : List ℕ) (x : ℕ) → put_last degree (v ++ x ∷ []) 0 ≡ record { word = v; change = x }
  pub flip : (v : List ℕ) (x k : ℕ) → IsWhole degree v x →
      put_last degree (v ++ x ∷ replicate k (minus degree 2)) (minus degree 1)
      ≡ record { word = v ++ add degree x 1 ∷ 1 ∷ replicate k 2; change = 1 }
  pub close : (v : List ℕ) (x k : ℕ) →
      put_last degree (v ++ x ∷ 1 ∷ replicate k 2) 1
      ≡ record { word = v ++ add degree x (minus degree 1) ∷ replicate k (minus degree 2); change = minus degree 1 }
  pub other : (w : List ℕ) (t : ℕ) → w ≢ [] → t ≢ 0 → t ≢ minus degree 1 → (t ≡ 1 → ¬ EndsOpen w) →
      put_last degree w t ≡ record { word = w ++ t ∷ []; change = 0 }

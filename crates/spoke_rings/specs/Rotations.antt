-- Closed lists that are the same but for where they start, and which of them is least.
use Rattle.std.specs.Prelude.{◌≡◌, ℕ, ◌<◌, ◌≤◌, ◌%◌, List, ◌++◌, take, drop, length, slice_index}

-- an even number of spokes goes from the front to the end
pub record IsRotation (spokes other : List ℕ) : Type 0 where
  pub count : ℕ
  pub even : count % 2 ≡ 0
  pub within : count ≤ length spokes
  pub is : other ≡ drop count spokes ++ take count spokes

-- lexicographic order of lists of one length: where they differ first, the first list has the smaller entry
pub record ComesBefore (first second : List ℕ) : Type 0 where
  pub place : ℕ
  pub same : (k : ℕ) → k < place → slice_index first k ≡ slice_index second k
  pub less : slice_index first place < slice_index second place

-- a rotation before which no other comes; in the field, the least conjugate of a cyclic word, or its necklace
pub record IsLeastRotation (spokes rotation : List ℕ) : Type 0 where
  pub is_one : IsRotation spokes rotation
  pub least : (other : List ℕ) → IsRotation spokes other → ¬ ComesBefore other rotation

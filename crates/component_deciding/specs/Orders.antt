-- Orders in which pairs are asked about.
use Rattle.std.specs.Prelude.{ℕ, List, map}
use Rattle.std.specs.List.{range_with_len}
use Rattle.std.specs.List.Sorted.{IsPermutation}
use Rattle.component_deciding.specs.declared.order.Placed.{Placed}

-- the numbers of as many pairs, from 0 on, each once
abbrev pub AreAllPairs : (count : ℕ) → List Placed → Type 0
AreAllPairs count order = IsPermutation (range_with_len 0 count) (map (λ entry. entry.pair) order)

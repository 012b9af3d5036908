-- The places of the spokes round the one vertex: the place of spoke `k` is number `k` of a list.
use Rattle.std.specs.Prelude.{◌≡◌, ℕ, ◌<◌, ◌≤◌, List, length, slice_index}

-- each place is below the number of spokes
abbrev pub IsInside : List ℕ → Type 0
IsInside places = (spoke : ℕ) → spoke < length places → slice_index places spoke < length places

-- the least spoke whose place is not below the number of spokes
pub record IsFirstOutside (places : List ℕ) (spoke : ℕ) : Type 0 where
  pub spoke_below : spoke < length places
  pub outside : length places ≤ slice_index places spoke
  pub first : (earlier : ℕ) → earlier < spoke → slice_index places earlier < length places

-- two spokes have the place
pub record StandsTwice (places : List ℕ) (place : ℕ) : Type 0 where
  pub one : ℕ
  pub other : ℕ
  pub apart : one < other
  pub below : other < length places
  pub one_place : slice_index places one ≡ place
  pub other_place : slice_index places other ≡ place

-- the least place that two spokes have
pub record IsFirstTwice (places : List ℕ) (place : ℕ) : Type 0 where
  pub twice : StandsTwice places place
  pub first : (lower : ℕ) → lower < place → ¬ StandsTwice places lower

-- each number below the number of spokes is the place of exactly one spoke
pub record IsWheel (places : List ℕ) : Type 0 where
  pub inside : IsInside places
  pub once : (i j : ℕ) → i < length places → j < length places → slice_index places i ≡ slice_index places j → i ≡ j

-- How a wheel is stored: beside the place of each spoke, the spoke of each place.
use Rattle.std.specs.Prelude.{◌≡◌, ℕ, ◌<◌, ◌^◌, List, length, slice_index}
use Rattle.turn_words.specs.Wheels.{IsWheel}

-- the second list has the spoke of each place
pub record IsInverse (places spokes : List ℕ) : Type 0 where
  pub as_long : length spokes ≡ length places
  pub inside : (place : ℕ) → place < length places → slice_index spokes place < length places
  pub back : (place : ℕ) → place < length places → slice_index places (slice_index spokes place) ≡ place

-- a wheel as it is stored
pub record IsStoredWheel (places spokes : List ℕ) : Type 0 where
  pub few : length places < 2 ^ 32
  pub wheel : IsWheel places
  pub inverse : IsInverse places spokes

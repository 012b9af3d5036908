-- What two walks begin with and end with, what is left of a walk without it, and moves of what is left with it around.
use Rattle.std.specs.Prelude.{◌≡◌, ◌≢◌, ℕ, ◌+◌, ◌-◌, ◌<◌, ◌≤◌, List, length, take, drop, slice_index}
use Rattle.surf_model.specs.FaceLists.{FaceList}
use Rattle.surf_model.specs.Moves.{PeakedMoves}
use Rattle.surf_model.specs.Rewriting.{all_raised}
use Rattle.surf_model.specs.Walks.{IsWalk, HaveCommonEnds, darts}
use Rattle.common_ends.specs.declared.common_darts.CommonDarts.{CommonDarts}

-- the walk without so many darts at its start and so many at its end
abbrev pub between : ℕ → ℕ → List ℕ → List ℕ
between front back walk = drop front (take (length walk - back) walk)

-- behind so many darts the walks do not go on alike
abbrev pub DifferBehind : List ℕ → List ℕ → ℕ → Type 0
DifferBehind first second front =
    front < darts first → front < darts second → slice_index first (front + 1) ≢ slice_index second (front + 1)

-- before their last so many darts, beside the first ones, the walks do not come alike
abbrev pub DifferBefore : List ℕ → List ℕ → ℕ → ℕ → Type 0
DifferBefore first second front back =
    front + back < darts first → front + back < darts second
    → slice_index first (darts first - back - 1) ≢ slice_index second (darts second - back - 1)

-- The walks begin alike for so many darts, and end alike for so many others, and for no more.
pub record AreCommonDarts (first second : List ℕ) (common : CommonDarts) : Type 0 where
  pub in_first : common.front + common.back ≤ darts first
  pub in_second : common.front + common.back ≤ darts second
  pub begin : take (common.front + 1) first ≡ take (common.front + 1) second
  pub close : drop (darts first - common.back) first ≡ drop (darts second - common.back) second
  pub no_more_behind : DifferBehind first second common.front
  pub no_more_before : DifferBefore first second common.front common.back

-- a list of moves where the common darts stand around the walk: so many entries in front of each move, and all of them on each walk
abbrev pub put_around : CommonDarts → PeakedMoves → PeakedMoves
put_around common list = record { moves = all_raised common.front list.moves; peak = common.front + common.back + list.peak }

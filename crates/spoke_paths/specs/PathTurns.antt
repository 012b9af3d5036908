-- The turns of a path, told by places in the path: the spoke with number `at` is counted from 0, and its turn is against
-- the spoke before it.
use Rattle.std.specs.Prelude.{◌≡◌, ◌≢◌, ℕ, ◌+◌, ◌-◌, ◌<◌, ◌≤◌, ◌%◌, ◌==◌, Bool, List, ◌++◌, length, slice_index}
use Rattle.turn_words.specs.Modulo.{add, minus}
use Rattle.turn_words.specs.SpokePaths.{place_round}
use Rattle.spoke_paths.specs.PathSteps.{PathLeads}
use Rattle.spoke_paths.specs.declared.step.PathStep.{PathStep}

-- the spoke with this number leads from the vertex to the middle
abbrev pub from_vertex : ℕ → Bool
from_vertex at = at % 2 == 0

-- the turn of the spoke with a number, from 1 on
abbrev pub turn_of : List ℕ → List ℕ → ℕ → ℕ
turn_of places path at =
    add (length places) (place_round places (from_vertex at) (slice_index path at))
    (minus (length places) (place_round places (from_vertex at) (slice_index path (at - 1))))

-- a turn `one` at a place, and turns `two` from there to a later place, which is not among them
pub record Opens (places path : List ℕ) (one two start last : ℕ) : Type 0 where
  pub turn : 1 ≤ start
  pub earlier : start < last
  pub opening : turn_of places path start ≡ one
  pub run : (at : ℕ) → start < at → at < last → turn_of places path at ≡ two

-- no spur and no bracket ends at a place
pub record EndsNothing (places path : List ℕ) (at : ℕ) : Type 0 where
  pub no_spur : turn_of places path at ≢ 0
  pub no_rise : turn_of places path at ≡ 1 → (start : ℕ) → ¬ Opens places path 1 2 start at
  pub no_fall : turn_of places path at ≡ minus (length places) 1 →
      (start : ℕ) → ¬ Opens places path (minus (length places) 1) (minus (length places) 2) start at

-- no spur and no bracket ends anywhere in the path
abbrev pub IsShort : List ℕ → List ℕ → Type 0
IsShort places path = (at : ℕ) → 1 ≤ at → at < length path → EndsNothing places path at

-- a wheel with four spokes at least, where each half of a quad brings the other
pub record HasQuads (places : List ℕ) : Type 0 where
  pub four : 4 ≤ length places
  pub full : (a c : ℕ) → a < length places → c < length places →
      slice_index places (add (length places) c 1) ≡ add (length places) (slice_index places a) (minus (length places) 1) →
      slice_index places (add (length places) a 1) ≡ add (length places) (slice_index places c) (minus (length places) 1)

-- what is known once two neighbours were taken the other way round their quad: at the point before the first the place
-- of the first changes by `back`, at the point between them the turn is `back`, and at the point behind the second the
-- place of the second changes by `one`, which undoes `back`
pub record IsTurnedOver (places : List ℕ) (at one back : ℕ) (old new : List ℕ) : Type 0 where
  pub as_long : length new ≡ length old
  pub same : (k : ℕ) → k ≢ at → k ≢ at + 1 → slice_index new k ≡ slice_index old k
  pub first : place_round places (from_vertex at) (slice_index new at)
      ≡ add (length places) (place_round places (from_vertex at) (slice_index old at)) back
  pub between : turn_of places new (at + 1) ≡ back
  pub second : place_round places (from_vertex at) (slice_index new (at + 1))
      ≡ add (length places) (place_round places (from_vertex at) (slice_index old (at + 1))) one

-- what is known once a bracket is closed, which opened at a number and ended at the last spoke: the two spokes before
-- it are gone, the turn there changed by `back`, and the turns behind are `run`
pub record IsBracketClosed (places : List ℕ) (start back run : ℕ) (old new : List ℕ) : Type 0 where
  pub shorter : length new + 2 ≡ length old
  pub same : (k : ℕ) → k + 1 < start → slice_index new k ≡ slice_index old k
  pub turn : 2 ≤ start → turn_of places new (start - 1) ≡ add (length places) (turn_of places old (start - 1)) back
  pub behind : (k : ℕ) → start ≤ k → k < length new → turn_of places new k ≡ run

-- whatever led to the path led, with the new steps, to the new path, with the same spokes behind
abbrev pub LeadsOn : List ℕ → List PathStep → List ℕ → List PathStep → List ℕ → Type 0
LeadsOn places steps path more shorter =
    (begin rest : List ℕ) → PathLeads places begin steps (path ++ rest) → PathLeads places begin more (shorter ++ rest)

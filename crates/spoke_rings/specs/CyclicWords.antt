-- The turns of a closed list of spokes, which starts at the vertex and comes back to its first spoke behind the last one.
use Rattle.std.specs.Prelude.{◌≡◌, ◌≢◌, ℕ, ◌+◌, ◌-◌, ◌<◌, ◌%◌, ◌==◌, ◌⊎◌, Bool, true, not, if◌then◌else◌, List, [], All, length, slice_index}
use Rattle.turn_words.specs.Modulo.{add, minus}
use Rattle.turn_words.specs.HyperStates.{IsHyperWheel}
use Rattle.turn_words.specs.FormLaws.{IsQuad}
use Rattle.turn_words.specs.SpokePaths.{place_round}
use Rattle.settling.specs.TurnRows.{IsCanonicalRow}

-- the spokes of a list that is gone along again and again
abbrev pub spoke_along : List ℕ → ℕ → ℕ
spoke_along spokes at = slice_index spokes (at % length spokes)

-- where the list stands before a spoke, if it stands before the first one as is told
abbrev pub stands_before : Bool → ℕ → Bool
stands_before at_vertex at = if at % 2 == 0 then at_vertex else not at_vertex

-- the turn of a spoke against the one before it, round the point where the two meet
abbrev pub turn_along : List ℕ → Bool → List ℕ → ℕ → ℕ
turn_along places at_vertex spokes at =
    add (length places) (place_round places (stands_before at_vertex at) (spoke_along spokes at))
    (minus (length places) (place_round places (stands_before at_vertex at) (spoke_along spokes (at + (length spokes - 1)))))

-- the turns of a closed list that starts at the vertex, again and again: its cyclic turns
abbrev pub cyclic_turn : List ℕ → List ℕ → ℕ → ℕ
cyclic_turn places spokes = turn_along places true spokes

-- a closed list of spokes of a wheel, of even length
pub record IsLoop (places spokes : List ℕ) : Type 0 where
  pub below : All (λ spoke. spoke < length places) spokes
  pub even : length spokes % 2 ≡ 0

-- an empty list, or one whose cyclic turns are canonical: no spur, no turn -1 and no bracket stands anywhere among them,
-- round the seam too, and they are not all -2
abbrev pub IsCyclicallyCanonical : List ℕ → List ℕ → Type 0
IsCyclicallyCanonical places spokes =
    (spokes ≡ []) ⊎ IsCanonicalRow (length places) (length spokes) (cyclic_turn places spokes)

-- the partner of a side of the polygon, with which it makes a quad
pub record Partner (places : List ℕ) (side : ℕ) : Type 0 where
  pub partner : ℕ
  pub other : partner ≢ side
  pub quad : IsQuad places side partner

-- a wheel with five spokes at least, where each side has a partner
pub record IsFullWheel (places : List ℕ) : Type 0 where
  pub own : IsHyperWheel places
  pub full : (side : ℕ) → side < length places → Partner places side

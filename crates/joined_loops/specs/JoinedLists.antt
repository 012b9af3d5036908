-- Two lists of spokes that a third one joins. In the field: the third conjugates the second into the first.
use Rattle.std.specs.Prelude.{◌≡◌, ℕ, zero, suc, List, [], ◌++◌}
use Rattle.turn_words.specs.FormLaws.{led}
use Rattle.turn_words.specs.HyperStates.{HyperState, BelongsTo, IsEven, hyper_next}
use Rattle.spoke_rings.specs.CyclicWords.{IsLoop}

-- the joining list, put behind the first one, leads each state at the vertex where the second one leads it, put behind the joining list
pub record JoinedBy (places first second joining : List ℕ) : Type 0 where
  pub loop : IsLoop places joining
  pub same : (state : HyperState) → BelongsTo places state → IsEven state →
      led hyper_next places state (first ++ joining) ≡ led hyper_next places state (joining ++ second)

-- some closed list joins the two
abbrev pub Joined : List ℕ → List ℕ → List ℕ → Type 0
Joined places first second = (joining : List ℕ) × JoinedBy places first second joining

-- a list that is gone along so many times
abbrev pub repeated : List ℕ → ℕ → List ℕ
repeated spokes zero = []
repeated spokes (suc count) = spokes ++ repeated spokes count

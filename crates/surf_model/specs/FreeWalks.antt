-- Walks up to spurs alone (backtracks), and walks along a tree.
use Rattle.std.specs.Prelude.{◌≡◌, ◌≢◌, ◌⊎◌, ℕ, ◌+◌, ◌<◌, List, length, slice_index, Option, Some, All}
use Rattle.surf_model.specs.FaceLists.{FaceList}
use Rattle.surf_model.specs.Moves.{Leads}
use Rattle.surf_model.specs.declared.moves.Move.{Move}
use Rattle.surf_model.specs.declared.moves.Move.TheVariants.{Insert, Remove, Across}

-- the move puts a spur in or takes one out
abbrev pub IsSpurMove : Move → Type 0
IsSpurMove (Insert at via) = Unit {0}
IsSpurMove (Remove at via) = Unit {0}
IsSpurMove (Across at face corner forward taken) = ⊥

-- spurs alone lead from the first walk to the second
abbrev pub AreFreelyEqual : FaceList → List ℕ → List ℕ → Type 0
AreFreelyEqual mesh first second = (moves : List Move) × All IsSpurMove moves × Leads mesh first moves second

-- the walk goes nowhere along an edge and straight back
abbrev pub HasNoSpur : List ℕ → Type 0
HasNoSpur walk = (k : ℕ) → k + 2 < length walk → slice_index walk k ≢ slice_index walk (k + 2)

-- each dart of the walk leads from a vertex to its parent, or from a parent to its child
abbrev pub IsAlongTree : (ℕ → Option ℕ) → List ℕ → Type 0
IsAlongTree parent walk =
    (k : ℕ) → k + 1 < length walk
    → (parent (slice_index walk k) ≡ Some (slice_index walk (k + 1))) ⊎ (parent (slice_index walk (k + 1)) ≡ Some (slice_index walk k))

-- going up from child to parent ends: the rank falls
abbrev pub RankFalls : (ℕ → Option ℕ) → (ℕ → ℕ) → Type 0
RankFalls parent rank = (v above : ℕ) → parent v ≡ Some above → rank above < rank v

-- What a move of the double of a mesh becomes on the mesh.
use Rattle.std.specs.Prelude.{◌≡◌, ℕ, ◌+◌, ◌<◌, ◌≤◌, Some, ◌%◌, ◌/◌, ◌==◌, Bool, if◌then◌else◌, List, ◌∷◌, length, take}
use Rattle.surf_model.specs.FaceLists.{FaceList}
use Rattle.surf_model.specs.Moves.{PeakedMoves, apply}
use Rattle.surf_model.specs.PeakedLists.{LeadsAtPeak}
use Rattle.surf_model.specs.Replacements.{Replaces, place_of_move}
use Rattle.surf_model.specs.Walks.{IsWalk, darts}
use Rattle.surf_model.specs.declared.moves.Move.{Move}
use Rattle.doubling.specs.Doubles.{double_of}
use Rattle.doubling.specs.Folds.{folded}

-- the move is allowed on a part that begins at this vertex
pub record IsAllowedAt (mesh : FaceList) (here : ℕ) (move : Move) : Type 0 where
  pub rest : List ℕ
  pub others : List ℕ
  pub replaces : Replaces mesh move (here ∷ rest) (here ∷ others)

-- at this place the move does to the fold of a part of a walk what a move of the double does to the part
pub record IsMoveBelow (mesh : FaceList) (place : ℕ) (part other : List ℕ) (move : Move) : Type 0 where
  pub place_is : place_of_move move ≡ place
  pub replaces : Replaces mesh move (folded mesh.count part) (folded mesh.count other)

-- of so many sides of a quad, from a corner on, those that lead along its edge or the mirror of that: every second one
abbrev pub along_edge : ℕ → Bool → ℕ → ℕ
along_edge corner forward taken =
    if (if forward then corner % 2 == 0 else corner % 2 == 1) then (taken + 1) / 2 else taken / 2

-- Wherever the list leads on the double at its peak from the first walk to a walk of the mesh, the other leads on the mesh at its own.
abbrev pub LeadsFolded : FaceList → List ℕ → PeakedMoves → PeakedMoves → Type 0
LeadsFolded mesh first list below =
    (second : List ℕ) → IsWalk mesh second → LeadsAtPeak (double_of mesh) first list second → LeadsAtPeak mesh first below second

-- the entry of a walk of the double at one place, and the place of the last entry of its fold up to there
pub record IsFoldedEntry (count : ℕ) (walk : List ℕ) (above below : ℕ) : Type 0 where
  pub within : above < length walk
  pub below_is : below + 1 ≡ length (folded count (take (above + 1) walk))

-- the move is allowed on the walk, and makes it no longer than the peak
pub record StaysWithinPeak (mesh : FaceList) (peak : ℕ) (walk : List ℕ) (move : Move) : Type 0 where
  pub next : List ℕ
  pub leads : apply mesh walk move ≡ Some next
  pub within : darts next ≤ peak

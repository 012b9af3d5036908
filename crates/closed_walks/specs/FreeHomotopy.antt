-- Closed walks, changes of the vertex that one starts at, and free homotopy. In the field: homotopy of closed curves without a base point.
use Rattle.std.specs.Prelude.{◌≡◌, ℕ, ◌-◌, List, [], ◌∷◌, ◌++◌, length, slice_index, Option, Some, None, option_and_then}
use Rattle.surf_model.specs.FaceLists.{FaceList}
use Rattle.surf_model.specs.Walks.{IsWalk}
use Rattle.surf_model.specs.Moves.{apply}
use Rattle.surf_model.specs.declared.moves.Move.{Move}

-- a walk that ends at the vertex that it starts at
pub record IsClosedWalk (mesh : FaceList) (walk : List ℕ) : Type 0 where
  pub is_walk : IsWalk mesh walk
  pub closed : slice_index walk (length walk - 1) ≡ slice_index walk 0

-- the closed walk from its second vertex on: the first entry goes, and the new first one comes last too; nothing where there is no dart
abbrev pub from_next : List ℕ → Option (List ℕ)
from_next (first ∷ next ∷ rest) = Some (next ∷ rest ++ next ∷ [])
from_next walk = None

-- a step of a free homotopy
pub data FreeStep : Type 0 where
  -- a move on the walk
  Moved : Move → FreeStep
  -- the closed walk starts one vertex later
  Rotated : FreeStep

-- the closed walk after a step, or nothing where the step is not allowed
abbrev pub after_free : FaceList → List ℕ → FreeStep → Option (List ℕ)
after_free mesh walk (Moved move) = apply mesh walk move
after_free mesh walk Rotated = from_next walk

-- the closed walk after some steps, in order; nothing where one of them is not allowed
abbrev pub after_all_free : FaceList → List ℕ → List FreeStep → Option (List ℕ)
after_all_free mesh walk [] = Some walk
after_all_free mesh walk (step ∷ steps) = option_and_then (λ next. after_all_free mesh next steps) (after_free mesh walk step)

-- the steps lead from the first closed walk to the second
abbrev pub FreelyLeads : FaceList → List ℕ → List FreeStep → List ℕ → Type 0
FreelyLeads mesh first steps second = after_all_free mesh first steps ≡ Some second

-- two closed walks are freely homotopic where some list of moves and of changes of the starting vertex leads from the first to the second
abbrev pub FreelyHomotopic : FaceList → List ℕ → List ℕ → Type 0
FreelyHomotopic mesh first second = (steps : List FreeStep) × FreelyLeads mesh first steps second

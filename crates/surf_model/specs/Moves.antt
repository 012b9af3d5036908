-- Elementary moves on walks, what it is that a list of moves leads from one walk to another, and homotopy.
use Rattle.std.specs.Prelude.{◌≡◌, ℕ, ◌+◌, ◌-◌, Bool, not, ◌==◌, ◌&&◌, nat_eq, nat_lt, nat_le, max, if◌then◌else◌, List, [], ◌∷◌, ◌++◌, length, take, drop, slice_index, Option, Some, None, option_and_then}
use lib.Pointwise.{pointwise}
use Rattle.surf_model.specs.FaceLists.{FaceList, face_at, corners_from, is_edge}
use Rattle.surf_model.specs.Walks.{darts}
use Rattle.surf_model.specs.declared.moves.Move.{Move}
use Rattle.surf_model.specs.declared.moves.Move.TheVariants.{Insert, Remove, Across}

-- the walk with the n entries from place `at` on replaced by others
abbrev pub replaced : ℕ → ℕ → List ℕ → List ℕ → List ℕ
replaced at n others walk = take at walk ++ others ++ drop (at + n) walk

-- whether two walks are the same
abbrev pub same_walk : List ℕ → List ℕ → Bool
same_walk = pointwise nat_eq

-- The table of moves: the walk that a move gives, or nothing where the move is not allowed.
unfoldable pub apply : FaceList → List ℕ → Move → Option (List ℕ)
-- a spur goes in: along an edge, and straight back
apply mesh walk (Insert at via) =
    if nat_le at (darts walk) && is_edge mesh (slice_index walk at) via.0
    then Some (replaced at 1 (slice_index walk at ∷ via.0 ∷ slice_index walk at ∷ []) walk)
    else None
-- a spur goes out
apply mesh walk (Remove at via) =
    if nat_le (at + 2) (darts walk) && slice_index walk at == slice_index walk (at + 2) && slice_index walk (at + 1) == via.0
    then Some (replaced at 3 (slice_index walk at ∷ []) walk)
    else None
-- the walk goes round a face the other way: `taken` sides from a corner on are replaced by the others
apply mesh walk (Across at face corner forward taken) =
    let ring = face_at mesh face.0 in
    let sides = length ring in
    if nat_lt face.0 (length mesh.faces) && nat_lt corner sides && nat_le taken sides && nat_le (at + taken) (darts walk)
    && same_walk (take (taken + 1) (drop at walk)) (corners_from ring forward corner taken)
    then Some (replaced at (taken + 1) (corners_from ring (not forward) corner (sides - taken)) walk)
    else None

-- the walk that a list of moves gives, applied in order; nothing where one of them is not allowed
abbrev pub apply_all : FaceList → List ℕ → List Move → Option (List ℕ)
apply_all mesh walk [] = Some walk
apply_all mesh walk (move ∷ moves) = option_and_then (λ next. apply_all mesh next moves) (apply mesh walk move)

-- the list of moves leads from the first walk to the second
abbrev pub Leads : FaceList → List ℕ → List Move → List ℕ → Type 0
Leads mesh first moves second = apply_all mesh first moves ≡ Some second

-- the greatest number of darts among the walks that a list of moves passes, the first one included
unfoldable pub greatest_darts : FaceList → List ℕ → List Move → ℕ
greatest_darts mesh walk [] = darts walk
greatest_darts mesh walk (move ∷ moves) =
    max (darts walk) (darts_after (apply mesh walk move) (λ next. greatest_darts mesh next moves))
  where
    darts_after : Option (List ℕ) → (List ℕ → ℕ) → ℕ
    darts_after None rest = 0
    darts_after (Some next) rest = rest next

-- two walks are homotopic where some list of moves leads from the first to the second
abbrev pub Homotopic : FaceList → List ℕ → List ℕ → Type 0
Homotopic mesh first second = (moves : List Move) × Leads mesh first moves second

-- a list of moves with the peak that is declared for it
pub record PeakedMoves : Type 0 where
  pub moves : List Move
  pub peak : ℕ

-- How large a surface and two walks of it may be for a command that makes lists of moves, and the refusal of larger ones, which begins with
-- a word of the command.
use Rattle.std.specs.Prelude.{◌≡◌, ℕ, ◌+◌, ◌<◌, ◌≤◌, nat_lt, if◌then◌else◌, List, [], ◌∷◌, codes, decimal, Option, Some, None}
use Rattle.std.specs.Option.{option_map}
use Rattle.surf_model.specs.FaceLists.{FaceList, total_sides}
use Rattle.surf_model.specs.Walks.{darts}
use Rattle.commands.specs.Lines.{refused}
use Rattle.commands.specs.declared.limits.Limits.{Limits}
use Rattle.commands.specs.declared.limits.OverLimit.{OverLimit}
use Rattle.commands.specs.declared.limits.OverLimit.TheVariants.{Sides, Darts}
use Rattle.commands.specs.declared.status.Status.{Status}
use Rattle.commands.specs.declared.status.Status.TheVariants.{Refused}

-- the surface and the walks are not too large
pub record FitsLimits (limits : Limits) (mesh : FaceList) (first second : List ℕ) : Type 0 where
  pub sides : total_sides mesh ≤ limits.sides
  pub few : darts first + darts second ≤ limits.darts

-- what is first over its limit: the sides of the surface, and then the darts of the walks
abbrev pub first_over : Limits → FaceList → (first second : List ℕ) → Option OverLimit
first_over limits mesh first second =
    if nat_lt limits.sides (total_sides mesh) then Some (Sides (total_sides mesh))
    else if nat_lt limits.darts (darts first + darts second) then Some (Darts (darts first + darts second))
    else None

-- the refusal for it
abbrev pub over_line : (word : List ℕ) → OverLimit → List ℕ
over_line word (Sides sides) = refused (word ∷ codes "sides" ∷ decimal sides ∷ [])
over_line word (Darts darts) = refused (word ∷ codes "darts" ∷ decimal darts ∷ [])

-- the refusals of a surface with too many sides, and of walks with too many darts
abbrev pub sides_line : (word : List ℕ) → FaceList → List ℕ
sides_line word mesh = over_line word (Sides (total_sides mesh))

abbrev pub darts_line : (word first second : List ℕ) → List ℕ
darts_line word first second = over_line word (Darts (darts first + darts second))

-- the refusal of a surface or of walks that are too large
abbrev pub limit_line : Limits → (word : List ℕ) → FaceList → (first second : List ℕ) → Option (List ℕ)
limit_line limits word mesh first second = option_map (over_line word) (first_over limits mesh first second)

-- what is answered of such an input beyond the limits
pub record IsRefusedBeyond (limits : Limits) (word : List ℕ) (IsInput : FaceList → (first second : List ℕ) → Type 0) (status : Status)
    (text : List ℕ) : Type 0 where
  pub many_sides : (mesh : FaceList) (first second : List ℕ) → IsInput mesh first second → limits.sides < total_sides mesh
      → (status ≡ Refused) × (text ≡ sides_line word mesh)
  pub many_darts : (mesh : FaceList) (first second : List ℕ) → IsInput mesh first second → total_sides mesh ≤ limits.sides
      → limits.darts < darts first + darts second → (status ≡ Refused) × (text ≡ darts_line word first second)

-- A mesh whose vertices have other numbers.
use Rattle.std.specs.Prelude.{◌≡◌, ℕ, ◌<◌, map, IsTrue}
use Rattle.surf_model.specs.FaceLists.{FaceList, is_used}
use Rattle.surf_model.specs.declared.moves.Move.{Move}
use Rattle.surf_model.specs.declared.moves.Move.TheVariants.{Insert, Remove, Across}

-- the other mesh has the faces of the first in their order, each corner by its other number; `there` tells the other number of a used
-- vertex, and `back` leads back from it. Nothing is asked of vertices that no face names
pub record IsRenamed (there back : ℕ → ℕ) (mesh other : FaceList) : Type 0 where
  pub faces : other.faces ≡ map (map there) mesh.faces
  pub below : (v : ℕ) → IsTrue (is_used mesh v) → there v < other.count
  pub leads_back : (v : ℕ) → IsTrue (is_used mesh v) → back (there v) ≡ v

-- a move with its vertex renamed; a face keeps its number
abbrev pub renamed_move : (ℕ → ℕ) → Move → Move
renamed_move there (Insert at via) = Insert at (record { 0 = there via.0 })
renamed_move there (Remove at via) = Remove at (record { 0 = there via.0 })
renamed_move there (Across at face corner forward taken) = Across at face corner forward taken

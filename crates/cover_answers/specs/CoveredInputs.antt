-- A command that is asked of the orientation cover of a closed manifold, and of two lifts, in place of the manifold and two walks of it.
use Rattle.std.specs.Prelude.{◌≡◌, ℕ, Bool, List, [], ◌∷◌, Option}
use Rattle.surf_io.specs.Files.{Files}
use Rattle.surf_model.specs.FaceLists.{FaceList, IsFaceList, HasFileSize}
use Rattle.surf_model.specs.Surfaces.{IsClosedManifold}
use Rattle.surf_model.specs.Walks.{IsWalk}
use Rattle.orientation_cover.specs.Turns.{cover_by, lift_by}
use Rattle.orientation_cover.specs.Ways.{AreWays}
use Rattle.commands.specs.Checks.{Holds}
use Rattle.commands.specs.Inputs.{SpellsMesh, SpellsPair}
use Rattle.commands.specs.Outcomes.{AnswersTo}
use Rattle.commands.specs.declared.status.Status.{Status}
use Rattle.commands.specs.declared.status.Status.TheVariants.{Yes}
use Rattle.cover_commands.specs.MeshCover.{FitsWalkFile, lifted_walks, mesh_cover}

-- The words are this keyword and the names of two files, which are told: the first stands for the cover of a closed manifold by ways round
-- its vertices, and the second for the lifts of two walks, which have common ends.
pub record IsInputOnCover (keyword : List ℕ) (held : Option Files) (words : List (List ℕ)) (mesh : FaceList) (bits : List Bool)
    (first second : List ℕ) : Type 0 where
  pub cover_name : List ℕ
  pub lifts_name : List ℕ
  pub words_are : words ≡ keyword ∷ cover_name ∷ lifts_name ∷ []
  pub cover_file : Holds held cover_name (SpellsMesh (cover_by mesh bits))
  pub polygons : IsFaceList mesh
  pub manifold : IsClosedManifold mesh
  pub ways : AreWays mesh bits
  pub first_walk : IsWalk mesh first
  pub second_walk : IsWalk mesh second
  pub lifts_file : Holds held lifts_name (SpellsPair (cover_by mesh bits) (lift_by mesh bits first) (lift_by mesh bits second))

-- What `mesh_cover` printed of a file that spells a closed manifold, and of one that spells two walks of it with common ends: the cover,
-- and with status 0 lifts; where the cover is no larger than a mesh may be, and the walks are not too long for a walk file of version 1.
pub record ArePrinted (held : Option Files) (mesh_name walks_name : List ℕ) (mesh : FaceList) (bits : List Bool) (first second : List ℕ)
    (status : Status) (cover_text lifts_text : List ℕ) : Type 0 where
  pub mesh_file : Holds held mesh_name (SpellsMesh mesh)
  pub walks_file : Holds held walks_name (SpellsPair mesh first second)
  pub manifold : IsClosedManifold mesh
  pub ways : AreWays mesh bits
  pub small : HasFileSize (cover_by mesh bits)
  pub first_short : FitsWalkFile first
  pub second_short : FitsWalkFile second
  pub cover : AnswersTo held (mesh_cover held mesh_name) status cover_text
  pub lifts : AnswersTo held (lifted_walks held mesh_name walks_name) Yes lifts_text

-- A command that is asked of a double in place of a surface with boundary.
use Rattle.std.specs.Prelude.{◌≡◌, ℕ, List, [], ◌∷◌, Option}
use Rattle.surf_io.specs.Files.{Files}
use Rattle.surf_model.specs.FaceLists.{FaceList, IsFaceList}
use Rattle.surf_model.specs.Surfaces.{IsOrientable}
use Rattle.free_forms.specs.OpenSurfaces.{IsOpenSurface}
use Rattle.doubling.specs.Doubles.{double_of}
use Rattle.commands.specs.Checks.{Holds}
use Rattle.commands.specs.Inputs.{SpellsMesh}

-- The words are this keyword and the names of two files, which are told: the first stands for the double of an orientable surface with
-- boundary, and the bytes of the second are such.
pub record IsInputOnDouble (keyword : List ℕ) (AreSuch : List ℕ → Type 0) (held : Option Files) (words : List (List ℕ)) (mesh : FaceList)
    : Type 0 where
  pub double_name : List ℕ
  pub walks_name : List ℕ
  pub words_are : words ≡ keyword ∷ double_name ∷ walks_name ∷ []
  pub double_file : Holds held double_name (SpellsMesh (double_of mesh))
  pub polygons : IsFaceList mesh
  pub is_surface : IsOpenSurface mesh
  pub orientable : IsOrientable mesh
  pub walks_file : Holds held walks_name AreSuch

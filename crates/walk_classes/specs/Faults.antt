-- Why lists of vertices have no classes.
use Rattle.std.specs.Prelude.{ℕ, ◌<◌, ⊤, List, length}
use Rattle.surf_model.specs.FaceLists.{FaceList}
use Rattle.surf_model.specs.Walks.{IsWalk, walk_at}
use Rattle.walk_classes.specs.declared.fault.ClassFault.{ClassFault}
use Rattle.walk_classes.specs.declared.fault.ClassFault.TheVariants.{NoWalk, OutOfMemory}

-- the first list that is no walk of the mesh
pub record IsFirstNoWalk (mesh : FaceList) (walks : List (List ℕ)) (place : ℕ) : Type 0 where
  pub within : place < length walks
  pub no_walk : IsWalk mesh (walk_at walks place) → ⊥
  pub before : (j : ℕ) → j < place → IsWalk mesh (walk_at walks j)

-- a list is no walk; or memory is wanting
abbrev pub IsClassFault : FaceList → List (List ℕ) → ClassFault → Type 0
IsClassFault mesh walks (NoWalk place) = IsFirstNoWalk mesh walks place
IsClassFault mesh walks OutOfMemory = ⊤

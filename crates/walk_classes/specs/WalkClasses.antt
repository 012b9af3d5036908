-- Classes of walks: two walks are in one where they have common ends and are homotopic. A class is told by the least place of its walks.
use Rattle.std.specs.Prelude.{◌≡◌, ℕ, ◌<◌, List, length, slice_index}
use Rattle.surf_model.specs.FaceLists.{FaceList}
use Rattle.surf_model.specs.Moves.{Homotopic}
use Rattle.surf_model.specs.Walks.{IsWalk, HaveCommonEnds, walk_at}

-- two walks that start together and end together, and of which some list of moves leads from the first to the second
pub record AreInOneClass (mesh : FaceList) (first second : List ℕ) : Type 0 where
  pub ends : HaveCommonEnds first second
  pub homotopic : Homotopic mesh first second

-- the least place of a walk that is in one class with this one
pub record IsLeastInClass (mesh : FaceList) (walks : List (List ℕ)) (walk : List ℕ) (place : ℕ) : Type 0 where
  pub within : place < length walks
  pub alike : AreInOneClass mesh (walk_at walks place) walk
  pub least : (j : ℕ) → j < place → AreInOneClass mesh (walk_at walks j) walk → ⊥

-- walks of the mesh, and for each a number: the least place of its class
pub record AreClasses (mesh : FaceList) (walks : List (List ℕ)) (numbers : List ℕ) : Type 0 where
  pub each_walk : length numbers ≡ length walks
  pub are_walks : (i : ℕ) → i < length walks → IsWalk mesh (walk_at walks i)
  pub least : (i : ℕ) → i < length walks → IsLeastInClass mesh walks (walk_at walks i) (slice_index numbers i)

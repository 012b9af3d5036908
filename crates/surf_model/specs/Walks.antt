-- Walks along the edges of a mesh, as the lists of the vertices that they pass.
use Rattle.std.specs.Prelude.{◌≡◌, ℕ, ◌+◌, ◌-◌, ◌<◌, List, length, slice_index, All, IsTrue, slice_index_or, []}
use Rattle.surf_model.specs.FaceLists.{FaceList, is_edge, is_used}

-- how many darts a walk has: its neighbouring pairs
abbrev pub darts : List ℕ → ℕ
darts walk = length walk - 1

-- a walk of the mesh: not empty, its entries used, its neighbours edges
pub record IsWalk (mesh : FaceList) (walk : List ℕ) : Type 0 where
  pub starts : 0 < length walk
  pub used : All (λ v. IsTrue (is_used mesh v)) walk
  pub edges : (k : ℕ) → k < darts walk → IsTrue (is_edge mesh (slice_index walk k) (slice_index walk (k + 1)))

-- two walks that start together and end together
pub record HaveCommonEnds (first second : List ℕ) : Type 0 where
  pub starts : slice_index first 0 ≡ slice_index second 0
  pub ends : slice_index first (darts first) ≡ slice_index second (darts second)

-- two walks of the mesh with common ends
pub record AreWalkPair (mesh : FaceList) (first second : List ℕ) : Type 0 where
  pub first_walk : IsWalk mesh first
  pub second_walk : IsWalk mesh second
  pub ends : HaveCommonEnds first second

-- walk k of some, counted from 0
abbrev pub walk_at : List (List ℕ) → ℕ → List ℕ
walk_at walks k = slice_index_or walks k []

-- Things in classes: a list has equal entries at the numbers of two things exactly where steps join them.
use Rattle.std.specs.Prelude.{◌≡◌, ◌≢◌, ℕ, ◌<◌, List, slice_index, IsTrue}
use Rattle.surf_model.specs.FaceLists.{FaceList, is_edge, is_used}
use Rattle.surf_model.specs.Darts.{IsSide, side_number, tail_of}
use Rattle.surf_model.specs.Surfaces.{AreJoined, IsStepAround}
use Rattle.surf_model.specs.declared.edges.Side.{Side}

-- equal entries only where steps join
abbrev pub JoinsOnlyBySteps : {X : Type 0} → (X → Type 0) → (X → ℕ) → (X → X → Type 0) → List ℕ → Type 0
JoinsOnlyBySteps {X} IsThing number step least =
    (x y : X) → IsThing x → IsThing y → slice_index least (number x) ≡ slice_index least (number y) → AreJoined step x y

-- equal entries exactly where steps join, said of one step
pub record IsPartition {X : Type 0} (IsThing : X → Type 0) (number : X → ℕ) (step : X → X → Type 0) (least : List ℕ) : Type 0 where
  pub joined : JoinsOnlyBySteps IsThing number step least
  pub steps : (x y : X) → step x y → slice_index least (number x) ≡ slice_index least (number y)

-- a step along an edge
abbrev pub IsEdgeStep : FaceList → ℕ → ℕ → Type 0
IsEdgeStep mesh u v = IsTrue (is_edge mesh u v)

-- vertices have equal entries where walks join them
abbrev pub AreComponents : FaceList → List ℕ → Type 0
AreComponents mesh least = IsPartition (λ v. v < mesh.count) (λ v. v) (IsEdgeStep mesh) least

-- a step from a corner, round its vertex
abbrev pub IsCornerStep : FaceList → Side → Side → Type 0
IsCornerStep mesh corner other = IsStepAround mesh (tail_of mesh corner) corner other

-- corners have equal entries, by their numbers, only where steps round a vertex join them
abbrev pub JoinsOnlyByCornerSteps : FaceList → List ℕ → Type 0
JoinsOnlyByCornerSteps mesh least = JoinsOnlyBySteps (IsSide mesh) (side_number mesh) (IsCornerStep mesh) least

-- corners have equal entries, by their numbers, where they are in one ring
abbrev pub AreRings : FaceList → List ℕ → Type 0
AreRings mesh least = IsPartition (IsSide mesh) (side_number mesh) (IsCornerStep mesh) least

-- the least used vertex whose entry is not that of v
pub record IsLeastElsewhere (mesh : FaceList) (least : List ℕ) (v other : ℕ) : Type 0 where
  pub within : other < mesh.count
  pub used : IsTrue (is_used mesh other)
  pub elsewhere : slice_index least other ≢ slice_index least v
  pub first : (w : ℕ) → w < other → IsTrue (is_used mesh w) → slice_index least w ≡ slice_index least v

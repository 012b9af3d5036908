-- Ways round the vertices of a mesh as they lie in memory: a bit for each corner, by the corners' numbers.
use Rattle.std.specs.Prelude.{◌≡◌, ◌≤◌, Bool, false, List, length, slice_index_or}
use Rattle.surf_model.specs.FaceLists.{FaceList, total_sides}
use Rattle.surf_model.specs.Darts.{IsSide, side_number}
use Rattle.surf_model.specs.Surfaces.{AreJoined}
use Rattle.surf_model.specs.declared.edges.Side.{Side}
use Rattle.connectivity.specs.Partitions.{IsCornerStep}
use Rattle.double_covers.specs.WaysRound.{AreWaysRound}

-- whether a face goes against the way at a corner of it, as the bits tell
abbrev pub told_by : FaceList → List Bool → Side → Bool
told_by mesh bits corner = slice_index_or bits (side_number mesh corner) false

-- of the corners that steps round a vertex join, the one with the least number
abbrev pub IsLeastInRing : FaceList → Side → Type 0
IsLeastInRing mesh corner =
    (other : Side) → IsSide mesh other → AreJoined (IsCornerStep mesh) corner other → side_number mesh corner ≤ side_number mesh other

-- steps lead from the corner to the least one in its ring, and there the face goes with the way
pub record IsLedToLeast (mesh : FaceList) (bits : List Bool) (corner : Side) : Type 0 where
  pub least : Side
  pub in_mesh : IsSide mesh least
  pub joined : AreJoined (IsCornerStep mesh) corner least
  pub is_least : IsLeastInRing mesh least
  pub with_way : told_by mesh bits least ≡ false

-- A bit for each corner, and by them ways round the vertices; of the two ways round a ring of corners it is the one that the face at the
-- least corner goes with, so that a mesh has one such list of bits at most.
pub record AreWays (mesh : FaceList) (bits : List Bool) : Type 0 where
  pub count : length bits ≡ total_sides mesh
  pub ways : AreWaysRound mesh (told_by mesh bits)
  pub least : (corner : Side) → IsSide mesh corner → IsLedToLeast mesh bits corner

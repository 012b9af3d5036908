-- Claims on ways round the vertices: that a face goes against the way at a corner, or with it. Across an edge one claim is worth another.
use Rattle.std.specs.Prelude.{◌≡◌, ℕ, ◌+◌, Bool, true, false, not, List, length, slice_index}
use Rattle.surf_model.specs.FaceLists.{FaceList, total_sides}
use Rattle.surf_model.specs.Darts.{IsSide, side_number}
use Rattle.surf_model.specs.Surfaces.{IsCornerOfSide}
use Rattle.surf_model.specs.declared.edges.Side.{Side}
use Rattle.connectivity.specs.Classes.{joined_at, KeepsJoined}
use Rattle.connectivity.specs.Partitions.{IsPartition, JoinsOnlyBySteps}
use Rattle.double_covers.specs.Covers.{over}
pub use Rattle.double_covers.specs.WaysRound.{Claim, carried, IsClaimStep}

-- the claim is one on a corner of the mesh
abbrev pub IsClaim : FaceList → Claim → Type 0
IsClaim mesh claim = IsSide mesh claim.corner

-- first come all claims that a face goes with the way, by their corners, and then all that it goes against it
abbrev pub claim_number : FaceList → Claim → ℕ
claim_number mesh claim = over (total_sides mesh) claim.against (side_number mesh claim.corner)

-- claims have equal entries, by their numbers, only where such steps join them
abbrev pub JoinsOnlyByClaimSteps : FaceList → List ℕ → Type 0
JoinsOnlyByClaimSteps mesh least = JoinsOnlyBySteps (IsClaim mesh) (claim_number mesh) (IsClaimStep mesh) least

-- claims have equal entries exactly where such steps join them
pub record AreClaimClasses (mesh : FaceList) (least : List ℕ) : Type 0 where
  pub count : length least ≡ total_sides mesh + total_sides mesh
  pub classes : IsPartition (IsClaim mesh) (claim_number mesh) (IsClaimStep mesh) least

-- the classes once the two claims on a corner are joined with those on another, contrary ones where the sides run alike
abbrev pub with_corners : FaceList → List ℕ → Side → Side → Bool → List ℕ
with_corners mesh least corner other alike =
    let claim = λ (s : Side) (against : Bool). over (total_sides mesh) against (side_number mesh s) in
    joined_at (joined_at least (claim corner false) (claim other alike)) (claim corner true) (claim other (not alike))

-- the claims on the corners of a side and on those of its partner at the same ends are of one class
abbrev pub IsCarriedAcross : FaceList → List ℕ → Side → Side → Type 0
IsCarriedAcross mesh least side partner =
    (v : ℕ) (corner other : Side) (against : Bool) → IsCornerOfSide mesh v side corner → IsCornerOfSide mesh v partner other
    → slice_index least (over (total_sides mesh) against (side_number mesh corner))
    ≡ slice_index least (over (total_sides mesh) (carried mesh side partner against) (side_number mesh other))

-- the classes before and after the claims on the corners of a side are joined with those on the corners of its partner
pub record AreClaimsMadeJoined (mesh : FaceList) (old new : List ℕ) (side partner : Side) : Type 0 where
  pub count : length new ≡ length old
  pub carried : IsCarriedAcross mesh new side partner
  pub kept : KeepsJoined old new
  pub steps : JoinsOnlyByClaimSteps mesh old → JoinsOnlyByClaimSteps mesh new

-- Ways round the vertices of a mesh, and the edges along which the ways round two vertices do not agree.
use Rattle.std.specs.Prelude.{◌≡◌, ℕ, ◌==◌, Bool, true, false, not, if◌then◌else◌}
use Rattle.surf_model.specs.FaceLists.{FaceList}
use Rattle.surf_model.specs.Darts.{IsSide, side_after, tail_of, head_of}
use Rattle.surf_model.specs.Surfaces.{AreJoined, ArePartners, IsCornerOfSide}
use Rattle.surf_model.specs.declared.edges.Side.{Side}

-- across the edge of two sides: where they run alike, one of the two faces goes against the way round a vertex and the other one with it
abbrev pub carried : FaceList → Side → Side → Bool → Bool
carried mesh side partner against = if tail_of mesh side == tail_of mesh partner then not against else against

-- A way round each vertex, told at its corners: whether the face of the corner, as it is listed, goes against the way. Across an edge the
-- next face goes as this one does exactly where the two sides run oppositely.
pub record AreWaysRound (mesh : FaceList) (against : Side → Bool) : Type 0 where
  pub across : (v : ℕ) (side partner corner other : Side) → ArePartners mesh side partner
      → IsCornerOfSide mesh v side corner → IsCornerOfSide mesh v partner other
      → against other ≡ carried mesh side partner (against corner)

-- An edge turns where a face at it goes with the way round its one end, and against that round the other.
pub record AreTurnsOf (mesh : FaceList) (against : Side → Bool) (turns : ℕ → ℕ → Bool) : Type 0 where
  pub turned : (u v : ℕ) → turns u v ≡ turns v u
  pub along : (side : Side) → IsSide mesh side
      → turns (tail_of mesh side) (head_of mesh side)
      ≡ (if against side then not (against (side_after mesh side)) else against (side_after mesh side))

-- a claim on a way round a vertex: that the face of a corner goes against it, or with it
pub record Claim : Type 0 where
  pub corner : Side
  pub against : Bool

-- the one claim holds where the other does, by the edge that is between their corners
pub record IsClaimStep (mesh : FaceList) (claim other : Claim) : Type 0 where
  pub vertex : ℕ
  pub side : Side
  pub partner : Side
  pub partners : ArePartners mesh side partner
  pub from : IsCornerOfSide mesh vertex side claim.corner
  pub to : IsCornerOfSide mesh vertex partner other.corner
  pub carries : other.against ≡ carried mesh side partner claim.against

-- the corners at a vertex are twisted: that a face goes with the way there is worth that it goes against it
abbrev pub IsTwisted : FaceList → Side → Type 0
IsTwisted mesh corner =
    AreJoined (IsClaimStep mesh) (record { corner = corner; against = false }) (record { corner = corner; against = true })

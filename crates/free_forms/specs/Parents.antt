-- A parent for each face: one of its sides, that leads towards the boundary. Crossing parents from face to face ends at a boundary edge.
use Rattle.std.specs.Prelude.{◌≡◌, ◌⊎◌, ℕ, zero, suc, ◌-◌, ◌<◌, ◌==◌, true, false, if◌then◌else◌, List, length, slice_index}
use Rattle.surf_model.specs.FaceLists.{FaceList, IsFaceList, face_at, next_corner}
use Rattle.surf_model.specs.Darts.{tail_of, head_of}
use Rattle.surf_model.specs.Surfaces.{ArePartners}
use Rattle.surf_model.specs.declared.edges.Side.{Side}
use Rattle.connectivity.specs.Joined.{NoEdgeHasThreeSides}
use Rattle.walk_actions.specs.Actions.{vertices_beyond}

-- a mesh, and for each face the place of its parent among its sides
pub record OpenView : Type 0 where
  pub mesh : FaceList
  pub places : List ℕ

-- the parent of face f
abbrev pub parent_of : OpenView → ℕ → Side
parent_of surface f = record { face = record { 0 = f }; at = slice_index surface.places f }

-- Crossing parents from face f comes to a boundary edge, and crosses fewer than n: a parent with a partner is crossed to the partner's
-- face.
abbrev pub EndsOutside : OpenView → ℕ → ℕ → Type 0
EndsOutside surface zero f = ⊥
EndsOutside surface (suc n) f = (other : Side) → ArePartners surface.mesh (parent_of surface f) other → EndsOutside surface n other.face.0

-- each face has a parent, and no way across parents goes round
pub record HasFaceParents (surface : OpenView) : Type 0 where
  pub valid : IsFaceList surface.mesh
  pub few_sides : NoEdgeHasThreeSides surface.mesh
  pub each_face : length surface.places ≡ length surface.mesh.faces
  pub within : (f : ℕ) → f < length surface.mesh.faces → slice_index surface.places f < length (face_at surface.mesh f)
  pub outside : (f : ℕ) → f < length surface.mesh.faces → EndsOutside surface (length surface.mesh.faces) f

-- a side joins two vertices, in either direction
abbrev pub Joins : FaceList → Side → ℕ → ℕ → Type 0
Joins mesh side u v = ((tail_of mesh side ≡ u) × (head_of mesh side ≡ v)) ⊎ ((tail_of mesh side ≡ v) × (head_of mesh side ≡ u))

-- the edge of the two vertices is that of the parent of some face
abbrev pub IsParentEdge : OpenView → ℕ → ℕ → Type 0
IsParentEdge surface u v = (f : ℕ) × (f < length surface.mesh.faces) × Joins surface.mesh (parent_of surface f) u v

-- the expansion of a side from its end u: the vertices that the way to its other end along all other sides of its face leads to
abbrev pub expansion : FaceList → Side → ℕ → List ℕ
expansion mesh side u =
    let ring = face_at mesh side.face.0 in
    if tail_of mesh side == u
    then vertices_beyond ring false side.at (length ring - 1)
    else vertices_beyond ring true (next_corner true (length ring) side.at) (length ring - 1)

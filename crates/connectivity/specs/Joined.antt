-- Whether the corners at each vertex, and the vertices of the mesh, hang together; and where they do not, the least element.
use Rattle.std.specs.Prelude.{ℕ, ◌<◌, ◌≤◌, IsTrue}
use Rattle.surf_model.specs.FaceLists.{FaceList, is_used}
use Rattle.surf_model.specs.Surfaces.{sides_between, HasOneRing, AreJoinedByWalk}

-- no edge is the edge of three or more sides
abbrev pub NoEdgeHasThreeSides : FaceList → Type 0
NoEdgeHasThreeSides mesh = (u v : ℕ) → sides_between mesh u v ≤ 2

-- at each used vertex any two corners are joined by steps: they make a ring, or a fan where the vertex is on the boundary
abbrev pub EachVertexHasOneRing : FaceList → Type 0
EachVertexHasOneRing mesh = (v : ℕ) → IsTrue (is_used mesh v) → HasOneRing mesh v

-- the least used vertex at which some two corners are not joined by steps
pub record IsLeastPinch (mesh : FaceList) (v : ℕ) : Type 0 where
  pub used : IsTrue (is_used mesh v)
  pub pinched : HasOneRing mesh v → ⊥
  pub least : (w : ℕ) → w < v → IsTrue (is_used mesh w) → HasOneRing mesh w

-- the least used vertex
pub record IsLeastUsed (mesh : FaceList) (v : ℕ) : Type 0 where
  pub used : IsTrue (is_used mesh v)
  pub least : (w : ℕ) → w < v → IsTrue (is_used mesh w) → ⊥

-- the least used vertex, and the least used vertex that no walk joins to it
pub record AreLeastApart (mesh : FaceList) (u v : ℕ) : Type 0 where
  pub vertex : IsLeastUsed mesh u
  pub used : IsTrue (is_used mesh v)
  pub apart : AreJoinedByWalk mesh u v → ⊥
  pub least : (w : ℕ) → w < v → IsTrue (is_used mesh w) → AreJoinedByWalk mesh u w

-- When a face list is a connected orientable closed surface: five conditions, tried in this order. There is a face; each
-- edge has exactly two sides; the corners at each vertex make one ring; any two vertices are joined by a walk; and the
-- faces can be signed so that the two sides of every edge run oppositely.
use Rattle.std.specs.Prelude.{◌≡◌, ◌≢◌, ◌⊎◌, ℕ, ◌<◌, Bool, false, if◌then◌else◌, List, [], ◌∷◌, length, filter, slice_index, slice_index_or, IsTrue}
use Rattle.surf_model.specs.FaceLists.{FaceList, all_sides, joins, is_edge, is_used}
use Rattle.surf_model.specs.Walks.{IsWalk, darts}
use Rattle.surf_model.specs.Darts.{IsSide, side_after, tail_of, head_of}
use Rattle.surf_model.specs.declared.edges.Side.{Side}

-- steps lead from x through the list to y
abbrev pub IsPath : {X : Type 0} → (X → X → Type 0) → X → List X → X → Type 0
IsPath step x [] y = x ≡ y
IsPath step x (z ∷ path) y = step x z × IsPath step z path y

-- some steps lead from x to y
abbrev pub AreJoined : {X : Type 0} → (X → X → Type 0) → X → X → Type 0
AreJoined {X} step x y = (path : List X) × IsPath step x path y

-- how many sides join two vertices, in either direction
abbrev pub sides_between : FaceList → ℕ → ℕ → ℕ
sides_between mesh u v = length (filter (joins u v) (all_sides mesh))

-- each edge is the edge of exactly two sides
abbrev pub EachEdgeHasTwoSides : FaceList → Type 0
EachEdgeHasTwoSides mesh = (u v : ℕ) → IsTrue (is_edge mesh u v) → sides_between mesh u v ≡ 2

-- the two sides join the same two vertices
abbrev pub AreOfOneEdge : FaceList → Side → Side → Type 0
AreOfOneEdge mesh side other =
    ((tail_of mesh side ≡ tail_of mesh other) × (head_of mesh side ≡ head_of mesh other))
    ⊎ ((tail_of mesh side ≡ head_of mesh other) × (head_of mesh side ≡ tail_of mesh other))

-- two different sides of one edge; both may lie in one face
pub record ArePartners (mesh : FaceList) (side other : Side) : Type 0 where
  pub first : IsSide mesh side
  pub second : IsSide mesh other
  pub different : side ≢ other
  pub one_edge : AreOfOneEdge mesh side other

-- a corner at the vertex; a corner bears the name of the side that starts there
pub record IsCornerAt (mesh : FaceList) (v : ℕ) (corner : Side) : Type 0 where
  pub side : IsSide mesh corner
  pub vertex : tail_of mesh corner ≡ v

-- the corner that a side with an end at the vertex has there: the one where it starts, or the one where it ends
abbrev pub IsCornerOfSide : FaceList → ℕ → Side → Side → Type 0
IsCornerOfSide mesh v side corner =
    ((tail_of mesh side ≡ v) × (corner ≡ side)) ⊎ ((head_of mesh side ≡ v) × (corner ≡ side_after mesh side))

-- a step round the vertex, across an edge: from the corner of one of its sides to the corner of the other
pub record IsStepAround (mesh : FaceList) (v : ℕ) (corner other : Side) : Type 0 where
  pub side : Side
  pub partner : Side
  pub partners : ArePartners mesh side partner
  pub from : IsCornerOfSide mesh v side corner
  pub to : IsCornerOfSide mesh v partner other

-- the link of the vertex is one ring: any two corners there are joined by steps
abbrev pub HasOneRing : FaceList → ℕ → Type 0
HasOneRing mesh v =
    (corner other : Side) → IsCornerAt mesh v corner → IsCornerAt mesh v other → AreJoined (IsStepAround mesh v) corner other

-- a walk leads from u to v
pub record IsWalkBetween (mesh : FaceList) (u v : ℕ) (walk : List ℕ) : Type 0 where
  pub walk_of : IsWalk mesh walk
  pub starts : slice_index walk 0 ≡ u
  pub ends : slice_index walk (darts walk) ≡ v

abbrev pub AreJoinedByWalk : FaceList → ℕ → ℕ → Type 0
AreJoinedByWalk mesh u v = (walk : List ℕ) × IsWalkBetween mesh u v walk

-- a closed manifold, in one piece or in several: the first three conditions
pub record IsClosedManifold (mesh : FaceList) : Type 0 where
  pub some_face : 0 < length mesh.faces
  pub two_sides : EachEdgeHasTwoSides mesh
  pub one_ring : (v : ℕ) → IsTrue (is_used mesh v) → HasOneRing mesh v

-- a closed surface: the first four conditions
pub record IsClosed (mesh : FaceList) : Type 0 where
  pub some_face : 0 < length mesh.faces
  pub two_sides : EachEdgeHasTwoSides mesh
  pub one_ring : (v : ℕ) → IsTrue (is_used mesh v) → HasOneRing mesh v
  pub connected : (u v : ℕ) → IsTrue (is_used mesh u) → IsTrue (is_used mesh v) → AreJoinedByWalk mesh u v

-- whether a face is turned round: a sign for each face, `true` for a flipped one
abbrev pub is_flipped : List Bool → ℕ → Bool
is_flipped signs f = slice_index_or signs f false

-- where a side starts and ends once its face is turned round as its sign says
abbrev pub start_under : FaceList → List Bool → Side → ℕ
start_under mesh signs side = if is_flipped signs side.face.0 then head_of mesh side else tail_of mesh side

abbrev pub end_under : FaceList → List Bool → Side → ℕ
end_under mesh signs side = if is_flipped signs side.face.0 then tail_of mesh side else head_of mesh side

-- the two sides run oppositely under the signs
pub record RunOppositely (mesh : FaceList) (signs : List Bool) (side other : Side) : Type 0 where
  pub starts : start_under mesh signs side ≡ end_under mesh signs other
  pub ends : end_under mesh signs side ≡ start_under mesh signs other

-- signs under which the two sides of every edge that has two run oppositely
pub record IsCoherent (mesh : FaceList) (signs : List Bool) : Type 0 where
  pub each_face : length signs ≡ length mesh.faces
  pub opposite : (side other : Side) → ArePartners mesh side other → RunOppositely mesh signs side other

-- the fifth condition: some signs are coherent
abbrev pub IsOrientable : FaceList → Type 0
IsOrientable mesh = (signs : List Bool) × IsCoherent mesh signs

-- a connected orientable closed surface
pub record IsSurface (mesh : FaceList) : Type 0 where
  pub closed : IsClosed mesh
  pub orientable : IsOrientable mesh

-- Classes of faces, by steps across edges, and the one choice of coherent signs that keeps the least face of each.
use Rattle.std.specs.Prelude.{◌≡◌, ℕ, ◌<◌, ◌≤◌, Bool, false, List, length, IsTrue}
use Rattle.surf_model.specs.FaceLists.{FaceList, is_edge}
use Rattle.surf_model.specs.Surfaces.{AreJoined, ArePartners, is_flipped, sides_between}
use Rattle.surf_model.specs.declared.edges.Side.{Side}

-- each edge is the edge of one side or of two
abbrev pub EachEdgeHasAtMostTwoSides : FaceList → Type 0
EachEdgeHasAtMostTwoSides mesh = (u v : ℕ) → IsTrue (is_edge mesh u v) → sides_between mesh u v ≤ 2

-- a step across an edge: from the face of one of its sides to the face of another one
pub record IsFaceStep (mesh : FaceList) (face next : ℕ) : Type 0 where
  pub side : Side
  pub partner : Side
  pub partners : ArePartners mesh side partner
  pub from : side.face.0 ≡ face
  pub to : partner.face.0 ≡ next

-- two faces are of one class: steps across edges lead from the one to the other
abbrev pub AreOfOneClass : FaceList → ℕ → ℕ → Type 0
AreOfOneClass mesh = AreJoined (IsFaceStep mesh)

-- the face is the least of its class
abbrev pub IsLeastOfClass : FaceList → ℕ → Type 0
IsLeastOfClass mesh face = (other : ℕ) → AreOfOneClass mesh face other → face ≤ other

-- the least face of each class is kept
abbrev pub IsLeastKept : FaceList → List Bool → Type 0
IsLeastKept mesh signs = (face : ℕ) → face < length mesh.faces → IsLeastOfClass mesh face → is_flipped signs face ≡ false

-- Corners in one class across an edge; and the link of a vertex, as its rings are met one by one, each at its least corner.
use Rattle.std.specs.Prelude.{◌≡◌, ◌≢◌, ℕ, ◌<◌, List, length, slice_index, slice_index_or}
use Rattle.surf_model.specs.FaceLists.{FaceList, total_sides}
use Rattle.surf_model.specs.Darts.{side_number, tail_of, head_of}
use Rattle.surf_model.specs.Surfaces.{IsCornerAt, IsCornerOfSide}
use Rattle.surf_model.specs.declared.edges.Side.{Side}
use Rattle.connectivity.specs.Classes.{KeepsJoined}
use Rattle.connectivity.specs.Partitions.{JoinsOnlyByCornerSteps}
use Rattle.connectivity.specs.declared.corners.Link.{Link}
use Rattle.connectivity.specs.declared.corners.Link.TheVariants.{NoRing, OneRing, Pinched}

-- once a side has been joined with its partner: at each vertex the corner of the side and that of the partner are in one class
abbrev pub IsJoinedAcross : FaceList → List ℕ → Side → Side → Type 0
IsJoinedAcross mesh least side partner =
    (v : ℕ) (corner other : Side) → IsCornerOfSide mesh v side corner → IsCornerOfSide mesh v partner other
    → slice_index least (side_number mesh corner) ≡ slice_index least (side_number mesh other)

-- the corners of the partner of a side, where the side starts and where it ends
pub record AreCornersAcross (mesh : FaceList) (side partner first last : Side) : Type 0 where
  pub at_start : IsCornerOfSide mesh (tail_of mesh side) partner first
  pub at_end : IsCornerOfSide mesh (head_of mesh side) partner last

-- the classes before and after the corners of a side are joined with those of its partner
pub record AreMadeJoined (mesh : FaceList) (old new : List ℕ) (side partner : Side) : Type 0 where
  pub count : length new ≡ total_sides mesh
  pub joined : IsJoinedAcross mesh new side partner
  pub kept : KeepsJoined old new
  pub steps : JoinsOnlyByCornerSteps mesh old → JoinsOnlyByCornerSteps mesh new

-- a link, once a ring more is met
abbrev pub with_ring : Link → Link
with_ring NoRing = OneRing
with_ring OneRing = Pinched
with_ring Pinched = Pinched

-- a corner at the vertex that is the least of its ring, among those with numbers below n
pub record IsLeastCorner (mesh : FaceList) (rings : List ℕ) (n v : ℕ) (corner : Side) : Type 0 where
  pub at_vertex : IsCornerAt mesh v corner
  pub below : side_number mesh corner < n
  pub least : slice_index rings (side_number mesh corner) ≡ side_number mesh corner

-- there is such a corner, and no other
pub record HasOneLeast (mesh : FaceList) (rings : List ℕ) (n v : ℕ) : Type 0 where
  pub corner : Side
  pub is : IsLeastCorner mesh rings n v corner
  pub only : (other : Side) → IsLeastCorner mesh rings n v other → other ≡ corner

-- there are two such corners
pub record HasTwoLeast (mesh : FaceList) (rings : List ℕ) (n v : ℕ) : Type 0 where
  pub first : Side
  pub second : Side
  pub is_first : IsLeastCorner mesh rings n v first
  pub is_second : IsLeastCorner mesh rings n v second
  pub different : first ≢ second

-- what a link says of the vertex
abbrev pub IsTrueLink : FaceList → List ℕ → ℕ → ℕ → Link → Type 0
IsTrueLink mesh rings n v NoRing = (corner : Side) → IsLeastCorner mesh rings n v corner → ⊥
IsTrueLink mesh rings n v OneRing = HasOneLeast mesh rings n v
IsTrueLink mesh rings n v Pinched = HasTwoLeast mesh rings n v

-- the link of a vertex in a list
abbrev pub link_at : List Link → ℕ → Link
link_at links v = slice_index_or links v NoRing

-- the links of all vertices, by the corners with numbers below n
pub record AreLinksUpTo (mesh : FaceList) (rings : List ℕ) (n : ℕ) (links : List Link) : Type 0 where
  pub count : length links ≡ mesh.count
  pub true_ones : (v : ℕ) → v < mesh.count → IsTrueLink mesh rings n v (link_at links v)

-- the links of all vertices
abbrev pub AreLinks : FaceList → List ℕ → List Link → Type 0
AreLinks mesh rings links = AreLinksUpTo mesh rings (total_sides mesh) links

-- the first link of a list that is pinched
pub record IsFirstPinched (links : List Link) (v : ℕ) : Type 0 where
  pub within : v < length links
  pub pinched : link_at links v ≡ Pinched
  pub first : (w : ℕ) → w < v → link_at links w ≡ Pinched → ⊥

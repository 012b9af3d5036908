-- Face lists: polygon meshes in the usual combinatorial sense, each face the ring of its corners.
use Rattle.std.specs.Prelude.{ℕ, zero, suc, ◌+◌, ◌-◌, ◌<◌, ◌≤◌, ◌≢◌, Bool, true, ◌==◌, ◌&&◌, ◌||◌, if◌then◌else◌, List, [], ◌∷◌, length, map, slice_index, slice_index_or, flat_map, sum_by, All}
use Rattle.std.specs.List.{list_any, enumerate_from, range_with_len}
use Rattle.surf_model.specs.declared.limits.TheConstants.{MOST_VERTICES, MOST_SIDES}

-- a vertex count, and the faces: each the vertices at its corners, in order round the face
pub record FaceList : Type 0 where
  pub count : ℕ
  pub faces : List (List ℕ)

-- a face list, and the vertices at the corners so far of a face that is not yet in it
pub record PendingFace : Type 0 where
  pub mesh : FaceList
  pub pending : List ℕ

-- face f; a face without corners where the list has no such face
abbrev pub face_at : FaceList → ℕ → List ℕ
face_at mesh f = slice_index_or mesh.faces f []

-- the corner after corner t of m corners, going round by rising places or by falling ones
abbrev pub next_corner : Bool → ℕ → ℕ → ℕ
next_corner rising m t = if rising then (if t + 1 == m then 0 else t + 1) else (if t == 0 then m - 1 else t - 1)

-- the vertices that k steps round the face from corner t meet, both ends included
abbrev pub corners_from : List ℕ → Bool → ℕ → ℕ → List ℕ
corners_from face rising t zero = slice_index face t ∷ []
corners_from face rising t (suc k) = slice_index face t ∷ corners_from face rising (next_corner rising (length face) t) k

-- what makes a ring of vertices a face among count vertices
pub record IsFace (count : ℕ) (face : List ℕ) : Type 0 where
  pub polygon : 3 ≤ length face
  pub in_range : All (λ v. v < count) face
  pub neighbours : (t : ℕ) → t < length face → slice_index face t ≢ slice_index face (next_corner true (length face) t)

-- how many sides all faces have together
abbrev pub total_sides : FaceList → ℕ
total_sides mesh = sum_by length mesh.faces

-- what makes a face list a polygon mesh: each face is one
pub record IsFaceList (mesh : FaceList) : Type 0 where
  pub faces : All (IsFace mesh.count) mesh.faces

-- the bounds of a mesh file, which each face list of the program keeps to
pub record HasFileSize (mesh : FaceList) : Type 0 where
  pub few_vertices : mesh.count ≤ MOST_VERTICES
  pub few_sides : total_sides mesh ≤ MOST_SIDES

-- a side of a face: the face, the place of the corner that it starts at, and the vertices at its two ends
pub record FaceSide : Type 0 where
  pub face : ℕ
  pub at : ℕ
  pub tail : ℕ
  pub head : ℕ

-- the sides of face f, in order: each leads from a corner to the one after it
abbrev pub sides_of_face : ℕ → List ℕ → List FaceSide
sides_of_face f face =
    map
    (λ t. record { face = f; at = t; tail = slice_index face t; head = slice_index face (next_corner true (length face) t) })
    (range_with_len 0 (length face))

-- all sides of the mesh, by rising face and then by rising place
unfoldable pub all_sides : FaceList → List FaceSide
all_sides mesh = flat_map (λ p. sides_of_face p.0 p.1) (enumerate_from 0 mesh.faces)

-- whether a side joins two vertices, in either direction
abbrev pub joins : ℕ → ℕ → FaceSide → Bool
joins u v side = (side.tail == u && side.head == v) || (side.tail == v && side.head == u)

-- whether two vertices form an edge: some side joins them
unfoldable pub is_edge : FaceList → ℕ → ℕ → Bool
is_edge mesh u v = list_any (joins u v) (all_sides mesh)

-- whether a face names the vertex
unfoldable pub is_used : FaceList → ℕ → Bool
is_used mesh v = list_any (λ face. list_any (λ corner. corner == v) face) mesh.faces

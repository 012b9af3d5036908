-- The sides of a mesh, counted face after face. A dart (half-edge) bears the number of its side.
use Rattle.std.specs.Prelude.{ℕ, ◌+◌, ◌<◌, true, length, take, sum_by, slice_index}
use Rattle.surf_model.specs.FaceLists.{FaceList, face_at, next_corner}
use Rattle.surf_model.specs.declared.edges.Side.{Side}

-- the number of the first side of face f: how many sides the faces before it have together
abbrev pub first_side : FaceList → ℕ → ℕ
first_side mesh f = sum_by length (take f mesh.faces)

-- the mesh has this side
pub record IsSide (mesh : FaceList) (side : Side) : Type 0 where
  pub face : side.face.0 < length mesh.faces
  pub place : side.at < length (face_at mesh side.face.0)

-- the number of a side
abbrev pub side_number : FaceList → Side → ℕ
side_number mesh side = first_side mesh side.face.0 + side.at

-- the side that follows in its face
abbrev pub side_after : FaceList → Side → Side
side_after mesh side = record { face = side.face; at = next_corner true (length (face_at mesh side.face.0)) side.at }

-- where a side starts and where it ends, as its face lists it
abbrev pub tail_of : FaceList → Side → ℕ
tail_of mesh side = slice_index (face_at mesh side.face.0) side.at

abbrev pub head_of : FaceList → Side → ℕ
head_of mesh side = tail_of mesh (side_after mesh side)

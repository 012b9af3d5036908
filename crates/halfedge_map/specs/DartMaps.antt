-- The darts of a surface (half-edges), and the maps on them. A dart is a side of a face and bears its number. It runs as
-- the face lists it if the face is kept, and the other way if the face is flipped.
use Rattle.std.specs.Prelude.{◌≡◌, ℕ, ◌+◌, ◌<◌, true, false, not, ◌==◌, ◌&&◌, if◌then◌else◌, length, slice_index}
use Rattle.std.specs.Prelude.{slice_index_or, unwrap_or, ℤ, pos, ◌+ℤ◌, ◌-ℤ◌}
use Rattle.surf_model.specs.FaceLists.{FaceSide, all_sides, face_at, next_corner, joins, is_used, total_sides}
use Rattle.surf_model.specs.Edges.{edge_in}
use Rattle.surf_model.specs.Darts.{first_side, side_number, side_after}
use Rattle.surf_model.specs.Surfaces.{is_flipped, start_under, end_under}
use Rattle.surf_model.specs.declared.edges.Side.{Side}
use Rattle.surf_model.specs.Numbers.{first_below, count_below}
use Rattle.halfedge_map.specs.OrientedMeshes.{OrientedMesh}

-- how many darts there are
abbrev pub darts_of : OrientedMesh → ℕ
darts_of surface = total_sides surface.mesh

-- the side that a dart is
unfoldable pub side_of : OrientedMesh → ℕ → FaceSide
side_of surface dart = slice_index_or (all_sides surface.mesh) dart (record { face = 0; at = 0; tail = 0; head = 0 })

-- the face that a dart lies in
unfoldable pub face_of : OrientedMesh → ℕ → ℕ
face_of surface dart = (side_of surface dart).face

-- where a dart starts
unfoldable pub origin_of : OrientedMesh → ℕ → ℕ
origin_of surface dart =
    let side = side_of surface dart in
    if is_flipped surface.signs side.face then side.head else side.tail

-- where a dart ends
unfoldable pub target_of : OrientedMesh → ℕ → ℕ
target_of surface dart =
    let side = side_of surface dart in
    if is_flipped surface.signs side.face then side.tail else side.head

-- the dart that follows in its face: the side of the next place if the face is kept, that of the place before if it is flipped
unfoldable pub next_of : OrientedMesh → ℕ → ℕ
next_of surface dart =
    let side = side_of surface dart in
    first_side surface.mesh side.face
    + next_corner (not (is_flipped surface.signs side.face)) (length (face_at surface.mesh side.face)) side.at

-- the dart of a side: where it lies, starts and ends, and which dart follows, in a kept face and in a flipped one
pub record IsDartOfSide (surface : OrientedMesh) (side : Side) (dart : ℕ) : Type 0 where
  pub within : dart < darts_of surface
  pub face : face_of surface dart ≡ side.face.0
  pub origin : origin_of surface dart ≡ start_under surface.mesh surface.signs side
  pub target : target_of surface dart ≡ end_under surface.mesh surface.signs side
  pub kept : is_flipped surface.signs side.face.0 ≡ false
      → next_of surface dart ≡ side_number surface.mesh (side_after surface.mesh side)
  pub flipped : is_flipped surface.signs side.face.0 ≡ true
      → next_of surface (side_number surface.mesh (side_after surface.mesh side)) ≡ dart

-- the corners of its face at which a dart starts and ends
unfoldable pub start_corner_of : OrientedMesh → ℕ → ℕ
start_corner_of surface dart =
    let side = side_of surface dart in
    if is_flipped surface.signs side.face then next_corner true (length (face_at surface.mesh side.face)) side.at else side.at

unfoldable pub end_corner_of : OrientedMesh → ℕ → ℕ
end_corner_of surface dart =
    let side = side_of surface dart in
    if is_flipped surface.signs side.face then side.at else next_corner true (length (face_at surface.mesh side.face)) side.at

-- the dart that starts at a corner of a face: the side of that place if the face is kept, that of the place before if it is flipped
unfoldable pub dart_at_corner : OrientedMesh → ℕ → ℕ → ℕ
dart_at_corner surface f corner =
    first_side surface.mesh f
    + (if is_flipped surface.signs f then next_corner false (length (face_at surface.mesh f)) corner else corner)

-- the dart that starts at a corner of a face is a dart of the face, starts at the corner, and at the vertex there
pub record StartsAtCorner (surface : OrientedMesh) (f corner dart : ℕ) : Type 0 where
  pub within : dart < darts_of surface
  pub face : face_of surface dart ≡ f
  pub starts : start_corner_of surface dart ≡ corner
  pub origin : origin_of surface dart ≡ slice_index (face_at surface.mesh f) corner

-- the other dart of its edge: the first one besides it that joins the same two vertices
unfoldable pub twin_of : OrientedMesh → ℕ → ℕ
twin_of surface dart =
    let side = side_of surface dart in
    unwrap_or (first_below (λ other. not (other == dart) && joins side.tail side.head (side_of surface other)) (darts_of surface)) dart

-- the edge of a dart, by its number in the table: the one whose two vertices it joins
unfoldable pub edge_of : OrientedMesh → ℕ → ℕ
edge_of surface dart =
    unwrap_or
    (first_below
    (λ k. joins (edge_in surface.table k).low (edge_in surface.table k).high (side_of surface dart))
    (length surface.table))
    0

-- how many vertices are used
unfoldable pub used_vertices : OrientedMesh → ℕ
used_vertices surface = count_below (is_used surface.mesh) surface.mesh.count

-- the Euler characteristic: used vertices less edges plus faces
unfoldable pub euler_of : OrientedMesh → ℤ
euler_of surface = (pos (used_vertices surface) -ℤ pos (length surface.table)) +ℤ pos (length surface.mesh.faces)

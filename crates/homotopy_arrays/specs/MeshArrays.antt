-- Meshes as arrays: a vertex count, the size of each face, and the corners of all faces, face after face.
use Rattle.std.specs.Prelude.{◌≡◌, ℕ, ◌==◌, not, nat_lt, if◌then◌else◌, List, [], ◌∷◌, ◌++◌, length, take, drop, map, flat_map, sum, Option, Some, None, Result, Ok, Err}
use Rattle.std.specs.List.{list_all}
use Rattle.surf_model.specs.FaceLists.{FaceList, IsFaceList, HasFileSize}
use Rattle.surf_model.specs.declared.limits.TheConstants.{MOST_VERTICES, MOST_SIDES}
use Rattle.off_reader.specs.OffTexts.{has_equal_neighbours}
use Rattle.homotopy_arrays.specs.declared.fault.Fault.{Fault}
use Rattle.homotopy_arrays.specs.declared.mesh.MeshArrays.{MeshArrays}
use Rattle.homotopy_arrays.specs.declared.fault.Fault.TheVariants.{ManyVertices, CornerCount, ManySides, FewCorners, NoVertex, EqualNeighbours}

-- the arrays of a mesh that is within the limits
pub record AreArraysOf (mesh : FaceList) (vertices : ℕ) (sizes corners : List ℕ) : Type 0 where
  pub valid : IsFaceList mesh
  pub small : HasFileSize mesh
  pub vertices_are : vertices ≡ mesh.count
  pub sizes_are : sizes ≡ map length mesh.faces
  pub corners_are : corners ≡ flat_map (λ face. face) mesh.faces

-- ---- the mesh that arrays are, or what is first wrong with them

-- what is read, unless there is a fault
abbrev pub unless : {T : Type 0} → Option Fault → Result T Fault → Result T Fault
unless None read = read
unless (Some fault) read = Err fault

-- what is wrong with the arrays whatever the faces are: too many vertices; sizes that together are not the number of corners; too many
-- sides
abbrev pub counts_fault : (vertices : ℕ) (sizes corners : List ℕ) → Option Fault
counts_fault vertices sizes corners =
    if nat_lt MOST_VERTICES vertices then Some ManyVertices
    else if not (sum sizes == length corners) then Some CornerCount
    else if nat_lt MOST_SIDES (length corners) then Some ManySides
    else None

-- what is wrong with the face of this number: too few corners; one that is no vertex; two neighbours that are one
abbrev pub array_face_fault : (vertices number : ℕ) (face : List ℕ) → Option Fault
array_face_fault vertices number face =
    if nat_lt (length face) 3 then Some (FewCorners (record { 0 = number }))
    else if not (list_all (λ v. nat_lt v vertices) face) then Some (NoVertex (record { 0 = number }))
    else if has_equal_neighbours face then Some (EqualNeighbours (record { 0 = number }))
    else None

-- the mesh of some faces and of those that the sizes cut from the corners, or what is wrong with the first face with which something is
unfoldable pub faces_behind : (vertices : ℕ) (faces : List (List ℕ)) (sizes corners : List ℕ) → Result FaceList Fault
faces_behind vertices faces [] corners = Ok (record { count = vertices; faces = faces })
faces_behind vertices faces (size ∷ sizes) corners =
    unless (array_face_fault vertices (length faces) (take size corners))
    (faces_behind vertices (faces ++ take size corners ∷ []) sizes (drop size corners))

-- the mesh that the arrays are
unfoldable pub mesh_from_arrays : (vertices : ℕ) (sizes corners : List ℕ) → Result FaceList Fault
mesh_from_arrays vertices sizes corners = unless (counts_fault vertices sizes corners) (faces_behind vertices [] sizes corners)

-- the same of arrays that travel together
abbrev pub mesh_in_arrays : MeshArrays → Result FaceList Fault
mesh_in_arrays arrays = mesh_from_arrays arrays.vertices arrays.sizes.now arrays.corners.now

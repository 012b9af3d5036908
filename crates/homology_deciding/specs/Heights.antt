-- Heights of faces: what is counted on the way up from a face to the root of a tree.
use Rattle.std.specs.Prelude.{◌≡◌, ℕ, ◌<◌, if◌then◌else◌, true, List, [], ◌∷◌, length, slice_index_or, Option, Some, None, is_some, ℤ, pos, ◌+ℤ◌, neg_ℤ}
use Rattle.surf_model.specs.Edges.{edge_in}
use Rattle.surf_model.specs.Surfaces.{is_flipped}
use Rattle.surf_model.specs.declared.names.DartName.{DartName}
use Rattle.halfedge_map.specs.OrientedMeshes.{OrientedMesh}
use Rattle.halfedge_map.specs.DartMaps.{edge_of, origin_of}
use Rattle.homology.specs.Tallies.{number_at, signed_from}
use Rattle.homology_deciding.specs.FaceTrees.{IsWayUp}
use Rattle.homology_deciding.specs.declared.face_tree.FaceTree.{FaceTree}

-- what is counted at a dart: the count of its edge, with a minus sign where the dart does not start at the lower vertex
abbrev pub signed_dart_count : OrientedMesh → List ℤ → ℕ → ℤ
signed_dart_count surface counts dart =
    signed_from (number_at counts (edge_of surface dart)) (edge_in surface.table (edge_of surface dart)) (origin_of surface dart)

-- what is counted on a way
abbrev pub way_count : OrientedMesh → List ℤ → List DartName → ℤ
way_count surface counts [] = pos 0
way_count surface counts (dart ∷ way) = signed_dart_count surface counts dart.0 +ℤ way_count surface counts way

-- the height of a face, where it is known
abbrev pub height_of : List (Option ℤ) → ℕ → Option ℤ
height_of heights f = slice_index_or heights f None

-- the heights that are known are those of the ways to the root
pub record AreHeights (tree : FaceTree) (counts : List ℤ) (heights : List (Option ℤ)) : Type 0 where
  pub each_face : length heights ≡ length tree.surface.now.mesh.faces
  pub root : is_some (height_of heights tree.split.now.root_face) ≡ true
  pub each : (f : ℕ) (height : ℤ) → height_of heights f ≡ Some height
      → (way : List DartName) × IsWayUp tree.surface.now tree.split.now f way tree.split.now.root_face
      × (height ≡ way_count tree.surface.now counts way)

-- the way leads from the face to one whose height is known
abbrev pub EndsAtHeight : FaceTree → List (Option ℤ) → ℕ → List DartName → Type 0
EndsAtHeight tree heights f way =
    (g : ℕ) × IsWayUp tree.surface.now tree.split.now f way g × (is_some (height_of heights g) ≡ true)

-- a number of a face as it is listed: with a minus sign where the face is flipped
abbrev pub listed : OrientedMesh → ℕ → ℤ → ℤ
listed surface f number = if is_flipped surface.signs f then neg_ℤ number else number

-- the numbers that the tree forces on the faces
pub record AreForced (tree : FaceTree) (counts numbers : List ℤ) : Type 0 where
  pub each_face : length numbers ≡ length tree.surface.now.mesh.faces
  pub each : (f : ℕ) → f < length tree.surface.now.mesh.faces
      → (way : List DartName) × IsWayUp tree.surface.now tree.split.now f way tree.split.now.root_face
      × (number_at numbers f ≡ listed tree.surface.now f (way_count tree.surface.now counts way))

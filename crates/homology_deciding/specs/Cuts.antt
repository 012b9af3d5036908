-- Closed ways across faces: across an edge, up to the root of a tree, and down again.
use Rattle.std.specs.Prelude.{ℕ, List, ℤ, pos, negsuc, ◌+ℤ◌}
use Rattle.surf_model.specs.declared.names.DartName.{DartName}
use Rattle.halfedge_map.specs.OrientedMeshes.{OrientedMesh}
use Rattle.halfedge_map.specs.DartMaps.{face_of}
use Rattle.homology.specs.Tallies.{AreNumbersWithin, AreTableNumbers}
use Rattle.homology_deciding.specs.FaceTrees.{face_across, IsWayUp, dart_share, way_share}
use Rattle.homology_deciding.specs.declared.face_tree.FaceTree.{FaceTree}

-- what a dart gives, what the way up behind it gives, and what the way down gives, which is the way up from its face turned round
abbrev pub cycle_share : OrientedMesh → ℕ → List DartName → List DartName → ℕ → ℕ → ℤ
cycle_share surface dart up down u v =
    dart_share surface (pos 1) dart u v +ℤ way_share surface (pos 1) up u v +ℤ way_share surface (negsuc 0) down u v

-- the numbers of the edges that the closed way through a dart crosses
pub record IsCutAt (tree : FaceTree) (dart : ℕ) (numbers : List ℤ) : Type 0 where
  pub up : List DartName
  pub down : List DartName
  pub goes_up : IsWayUp tree.surface.now tree.split.now (face_across tree.surface.now dart) up tree.split.now.root_face
  pub comes_down : IsWayUp tree.surface.now tree.split.now (face_of tree.surface.now dart) down tree.split.now.root_face
  pub each_edge : AreTableNumbers tree.surface.now.table numbers (cycle_share tree.surface.now dart up down)
  pub small : AreNumbersWithin 3 numbers

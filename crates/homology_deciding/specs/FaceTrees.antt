-- A tree over the faces of a surface, and the ways up in it.
use Rattle.std.specs.Prelude.{◌≡◌, ℕ, suc, ◌<◌, List, [], ◌∷◌, length, ℤ, pos, ◌+ℤ◌}
use Rattle.surf_model.specs.FaceLists.{HasFileSize}
use Rattle.surf_model.specs.declared.names.DartName.{DartName}
use Rattle.halfedge_map.specs.OrientedMeshes.{OrientedMesh, IsOrientedSurface}
use Rattle.halfedge_map.specs.DartMaps.{face_of, origin_of, twin_of}
use Rattle.halfedge_map.specs.RotationSystems.{rotations_of}
use Rattle.tree_cotree.specs.Splits.{SplitView, IsSplit, IsStepUp}
use Rattle.homology.specs.Sums.{share}
use Rattle.homology_deciding.specs.declared.face_tree.FaceTree.{FaceTree}

-- the face on the other side of the edge of a dart
abbrev pub face_across : OrientedMesh → ℕ → ℕ
face_across surface dart = face_of surface (twin_of surface dart)

-- the dart lies in the face f, on the edge below which the face lies
abbrev pub IsUp : OrientedMesh → SplitView → ℕ → DartName → Type 0
IsUp surface split f dart = IsStepUp (rotations_of surface) split f (face_across surface dart.0) dart.0

-- The cotree of the split is a tree over the faces: from each but the root one dart leads up. The rank of a face is the number of steps
-- up to the root.
pub record IsTreeOfFaces (surface : OrientedMesh) (split : SplitView) : Type 0 where
  pub valid : IsOrientedSurface surface
  pub small : HasFileSize surface.mesh
  pub is_split : IsSplit surface split
  pub root_below : split.root_face < length surface.mesh.faces
  pub none : (dart : DartName) → IsUp surface split split.root_face dart → ⊥
  pub one : (f : ℕ) (dart other : DartName) → IsUp surface split f dart → IsUp surface split f other → dart ≡ other
  pub rank : ℕ → ℕ
  pub rises : (f : ℕ) (dart : DartName) → IsUp surface split f dart → rank f ≡ suc (rank (face_across surface dart.0))
  pub few : (f : ℕ) → f < length surface.mesh.faces → rank f < length surface.mesh.faces

abbrev pub IsTree : FaceTree → Type 0
IsTree tree = IsTreeOfFaces tree.surface.now tree.split.now

-- from the face f these darts lead up to the face g
abbrev pub IsWayUp : OrientedMesh → SplitView → ℕ → List DartName → ℕ → Type 0
IsWayUp surface split f [] g = f ≡ g
IsWayUp surface split f (dart ∷ way) g = IsUp surface split f dart × IsWayUp surface split (face_across surface dart.0) way g

-- what a dart gives to an ordered pair of vertices: the amount where it leads from the first to the second, minus the amount where it
-- leads back
abbrev pub dart_share : OrientedMesh → ℤ → ℕ → ℕ → ℕ → ℤ
dart_share surface amount dart = share amount (origin_of surface dart) (origin_of surface (twin_of surface dart))

-- what the darts of a way give
abbrev pub way_share : OrientedMesh → ℤ → List DartName → ℕ → ℕ → ℤ
way_share surface amount [] u v = pos 0
way_share surface amount (dart ∷ way) u v = dart_share surface amount dart.0 u v +ℤ way_share surface amount way u v

-- The orientable closed surface that answers for a compact surface: the mesh itself, its double, or the cover of either.
use Rattle.std.specs.Prelude.{◌≡◌, Option, Some, None}
use Rattle.surf_model.specs.Edges.{IsTableOf}
use Rattle.surf_model.specs.FaceLists.{FaceList, IsFaceList}
use Rattle.surf_model.specs.Surfaces.{IsClosedManifold, IsOrientable}
use Rattle.closed_surfaces.specs.SignedSurfaces.{IsSigned}
use Rattle.free_forms.specs.OpenSurfaces.{HasBoundary}
use Rattle.doubling.specs.Doubles.{double_of}
use Rattle.orientation_cover.specs.Turns.{cover_by}
use Rattle.orientation_cover.specs.Ways.{AreWays}
use Rattle.compact_surfaces.specs.declared.answered.AnsweredManifold.{AnsweredManifold}
use Rattle.compact_surfaces.specs.declared.answered.AnsweredManifold.TheVariants as answers
use Rattle.compact_surfaces.specs.declared.answered.AnsweredSurface.{AnsweredSurface}
use Rattle.compact_surfaces.specs.declared.answered.ClosedMesh.{ClosedMesh}
use Rattle.compact_surfaces.specs.declared.answered.ClosedMesh.TheVariants as closed_meshes
use Rattle.compact_surfaces.specs.declared.covered_mesh.CoveredMesh.{CoveredMesh}
use Rattle.compact_surfaces.specs.declared.covered_mesh.TabledMesh.{TabledMesh}

-- a closed manifold with its table, of which no signs are coherent
pub record IsUnsigned (kept : TabledMesh) : Type 0 where
  pub valid : IsFaceList kept.faces
  pub table : IsTableOf kept.faces kept.sides
  pub manifold : IsClosedManifold kept.faces
  pub twisted : IsOrientable kept.faces → ⊥

-- such a manifold with its orientation cover, by ways round its vertices
pub record IsCovered (kept : CoveredMesh) : Type 0 where
  pub twisted : IsUnsigned kept.mesh
  pub ways : AreWays kept.mesh.faces kept.ways
  pub is_cover : kept.cover.faces ≡ cover_by kept.mesh.faces kept.ways
  pub signed : IsSigned kept.cover

-- a closed manifold, with signs where it has some
abbrev pub IsClosedMesh : ClosedMesh → Type 0
IsClosedMesh (closed_meshes.Signed kept) = IsSigned kept
IsClosedMesh (closed_meshes.Twisted kept) = IsUnsigned kept

-- its mesh
abbrev pub mesh_of_closed : ClosedMesh → FaceList
mesh_of_closed (closed_meshes.Signed kept) = kept.faces
mesh_of_closed (closed_meshes.Twisted kept) = kept.faces

-- a closed manifold that answers for itself, or by its cover
abbrev pub IsAnsweredManifold : AnsweredManifold → Type 0
IsAnsweredManifold (answers.Itself kept) = IsSigned kept
IsAnsweredManifold (answers.Covered kept) = IsCovered kept

-- its mesh
abbrev pub mesh_of_answered : AnsweredManifold → FaceList
mesh_of_answered (answers.Itself kept) = kept.faces
mesh_of_answered (answers.Covered kept) = kept.mesh.faces

-- a mesh with boundary is kept with its table, beside its double
pub record IsOwn (mesh closed : FaceList) (own : TabledMesh) : Type 0 where
  pub boundary : HasBoundary mesh
  pub is_double : closed ≡ double_of mesh
  pub faces : own.faces ≡ mesh
  pub valid : IsFaceList mesh
  pub table : IsTableOf mesh own.sides

-- the closed manifold that answers for a mesh, and what is kept of the mesh where that is its double
abbrev pub IsOwnFor : FaceList → FaceList → Option TabledMesh → Type 0
IsOwnFor mesh closed None = (HasBoundary mesh → ⊥) × (closed ≡ mesh)
IsOwnFor mesh closed (Some own) = IsOwn mesh closed own

-- what answers for a compact surface
pub record IsAnsweredBy (mesh : FaceList) (kept : AnsweredSurface) : Type 0 where
  pub own : IsOwnFor mesh (mesh_of_answered kept.closed) kept.own
  pub answered : IsAnsweredManifold kept.closed

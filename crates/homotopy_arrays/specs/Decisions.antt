-- How the question ends whether the walks of pairs are homotopic.
use Rattle.std.specs.Prelude.{◌≡◌, ◌⊎◌, ℕ, List, false, IsTrue}
use Rattle.surf_model.specs.FaceLists.{FaceList}
use Rattle.surf_model.specs.OrientableSurfaces.{IsOrientableSurface}
use Rattle.homotopy_arrays.specs.Pairs.{AreAnswers, IsAnswer, are_pairs}
use Rattle.homotopy_arrays.specs.Surfaces.{IsSurfaceFault}
use Rattle.homotopy_arrays.specs.declared.decide.PairAnswer.{PairAnswer}
use Rattle.homotopy_arrays.specs.declared.fault.Fault.{Fault}
use Rattle.homotopy_arrays.specs.declared.fault.Fault.TheVariants.{NotOrientable, WalkCount}

-- the mesh is a surface, and is the one that is kept
pub record IsKept (mesh kept : FaceList) : Type 0 where
  pub surface : IsOrientableSurface mesh
  pub same : kept ≡ mesh

-- the mesh is a surface of a kind, and each pair has its answer
pub record AreAnsweredOn {A : Type 0} (IsSurface : FaceList → Type 0) (Is : FaceList → (first second : List ℕ) → A → Type 0)
    (walk_sizes walk_vertices : List ℕ) (mesh : FaceList) (given : List A) : Type 0 where
  pub surface : IsSurface mesh
  pub pairs : IsTrue (are_pairs walk_sizes walk_vertices)
  pub answers : AreAnswers (Is mesh) walk_sizes walk_vertices given

-- the mesh is an orientable closed surface, and each pair has its answer
abbrev pub AreAnswered : {A : Type 0} → (FaceList → (first second : List ℕ) → A → Type 0) → (walk_sizes walk_vertices : List ℕ) → FaceList
    → List A → Type 0
AreAnswered Is walk_sizes walk_vertices mesh given = AreAnsweredOn IsOrientableSurface Is walk_sizes walk_vertices mesh given

-- whether the walks of each pair are homotopic
abbrev pub AreDecided : (walk_sizes walk_vertices : List ℕ) → FaceList → List PairAnswer → Type 0
AreDecided walk_sizes walk_vertices mesh given = AreAnswered IsAnswer walk_sizes walk_vertices mesh given

-- the mesh is no surface; or it is one, and the arrays of the walks are those of no pairs
abbrev pub IsDecideFault : (walk_sizes walk_vertices : List ℕ) → FaceList → Fault → Type 0
IsDecideFault walk_sizes walk_vertices mesh fault =
    IsSurfaceFault mesh fault
    ⊎ (IsOrientableSurface mesh × (are_pairs walk_sizes walk_vertices ≡ false) × (fault ≡ WalkCount))

-- The surface is not of the kind on which the question is answered, which may be that it is not orientable; or it is, and the arrays of the
-- walks are those of no pairs.
abbrev pub IsAskedFault : (FaceList → Type 0) → (walk_sizes walk_vertices : List ℕ) → FaceList → Fault → Type 0
IsAskedFault IsSurface walk_sizes walk_vertices mesh fault =
    ((IsSurface mesh → ⊥) × (fault ≡ NotOrientable))
    ⊎ (IsSurface mesh × (are_pairs walk_sizes walk_vertices ≡ false) × (fault ≡ WalkCount))

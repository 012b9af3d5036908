-- How the question whether the walks of pairs are homotopic ends on compact surfaces, in any number of pieces, closed or with boundary,
-- orientable or not.
use Rattle.std.specs.Prelude.{◌≡◌, ◌⊎◌, ℕ, List, false}
use Rattle.surf_model.specs.FaceLists.{FaceList}
use Rattle.compact_surfaces.specs.CompactSurfaces.{IsCompactSurface, IsOrientableCompactSurface}
use Rattle.compact_surfaces.specs.Faults.{IsFirstCompactFault}
use Rattle.compact_surfaces.specs.Signed.{IsSignedFault, IsSignedFor}
use Rattle.compact_surfaces.specs.declared.fault.CompactFault.{CompactFault}
use Rattle.compact_surfaces.specs.declared.fault.CompactFault.TheVariants as compact
use Rattle.compact_surfaces.specs.declared.signed.SignedCompact.{SignedCompact}
use Rattle.compact_surfaces.specs.declared.signed.SignedFault.{SignedFault}
use Rattle.compact_surfaces.specs.declared.signed.SignedFault.TheVariants as signed
use Rattle.doubling.specs.declared.fault.DoubleFault.TheVariants as limits
use Rattle.homotopy_arrays.specs.Decisions.{AreAnsweredOn}
use Rattle.homotopy_arrays.specs.Pairs.{IsAnswer, are_pairs}
use Rattle.homotopy_arrays.specs.declared.decide.PairAnswer.{PairAnswer}
use Rattle.homotopy_arrays.specs.declared.fault.Fault.{Fault}
use Rattle.homotopy_arrays.specs.declared.fault.Fault.TheVariants.{NoFace, EdgeSides, Pinched, NotOrientable, DoubleVertices, DoubleSides, CoverVertices, CoverSides, WalkCount, OutOfMemory}

-- why a mesh is no compact surface, or one too large, as a fault
abbrev pub of_compact_fault : CompactFault → Fault
of_compact_fault compact.NoFace = NoFace
of_compact_fault (compact.EdgeSides low high sides) = EdgeSides low high sides
of_compact_fault (compact.Pinched vertex) = Pinched vertex
of_compact_fault (compact.Double limits.TooManyVertices) = DoubleVertices
of_compact_fault (compact.Double limits.TooManySides) = DoubleSides
of_compact_fault (compact.Double limits.OutOfMemory) = OutOfMemory
of_compact_fault (compact.Cover limits.TooManyVertices) = CoverVertices
of_compact_fault (compact.Cover limits.TooManySides) = CoverSides
of_compact_fault (compact.Cover limits.OutOfMemory) = OutOfMemory
of_compact_fault compact.OutOfMemory = OutOfMemory

-- what is first wrong with a mesh that is no compact surface, or one whose double or cover would be too large
abbrev pub IsCompactFault : FaceList → Fault → Type 0
IsCompactFault mesh fault = (first : CompactFault) × IsFirstCompactFault mesh first × (fault ≡ of_compact_fault first)

-- why a mesh is no orientable compact surface, as a fault
abbrev pub of_signed_fault : SignedFault → Fault
of_signed_fault (signed.Compact fault) = of_compact_fault fault
of_signed_fault signed.NotOrientable = NotOrientable

-- what is first wrong with a mesh that is none, or one whose double would be too large
abbrev pub IsOrientableCompactFault : FaceList → Fault → Type 0
IsOrientableCompactFault mesh fault = (first : SignedFault) × IsSignedFault mesh first × (fault ≡ of_signed_fault first)

-- the mesh is an orientable compact surface, of which this is kept
pub record IsSignedOf (mesh : FaceList) (surface : SignedCompact) : Type 0 where
  pub compact : IsOrientableCompactSurface mesh
  pub signed : IsSignedFor mesh surface

-- the mesh is a compact surface, and is the one that is kept
pub record IsCompactKept (mesh kept : FaceList) : Type 0 where
  pub surface : IsCompactSurface mesh
  pub same : kept ≡ mesh

-- whether the walks of each pair are homotopic on a compact surface
abbrev pub AreDecidedOnAny : (walk_sizes walk_vertices : List ℕ) → FaceList → List PairAnswer → Type 0
AreDecidedOnAny walk_sizes walk_vertices mesh given = AreAnsweredOn IsCompactSurface IsAnswer walk_sizes walk_vertices mesh given

-- the mesh is none; or it is one, and the arrays of the walks are those of no pairs
abbrev pub IsDecideAnyFault : (walk_sizes walk_vertices : List ℕ) → FaceList → Fault → Type 0
IsDecideAnyFault walk_sizes walk_vertices mesh fault =
    IsCompactFault mesh fault
    ⊎ (IsCompactSurface mesh × (are_pairs walk_sizes walk_vertices ≡ false) × (fault ≡ WalkCount))

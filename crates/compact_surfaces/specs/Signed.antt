-- Orientable compact surfaces with coherent signs, and why a mesh is none.
use Rattle.std.specs.Prelude.{◌≡◌}
use Rattle.surf_model.specs.Edges.{IsTableOf}
use Rattle.surf_model.specs.FaceLists.{FaceList, HasFileSize, IsFaceList}
use Rattle.surf_model.specs.Surfaces.{IsOrientable}
use Rattle.closed_surfaces.specs.SignedSurfaces.{IsSigned}
use Rattle.closed_surfaces.specs.declared.signed_mesh.SignedMesh.{SignedMesh}
use Rattle.free_forms.specs.OpenSurfaces.{HasBoundary}
use Rattle.doubling.specs.Doubles.{double_of}
use Rattle.compact_surfaces.specs.CompactSurfaces.{IsCompactSurface}
use Rattle.compact_surfaces.specs.Faults.{IsUncoveredFault}
use Rattle.compact_surfaces.specs.declared.fault.CompactFault.TheVariants.{OutOfMemory}
use Rattle.compact_surfaces.specs.declared.signed.Bounded.{Bounded}
use Rattle.compact_surfaces.specs.declared.signed.SignedCompact.{SignedCompact}
use Rattle.compact_surfaces.specs.declared.signed.SignedCompact.TheVariants as surfaces
use Rattle.compact_surfaces.specs.declared.signed.SignedFault.{SignedFault}
use Rattle.compact_surfaces.specs.declared.signed.SignedFault.TheVariants as faults

-- the mesh with its table, and its double with signs
pub record IsBoundedFor (mesh : FaceList) (kept : Bounded) : Type 0 where
  pub faces : kept.faces ≡ mesh
  pub valid : IsFaceList mesh
  pub table : IsTableOf mesh kept.sides
  pub double : kept.double.faces ≡ double_of mesh
  pub signed : IsSigned kept.double

-- the mesh itself with signs
pub record IsClosedSigned (mesh : FaceList) (kept : SignedMesh) : Type 0 where
  pub faces : kept.faces ≡ mesh
  pub signed : IsSigned kept

-- what is kept of the mesh, without boundary or with it
abbrev pub IsSignedFor : FaceList → SignedCompact → Type 0
IsSignedFor mesh (surfaces.Closed kept) = (HasBoundary mesh → ⊥) × IsClosedSigned mesh kept
IsSignedFor mesh (surfaces.Bounded kept) = HasBoundary mesh × IsBoundedFor mesh kept

-- a compact surface that is not orientable, where its double is no larger than a mesh may be
pub record IsOneSided (mesh : FaceList) : Type 0 where
  pub compact : IsCompactSurface mesh
  pub fits : HasBoundary mesh → HasFileSize (double_of mesh)
  pub twisted : IsOrientable mesh → ⊥

-- a condition fails, or the double is beyond a limit, or else there are no signs
abbrev pub IsSignedFault : FaceList → SignedFault → Type 0
IsSignedFault mesh (faults.Compact fault) = IsUncoveredFault mesh fault
IsSignedFault mesh faults.NotOrientable = IsOneSided mesh

-- memory is wanting
abbrev pub signed_no_memory : SignedFault
signed_no_memory = faults.Compact OutOfMemory

-- How a question about a mesh that lies in arrays ends.
use Rattle.std.specs.Prelude.{◌≡◌, ◌⊎◌, Result, Ok, Err, MatchResult}
use Rattle.surf_model.specs.FaceLists.{FaceList}
use Rattle.surf_model.specs.Surfaces.{IsClosedManifold, IsOrientable}
use Rattle.manifold_check.specs.Faults.{IsFirstFault}
use Rattle.manifold_check.specs.declared.fault.SurfaceFault.{SurfaceFault}
use Rattle.manifold_check.specs.declared.fault.SurfaceFault.TheVariants as closed
use Rattle.closed_surfaces.specs.declared.signed_mesh.NoSurface.{NoSurface}
use Rattle.closed_surfaces.specs.declared.signed_mesh.NoSurface.TheVariants as none
use Rattle.surf_model.specs.OrientableSurfaces.{IsOrientableSurface}
use Rattle.closed_surfaces.specs.SignedSurfaces.{IsSigned}
use Rattle.surf_model.specs.Genera.{AreNumbersOf}
use Rattle.closed_surfaces.specs.ComponentGenera.{AreGeneraOf}
use Rattle.closed_surfaces.specs.declared.signed_mesh.SignedMesh.{SignedMesh}
use Rattle.homotopy_arrays.specs.declared.fault.Fault.{Fault}
use Rattle.homotopy_arrays.specs.declared.fault.Fault.TheVariants.{NoFace, EdgeSides, Pinched, NotOrientable, OutOfMemory}
use Rattle.homotopy_arrays.specs.declared.surface.Measured.{Measured}

-- the arrays are a mesh of which this holds; `read` is the mesh that they are, or what is first wrong with them
pub record OfMesh (read : Result FaceList Fault) (Holds : FaceList → Type 0) : Type 0 where
  pub mesh : FaceList
  pub is : read ≡ Ok mesh
  pub holds : Holds mesh

-- A question ends with a thing that belongs to the mesh; or with what is wrong with the arrays, with what is wrong with the mesh, or for
-- want of memory.
abbrev pub EndsOn : {T : Type 0} → Result FaceList Fault → (FaceList → T → Type 0) → (FaceList → Fault → Type 0) → Result T Fault → Type 0
EndsOn read Gives Refuses result =
    MatchResult result (λ thing. OfMesh read (λ mesh. Gives mesh thing))
    (λ fault. (fault ≡ OutOfMemory) ⊎ ((read ≡ Err fault) ⊎ OfMesh read (λ mesh. Refuses mesh fault)))

-- ---- surfaces

-- the first condition of a closed manifold that fails, as a fault
abbrev pub of_surface_fault : SurfaceFault → Fault
of_surface_fault closed.NoFace = NoFace
of_surface_fault (closed.EdgeSides low high sides) = EdgeSides low high sides
of_surface_fault (closed.Pinched vertex) = Pinched vertex
of_surface_fault closed.OutOfMemory = OutOfMemory

-- why a mesh is no orientable closed surface, as a fault
abbrev pub of_no_surface : NoSurface → Fault
of_no_surface (none.Fault fault) = of_surface_fault fault
of_no_surface (none.NotOrientable chain) = NotOrientable

-- what is first wrong with a mesh that is no orientable closed surface
abbrev pub IsSurfaceFault : FaceList → Fault → Type 0
IsSurfaceFault mesh fault =
    ((first : SurfaceFault) × IsFirstFault mesh first × (fault ≡ of_surface_fault first))
    ⊎ (IsClosedManifold mesh × (IsOrientable mesh → ⊥) × (fault ≡ NotOrientable))

-- the mesh with its table and signs
pub record IsSurfaceOf (mesh : FaceList) (surface : SignedMesh) : Type 0 where
  pub faces : surface.faces ≡ mesh
  pub signed : IsSigned surface

-- the numbers of an orientable closed surface, and the genera of its components
pub record IsMeasureOf (mesh : FaceList) (measured : Measured) : Type 0 where
  pub surface : IsOrientableSurface mesh
  pub numbers : AreNumbersOf mesh measured.numbers
  pub genera : AreGeneraOf mesh measured.genera.items

-- Orientable closed surfaces with a table of their edges and signs of their faces, and their components.
use Rattle.std.specs.Prelude.{◌≡◌, ◌⊎◌, ℕ, ◌<◌, length, slice_index}
use Rattle.surf_model.specs.FaceLists.{FaceList, IsFaceList}
use Rattle.surf_model.specs.Edges.{IsTableOf}
use Rattle.surf_model.specs.Surfaces.{IsClosedManifold, IsCoherent, IsOrientable}
use Rattle.surf_model.specs.ComponentParts.{AreParts, component_at, component_mesh}
use Rattle.surf_model.specs.Submeshes.{signs_among}
use Rattle.surf_model.specs.OddChains.{IsOddChain}
use Rattle.manifold_check.specs.Faults.{IsFirstFault}
use Rattle.manifold_check.specs.declared.fault.SurfaceFault.TheVariants.{OutOfMemory}
use Rattle.halfedge_map.specs.OrientedMeshes.{OrientedMesh}
use Rattle.closed_surfaces.specs.declared.component.Component.{Component}
use Rattle.closed_surfaces.specs.declared.component.Component.TheVariants.{Whole, Alone}
use Rattle.closed_surfaces.specs.declared.component.Part.{Part}
use Rattle.closed_surfaces.specs.declared.signed_mesh.SignedMesh.{SignedMesh}
use Rattle.closed_surfaces.specs.declared.signed_mesh.NoSurface.{NoSurface}
use Rattle.closed_surfaces.specs.declared.signed_mesh.NoSurface.TheVariants.{Fault, NotOrientable}

-- the table is that of the mesh, which is a closed manifold, and the signs make it an orientable one
pub record IsSigned (signed : SignedMesh) : Type 0 where
  pub valid : IsFaceList signed.faces
  pub table : IsTableOf signed.faces signed.sides
  pub manifold : IsClosedManifold signed.faces
  pub coherent : IsCoherent signed.faces signed.signs

-- why a mesh is no orientable closed surface: the first condition of a closed manifold that fails, or an odd chain of a closed manifold
abbrev pub IsNoSurface : FaceList → NoSurface → Type 0
IsNoSurface mesh (Fault fault) = (fault ≡ OutOfMemory) ⊎ IsFirstFault mesh fault
IsNoSurface mesh (NotOrientable chain) = IsClosedManifold mesh × (IsOrientable mesh → ⊥) × IsOddChain mesh chain

-- memory is wanting
abbrev pub surface_no_memory : NoSurface
surface_no_memory = Fault OutOfMemory

-- a component apart from the others: its own faces, with the signs that they have in the whole
pub record IsPart (part : Part) : Type 0 where
  pub whole : IsSigned part.whole
  pub parts : AreParts part.whole.faces part.parts
  pub within : part.place < length part.parts.components
  pub mesh : part.alone.mesh ≡ component_mesh part.whole.faces part.parts part.place
  pub signs : part.alone.signs ≡ signs_among part.whole.signs (component_at part.parts part.place)

-- the component of a vertex: all of the mesh, or one of several components
abbrev pub IsComponentOf : FaceList → ℕ → Component → Type 0
IsComponentOf mesh v (Whole surface) = surface.mesh ≡ mesh
IsComponentOf mesh v (Alone part) = IsPart part × (part.whole.faces ≡ mesh) × (slice_index part.parts.places v ≡ part.place)

-- the surface that it is
abbrev pub surface_of : Component → OrientedMesh
surface_of (Whole surface) = surface
surface_of (Alone part) = part.alone

-- How the question ends whether two walks are homologous, with numbers that show it.
use Rattle.std.specs.Prelude.{◌≡◌, ◌⊎◌, ◌↔◌, ℕ, ◌+◌, ◌<◌, ◌≤◌, List, Some, Result, Err}
use Rattle.surf_model.specs.FaceLists.{FaceList}
use Rattle.surf_model.specs.OrientableSurfaces.{IsOrientableSurface}
use Rattle.surf_model.specs.Walks.{darts}
use Rattle.homology.specs.ArrayCertificates.{AreSmall, DoShow}
use Rattle.homology.specs.Chains.{AreHomologous}
use Rattle.homology.specs.declared.array.HomologyNumbers.{HomologyNumbers}
use Rattle.homology.specs.declared.array.HomologyNumbers.TheVariants.{Chain, Cocycle}
use Rattle.homology.specs.declared.certificate.TheConstants.{MOST_NUMBER}
use Rattle.folded_homology.specs.FoldedNumbers.{AreFolded}
use Rattle.closed_surfaces.specs.SignedSurfaces.{IsSigned}
use Rattle.compact_surfaces.specs.CompactSurfaces.{IsOrientableCompactSurface}
use Rattle.compact_surfaces.specs.Signed.{IsBoundedFor}
use Rattle.compact_surfaces.specs.declared.signed.SignedCompact.{SignedCompact}
use Rattle.compact_surfaces.specs.declared.signed.SignedCompact.TheVariants.{Closed, Bounded}
use Rattle.commands.specs.HomologyCertificates.{HomologyAnswer, Homologous, NotHomologous}
use Rattle.homotopy_arrays.specs.Compact.{IsOrientableCompactFault}
use Rattle.homotopy_arrays.specs.Pairs.{AreWalks, two_walks_fault}
use Rattle.homotopy_arrays.specs.Surfaces.{IsSurfaceFault, OfMesh}
use Rattle.homotopy_arrays.specs.declared.fault.Fault.{Fault}
use Rattle.homotopy_arrays.specs.declared.fault.Fault.TheVariants.{OutOfMemory}
use Rattle.homotopy_arrays.specs.declared.homologies.HomologyFault.{HomologyFault}
use Rattle.homotopy_arrays.specs.declared.homologies.HomologyFault.TheVariants.{Mesh, Walks, Darts}
use Rattle.homotopy_arrays.specs.declared.pair.WalkFault.{WalkFault}

-- the answer that numbers are for
abbrev pub answer_by : HomologyNumbers → HomologyAnswer
answer_by (Chain numbers) = Homologous
answer_by (Cocycle numbers) = NotHomologous

-- ---- how the question ends

-- two walks of the mesh with common ends, not too long together, and numbers that show what holds of them, none too large: those of a chain
-- exactly where they are homologous
pub record AreShownAs (Small : HomologyNumbers → Type 0) (mesh : FaceList) (first second : List ℕ) (shown : HomologyNumbers) : Type 0 where
  pub walks : AreWalks mesh first second
  pub few : darts first + darts second ≤ MOST_NUMBER
  pub show : DoShow mesh first second shown
  pub small : Small shown
  pub exactly : (answer_by shown ≡ Homologous) ↔ AreHomologous mesh first second

-- none of the numbers is larger than one of a certificate
abbrev pub AreShown : FaceList → (first second : List ℕ) → HomologyNumbers → Type 0
AreShown mesh first second shown = AreShownAs AreSmall mesh first second shown

-- the arrays are a surface of a kind, and the numbers are for two walks of it; `read` is the mesh that they are, or what is first wrong
-- with them
abbrev pub ShowsWalksOn : (IsSurface : FaceList → Type 0) → (Small : HomologyNumbers → Type 0) → (read : Result FaceList Fault)
    → (first second : List ℕ) → HomologyNumbers → Type 0
ShowsWalksOn IsSurface Small read first second shown = OfMesh read (λ mesh. IsSurface mesh × AreShownAs Small mesh first second shown)

-- an orientable closed surface
abbrev pub ShowsWalks : (read : Result FaceList Fault) → (first second : List ℕ) → HomologyNumbers → Type 0
ShowsWalks read first second shown = ShowsWalksOn IsOrientableSurface AreSmall read first second shown

-- an orientable compact surface, closed or with boundary
abbrev pub ShowsWalksOnAny : (read : Result FaceList Fault) → (first second : List ℕ) → HomologyNumbers → Type 0
ShowsWalksOnAny read first second shown = ShowsWalksOn IsOrientableCompactSurface AreFolded read first second shown

-- ---- what is wrong

abbrev pub no_memory : HomologyFault
no_memory = Mesh OutOfMemory

-- the walks have more darts together than the greatest number that is written
abbrev pub AreLong : (first second : List ℕ) → HomologyFault → Type 0
AreLong first second fault =
    (MOST_NUMBER < darts first + darts second) × (fault ≡ Darts (darts first + darts second))

-- memory is wanting; or these are not two walks of the mesh with common ends; or they are, and too long
abbrev pub IsHomologyFaultOfPair : FaceList → (first second : List ℕ) → HomologyFault → Type 0
IsHomologyFaultOfPair mesh first second fault =
    (fault ≡ no_memory)
    ⊎ (((walks : WalkFault) × (two_walks_fault mesh first second ≡ Some walks) × (AreWalks mesh first second → ⊥) × (fault ≡ Walks walks))
    ⊎ (AreWalks mesh first second × AreLong first second fault))

-- the mesh is no surface of a kind, for a fault; or it is one, and something is wrong with the walks, or they are too long
abbrev pub IsHomologyFaultOfMesh : (IsSurface : FaceList → Type 0) → (Refuses : FaceList → Fault → Type 0) → FaceList
    → (first second : List ℕ) → HomologyFault → Type 0
IsHomologyFaultOfMesh IsSurface Refuses mesh first second fault =
    ((first_fault : Fault) × Refuses mesh first_fault × (fault ≡ Mesh first_fault))
    ⊎ (IsSurface mesh × IsHomologyFaultOfPair mesh first second fault)

-- memory is wanting; or the arrays are no mesh; or they are one, and something is wrong with it or with the walks, or they are too long
abbrev pub IsHomologyFaultOn : (IsSurface : FaceList → Type 0) → (Refuses : FaceList → Fault → Type 0) → (read : Result FaceList Fault)
    → (first second : List ℕ) → HomologyFault → Type 0
IsHomologyFaultOn IsSurface Refuses read first second fault =
    (fault ≡ no_memory)
    ⊎ (((first_fault : Fault) × (read ≡ Err first_fault) × (fault ≡ Mesh first_fault))
    ⊎ OfMesh read (λ mesh. IsHomologyFaultOfMesh IsSurface Refuses mesh first second fault))

-- where the surface is to be closed
abbrev pub IsHomologyFault : (read : Result FaceList Fault) → (first second : List ℕ) → HomologyFault → Type 0
IsHomologyFault read first second fault = IsHomologyFaultOn IsOrientableSurface IsSurfaceFault read first second fault

-- where it may have boundary
abbrev pub IsHomologyFaultOnAny : (read : Result FaceList Fault) → (first second : List ℕ) → HomologyFault → Type 0
IsHomologyFaultOnAny read first second fault =
    IsHomologyFaultOn IsOrientableCompactSurface IsOrientableCompactFault read first second fault

-- ---- what is asked

-- the mesh that is asked about
abbrev pub mesh_asked : SignedCompact → FaceList
mesh_asked (Closed surface) = surface.faces
mesh_asked (Bounded surface) = surface.faces

-- what holds of it
abbrev pub IsAsked : SignedCompact → Type 0
IsAsked (Closed surface) = IsSigned surface
IsAsked (Bounded surface) = IsBoundedFor surface.faces surface

-- how large numbers become
abbrev pub Sized : SignedCompact → HomologyNumbers → Type 0
Sized (Closed surface) shown = AreSmall shown
Sized (Bounded surface) shown = AreFolded shown

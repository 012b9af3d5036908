-- How the question ends for a certificate of two walks.
use Rattle.std.specs.Prelude.{◌≡◌, ◌⊎◌, ◌↔◌, ℕ, List, Some, Result, Err}
use Rattle.surf_model.specs.FaceLists.{FaceList}
use Rattle.surf_model.specs.Moves as moves
use Rattle.surf_model.specs.declared.decisions.Answer.TheVariants as deciding
use Rattle.commands.specs.Certificates.{Convinces, IsPeakLow, IsShortOnSphere, decision_of}
use Rattle.certify_commands.specs.Certify.{IsWithinLimits, certify_limits}
use Rattle.surf_model.specs.OrientableSurfaces.{IsOrientableSurface}
use Rattle.commands.specs.Limits.{first_over}
use Rattle.commands.specs.declared.certificate.Certificate.{Certificate}
use Rattle.commands.specs.declared.limits.OverLimit.{OverLimit}
use Rattle.homotopy_arrays.specs.Pairs.{AreWalks, two_walks_fault}
use Rattle.homotopy_arrays.specs.Surfaces.{IsSurfaceFault, OfMesh}
use Rattle.homotopy_arrays.specs.declared.certify.CertifyFault.{CertifyFault}
use Rattle.homotopy_arrays.specs.declared.certify.CertifyFault.TheVariants.{Mesh, Walks, Over}
use Rattle.homotopy_arrays.specs.declared.fault.Fault.{Fault}
use Rattle.homotopy_arrays.specs.declared.fault.Fault.TheVariants.{OutOfMemory}
use Rattle.homotopy_arrays.specs.declared.pair.WalkFault.{WalkFault}

-- two walks of the mesh with common ends, within the limits, and a certificate that shows what holds of them: moves where they are
-- homotopic, and a denial where they are not; its peak is low, and on a sphere it is short
pub record IsCertificateFor (mesh : FaceList) (first second : List ℕ) (shown : Certificate) : Type 0 where
  pub walks : AreWalks mesh first second
  pub limits : IsWithinLimits mesh first second
  pub convinces : Convinces mesh first second shown
  pub low : IsPeakLow shown
  pub short : IsShortOnSphere mesh first shown
  pub exactly : (decision_of shown ≡ deciding.Homotopic) ↔ moves.Homotopic mesh first second

-- the arrays are an orientable closed surface, and the certificate is for two walks of it; `read` is the mesh that they are, or what is
-- first wrong with them
abbrev pub Certifies : (read : Result FaceList Fault) → (first second : List ℕ) → Certificate → Type 0
Certifies read first second shown = OfMesh read (λ mesh. IsOrientableSurface mesh × IsCertificateFor mesh first second shown)

-- ---- what is wrong

abbrev pub no_memory : CertifyFault
no_memory = Mesh OutOfMemory

-- the surface or the walks are too large for lists of moves, and this is what is first over its limit
abbrev pub IsCertifyLimitFault : FaceList → (first second : List ℕ) → CertifyFault → Type 0
IsCertifyLimitFault mesh first second fault =
    (over : OverLimit) × (first_over certify_limits mesh first second ≡ Some over) × (fault ≡ Over over)

-- memory is wanting; or these are not two walks of the mesh with common ends; or they are, and something is too large
abbrev pub IsFaultOfPair : FaceList → (first second : List ℕ) → CertifyFault → Type 0
IsFaultOfPair mesh first second fault =
    (fault ≡ no_memory)
    ⊎ (((walks : WalkFault) × (two_walks_fault mesh first second ≡ Some walks) × (AreWalks mesh first second → ⊥) × (fault ≡ Walks walks))
    ⊎ (AreWalks mesh first second × IsCertifyLimitFault mesh first second fault))

-- the mesh is no orientable closed surface; or it is one, and something is wrong with the walks, or too large
abbrev pub IsFaultOfMesh : FaceList → (first second : List ℕ) → CertifyFault → Type 0
IsFaultOfMesh mesh first second fault =
    ((first_fault : Fault) × IsSurfaceFault mesh first_fault × (fault ≡ Mesh first_fault))
    ⊎ (IsOrientableSurface mesh × IsFaultOfPair mesh first second fault)

-- memory is wanting; or the arrays are no mesh; or they are one, and something is wrong with it or with the walks, or too large
abbrev pub IsCertifyFault : (read : Result FaceList Fault) → (first second : List ℕ) → CertifyFault → Type 0
IsCertifyFault read first second fault =
    (fault ≡ no_memory)
    ⊎ (((first_fault : Fault) × (read ≡ Err first_fault) × (fault ≡ Mesh first_fault))
    ⊎ OfMesh read (λ mesh. IsFaultOfMesh mesh first second fault))

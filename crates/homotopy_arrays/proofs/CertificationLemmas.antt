-- Certificates, from their parts.
use Rattle.homotopy_arrays.proofs.Common.{signed_surface, IsSigned, SignedMesh, Certifies, IsCertificateFor, IsCertifyFault, IsFaultOfPair, IsCertifyLimitFault, no_memory, AreWalks, IsSurfaceFault, IsSurfaceOf, OfMesh, Fault, OutOfMemory, ◌≡◌, ◌⊎◌, ℕ, List, sym, ap, ◌∙◌, inl, inr, option_map, MatchResult, None, Result, Ok, Err, FaceList}
use Rattle.certify_commands.proofs.Certifying.{convinces_decides}
use Rattle.certify_commands.specs.Certify.{IsWithinLimits, certify_limits, limit_word}
use Rattle.commands.proofs.LimitLemmas.{fitting}
use Rattle.commands.specs.Certificates.{IsShown}
use Rattle.commands.specs.Limits.{first_over, over_line}
use Rattle.commands.specs.declared.certificate.Certificate.{Certificate}
use Rattle.homotopy_arrays.specs.declared.certify.CertifyFault.{CertifyFault}
use Rattle.homotopy_arrays.specs.declared.certify.CertifyFault.TheVariants.{Mesh}

-- ---- limits

-- what is within the limits, and what is not
pub within : (mesh : FaceList) (first second : List ℕ) → None ≡ first_over certify_limits mesh first second
    → IsWithinLimits mesh first second
within mesh first second e = fitting certify_limits limit_word mesh first second (ap (option_map (over_line limit_word)) (sym e))

-- ---- certificates

-- what is shown is for the right decision
pub found : (surface : SignedMesh) (first second : List ℕ) (shown : Certificate) → IsSigned surface → AreWalks surface.faces first second
    → IsWithinLimits surface.faces first second → IsShown surface.faces first second shown
    → IsCertificateFor surface.faces first second shown
found surface first second shown signed are within h =
    record {
      walks = are;
      limits = within;
      convinces = h.0;
      low = h.1;
      short = h.2;
      exactly = convinces_decides surface.faces first second shown signed.valid are.first_walk h.0;
    }

-- what was found on walks of the mesh
pub on_walks : (mesh : FaceList) (first second : List ℕ) (end : Result Certificate CertifyFault) → AreWalks mesh first second
    → MatchResult end (IsCertificateFor mesh first second) (λ fault. (fault ≡ no_memory) ⊎ IsCertifyLimitFault mesh first second fault)
    → MatchResult end (IsCertificateFor mesh first second) (IsFaultOfPair mesh first second)
on_walks mesh first second (Ok shown) are h = h
on_walks mesh first second (Err fault) are (inl memory) = inl memory
on_walks mesh first second (Err fault) are (inr limit) = inr (inr (are, limit))

-- what was found on the surface that the arrays are
pub on_surface : (read : Result FaceList Fault) (surface : SignedMesh) (first second : List ℕ) (end : Result Certificate CertifyFault)
    → OfMesh read (λ mesh. IsSurfaceOf mesh surface)
    → MatchResult end (IsCertificateFor surface.faces first second) (IsFaultOfPair surface.faces first second)
    → MatchResult end (Certifies read first second) (IsCertifyFault read first second)
on_surface read surface first second (Ok shown) of h =
    record {
      mesh = surface.faces;
      is = of.is ∙ ap (λ (m : FaceList). Ok m) (sym of.holds.faces);
      holds = (signed_surface surface of.holds.signed, h);
    }
on_surface read surface first second (Err fault) of h =
    inr (inr (record {
      mesh = surface.faces;
      is = of.is ∙ ap (λ (m : FaceList). Ok m) (sym of.holds.faces);
      holds = inr (signed_surface surface of.holds.signed, h);
    }))

-- the arrays are no surface
pub no_surface : (read : Result FaceList Fault) (first second : List ℕ) (fault : Fault) (told : CertifyFault)
    → (fault ≡ OutOfMemory) ⊎ ((read ≡ Err fault) ⊎ OfMesh read (λ mesh. IsSurfaceFault mesh fault)) → told ≡ Mesh fault
    → IsCertifyFault read first second told
no_surface read first second fault told (inl memory) is = inl (is ∙ ap Mesh memory)
no_surface read first second fault told (inr (inl bad)) is = inr (inl (fault, bad, is))
no_surface read first second fault told (inr (inr of)) is =
    inr (inr (record { mesh = of.mesh; is = of.is; holds = inl (fault, of.holds, is) }))

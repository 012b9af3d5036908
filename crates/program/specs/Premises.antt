-- The premises of the laws: where an answer comes that is no refusal, the words and the files that they name are an input of the command.
use Rattle.std.specs.Prelude.{◌≢◌, ℕ, List, codes, Option}
use Rattle.surf_io.specs.Files.{Files}
use Rattle.surf_model.specs.FaceLists.{FaceList}
use Rattle.homology.specs.declared.certificate.HomologyCert.{HomologyCert}
use Rattle.walk_files.specs.PairLists.{WalkPair}
use Rattle.certify_commands.specs.Certify.{IsCertifyInput, IsWithinLimits}
use Rattle.commands.specs.Checks.{IsTold}
use Rattle.surf_model.specs.OrientableSurfaces.{IsOrientableSurface}
use Rattle.surface_commands.specs.Surface.{IsSurfaceInput, HasFewComponents}
use Rattle.commands.specs.declared.certificate.Certificate.{Certificate}
use Rattle.commands.specs.declared.status.Status.{Status}
use Rattle.commands.specs.declared.status.Status.TheVariants.{Refused}
use Rattle.pair_commands.specs.Decide.{IsDecideInput}
use Rattle.homology_commands.specs.Homology.{IsHomologyInput}
use Rattle.homology_commands.specs.PrintedHomology.{IsHomologyVerifyOfText}
use Rattle.verify_homology_commands.specs.VerifyHomology.{IsInput as IsHomologyVerifyInput}
use Rattle.loop_commands.specs.Loops.{IsLoopsInput}
use Rattle.open_commands.specs.OpenPairs.{IsOpenInput, IsWithinOpenLimits}
use Rattle.reduce_commands.specs.Reduce.{IsReduceInput}
use Rattle.verify_commands.specs.Verify.{IsVerifyInput}
use Rattle.program.specs.Commands.{IsRow, Surface, Decide, Certify, Loops, DecideOpen, CertifyOpen, Homology, Verify, VerifyHomology, Reduce}
use Rattle.program.specs.PrintedCertificates.{IsVerifyOfText}

-- it is so of some mesh and two walks
pub record OfSomeWalks (IsSo : FaceList → (first second : List ℕ) → Type 0) : Type 0 where
  pub mesh : FaceList
  pub first : List ℕ
  pub second : List ℕ
  pub is_so : IsSo mesh first second

-- the words are an input of that open command, within its limits
abbrev pub HasOpenInput : (keyword : List ℕ) → Option Files → (words : List (List ℕ)) → Type 0
HasOpenInput keyword held words =
    OfSomeWalks (λ mesh first second. IsOpenInput keyword held words mesh first second × IsWithinOpenLimits mesh first second)

-- Where the words are a row and each file of it is told, an answer with this status, if it is no refusal, comes of an input of the command
-- alone: of some mesh, walks and certificate, as the command asks of them, and within its limits. So no law of src/laws.rt that speaks of
-- such an input says nothing.
pub record HasPremises (held : Option Files) (words : List (List ℕ)) (status : Status) : Type 0 where
  pub surface : (mesh : List ℕ) → IsRow words (Surface mesh) → IsTold held mesh → status ≢ Refused
      → (faces : FaceList) × IsSurfaceInput held words faces × IsOrientableSurface faces × HasFewComponents faces
  pub decide : (mesh walks : List ℕ) → IsRow words (Decide mesh walks) → IsTold held mesh → IsTold held walks → status ≢ Refused
      → (faces : FaceList) × (pairs : List WalkPair) × IsDecideInput held words faces pairs
  pub certify : (mesh walks : List ℕ) → IsRow words (Certify mesh walks) → IsTold held mesh → IsTold held walks → status ≢ Refused
      → OfSomeWalks (λ faces first second. IsCertifyInput held words faces first second × IsWithinLimits faces first second)
  pub loops : (mesh walks : List ℕ) → IsRow words (Loops mesh walks) → IsTold held mesh → IsTold held walks → status ≢ Refused
      → OfSomeWalks (IsLoopsInput held words)
  pub decide_open : (mesh walks : List ℕ) → IsRow words (DecideOpen mesh walks) → IsTold held mesh → IsTold held walks
      → status ≢ Refused → HasOpenInput (codes "decide-open") held words
  pub certify_open : (mesh walks : List ℕ) → IsRow words (CertifyOpen mesh walks) → IsTold held mesh → IsTold held walks
      → status ≢ Refused → HasOpenInput (codes "certify-open") held words
  pub homology : (mesh walks : List ℕ) → IsRow words (Homology mesh walks) → IsTold held mesh → IsTold held walks → status ≢ Refused
      → OfSomeWalks (IsHomologyInput held words)
  pub verify : (mesh walks certificate : List ℕ) → IsRow words (Verify mesh walks certificate) → IsTold held mesh → IsTold held walks
      → IsTold held certificate → status ≢ Refused
      → OfSomeWalks (λ faces first second. (text : List ℕ) × IsVerifyOfText held words faces first second text
      × (shown : Certificate) × IsVerifyInput held words faces first second shown)
  pub verify_homology : (mesh walks certificate : List ℕ) → IsRow words (VerifyHomology mesh walks certificate) → IsTold held mesh
      → IsTold held walks → IsTold held certificate → status ≢ Refused
      → OfSomeWalks (λ faces first second. (text : List ℕ) × IsHomologyVerifyOfText held words faces first second text
      × (shown : HomologyCert) × IsHomologyVerifyInput held words faces first second shown)
  pub reduce : (degree : ℕ) (list : List ℕ) → IsRow words (Reduce degree list) → IsTold held list → status ≢ Refused
      → (turns : List (List ℕ)) × IsReduceInput held degree list turns

-- How far a list of moves is judged, move by move.
use Rattle.std.specs.Prelude.{◌≡◌, ℕ, ◌+◌, List, Option}
use Rattle.surf_io.specs.Files.{Files}
use Rattle.surf_model.specs.FaceLists.{FaceList}
use Rattle.surf_model.specs.Moves.{PeakedMoves}
use Rattle.surf_model.specs.declared.moves.Move.{Move}
use Rattle.move_checker.specs.Verdicts.{verdict_from, verdict_of}
use Rattle.move_checker.specs.declared.judge.Verdict.{Verdict}
use Rattle.walk_files.specs.declared.certificate.CertHead.{CertHead}
use Rattle.walk_files.specs.declared.certificate.CertHead.TheVariants as heads
use Rattle.commands.specs.Checks.{Passes}
use Rattle.commands.specs.Inputs.{certificate_in}
use Rattle.commands.specs.declared.certificate.Certificate.TheVariants.{Moves}
use Rattle.verify_commands.specs.declared.progress.Progress.{Progress}
use Rattle.verify_commands.specs.declared.progress.Progress.TheVariants.{Going, Settled}

-- the peak that a head declares; 0 at that of a denial
abbrev pub peak_in : CertHead → ℕ
peak_in (heads.Moves count peak) = peak
peak_in (heads.Labels degree) = 0

-- the verdict on a list of moves of which the first `done` were judged, and these are left
abbrev pub outlook : FaceList → (second : List ℕ) → (done : ℕ) → Progress → List Move → Verdict
outlook mesh second done (Going tape) moves = verdict_from mesh tape.peak second (done + 1) tape.walk moves
outlook mesh second done (Settled verdict) moves = verdict

-- the verdict is that on a list of moves which the file may spell
pub record IsVerdictOnFile (held : Option Files) (name : List ℕ) (mesh : FaceList) (first second : List ℕ) (verdict : Verdict)
    : Type 0 where
  pub list : PeakedMoves
  pub passes : Passes (certificate_in held name) (Moves list)
  pub is : verdict ≡ verdict_of mesh first second list

-- The table of commands: the words of each row, and what is answered to it.
use Rattle.std.specs.Prelude.{◌≡◌, ℕ, List, [], ◌∷◌, codes, Option}
use Rattle.surf_io.specs.Files.{Files}
use Rattle.commands.specs.Answers.{Answer}
use Rattle.commands.specs.Checks.{Check}
use Rattle.certify_commands.specs.Certify.{certify}
use Rattle.pair_commands.specs.Decide.{decide}
use Rattle.reduce_commands.specs.Reduce.{reduce, IsReduceRow}
use Rattle.surface_commands.specs.Surface.{surface}
use Rattle.trial_commands.specs.Trial.{trial, IsTrialRow}
use Rattle.verify_commands.specs.Verify.{verify}
use Rattle.verify_homology_commands.specs.VerifyHomology.{verify_homology}
use Rattle.homology_commands.specs.Homology.{homology}
use Rattle.loop_commands.specs.Loops.{loops}
use Rattle.open_commands.specs.CertifyOpen.{certify_open}
use Rattle.open_commands.specs.DecideOpen.{decide_open}
use Rattle.program.specs.declared.command.Command.{Command}
use Rattle.program.specs.declared.command.Command.TheVariants as read

-- a row of the table, with the names of its files and its numbers; a name is the bytes of its text
pub data Row : Type 0 where
  Surface : (mesh : List ℕ) → Row
  Decide : (mesh walks : List ℕ) → Row
  Certify : (mesh walks : List ℕ) → Row
  Loops : (mesh walks : List ℕ) → Row
  DecideOpen : (mesh walks : List ℕ) → Row
  CertifyOpen : (mesh walks : List ℕ) → Row
  Homology : (mesh walks : List ℕ) → Row
  Verify : (mesh walks certificate : List ℕ) → Row
  VerifyHomology : (mesh walks certificate : List ℕ) → Row
  Reduce : (degree : ℕ) (list : List ℕ) → Row
  Trial : (genus grid : ℕ) → Row

-- the words are this row
abbrev pub IsRow : List (List ℕ) → Row → Type 0
IsRow words (Surface mesh) = words ≡ codes "surface" ∷ mesh ∷ []
IsRow words (Decide mesh walks) = words ≡ codes "decide" ∷ mesh ∷ walks ∷ []
IsRow words (Certify mesh walks) = words ≡ codes "certify" ∷ mesh ∷ walks ∷ []
IsRow words (Loops mesh walks) = words ≡ codes "loops" ∷ mesh ∷ walks ∷ []
IsRow words (DecideOpen mesh walks) = words ≡ codes "decide-open" ∷ mesh ∷ walks ∷ []
IsRow words (CertifyOpen mesh walks) = words ≡ codes "certify-open" ∷ mesh ∷ walks ∷ []
IsRow words (Homology mesh walks) = words ≡ codes "homology" ∷ mesh ∷ walks ∷ []
IsRow words (Verify mesh walks certificate) = words ≡ codes "verify" ∷ mesh ∷ walks ∷ certificate ∷ []
IsRow words (VerifyHomology mesh walks certificate) = words ≡ codes "verify-homology" ∷ mesh ∷ walks ∷ certificate ∷ []
IsRow words (Reduce degree list) = IsReduceRow words degree list
IsRow words (Trial genus grid) = IsTrialRow words genus grid

-- the row that a command which was read names
abbrev pub row_of : Command → Row
row_of (read.Surface mesh) = Surface mesh.now
row_of (read.Decide mesh walks) = Decide mesh.now walks.now
row_of (read.Certify mesh walks) = Certify mesh.now walks.now
row_of (read.Loops mesh walks) = Loops mesh.now walks.now
row_of (read.DecideOpen mesh walks) = DecideOpen mesh.now walks.now
row_of (read.CertifyOpen mesh walks) = CertifyOpen mesh.now walks.now
row_of (read.Homology mesh walks) = Homology mesh.now walks.now
row_of (read.Verify mesh walks certificate) = Verify mesh.now walks.now certificate.now
row_of (read.VerifyHomology mesh walks certificate) = VerifyHomology mesh.now walks.now certificate.now
row_of (read.Reduce degree list) = Reduce degree list.now
row_of (read.Trial genus grid) = Trial genus grid

-- the answer to a row
abbrev pub answer_to : Option Files → Row → Check Answer
answer_to held (Surface mesh) = surface held mesh
answer_to held (Decide mesh walks) = decide held mesh walks
answer_to held (Certify mesh walks) = certify held mesh walks
answer_to held (Loops mesh walks) = loops held mesh walks
answer_to held (DecideOpen mesh walks) = decide_open held mesh walks
answer_to held (CertifyOpen mesh walks) = certify_open held mesh walks
answer_to held (Homology mesh walks) = homology held mesh walks
answer_to held (Verify mesh walks certificate) = verify held mesh walks certificate
answer_to held (VerifyHomology mesh walks certificate) = verify_homology held mesh walks certificate
answer_to held (Reduce degree list) = reduce held degree list
answer_to held (Trial genus grid) = trial genus grid

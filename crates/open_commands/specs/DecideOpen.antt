-- The command `decide-open`.
use Rattle.std.specs.Prelude.{◌≡◌, ℕ, ◌↔◌, ◌⊎◌, List, codes, Option}
use Rattle.surf_io.specs.Files.{Files}
use Rattle.surf_model.specs.FaceLists.{FaceList}
use Rattle.surf_model.specs.Moves as moves
use Rattle.surf_model.specs.declared.decisions.Answer.TheVariants.{Homotopic, Different}
use Rattle.commands.specs.Answers.{Answer}
use Rattle.commands.specs.Certificates.{decision_line}
use Rattle.commands.specs.Checks.{Check, ◌>>=◌}
use Rattle.commands.specs.Decisions.{decided}
use Rattle.commands.specs.declared.status.Status.{Status}
use Rattle.commands.specs.declared.status.Status.TheVariants.{Yes, No}
use Rattle.open_commands.specs.OpenPairs.{IsOpenInput, IsWithinOpenLimits, IsRefusedLarge, open_pair_in}

-- What `decide-open` answers of an orientable open surface and two walks of it with common ends, within its limits: `homotopic`, with
-- status 0, exactly where some list of moves leads from the first walk to the second; and else `different`, with status 1. Beyond the
-- limits it is refused.
pub record IsDecidedOpen (held : Option Files) (words : List (List ℕ)) (status : Status) (text : List ℕ) : Type 0 where
  pub answered : (mesh : FaceList) (first second : List ℕ) → IsOpenInput (codes "decide-open") held words mesh first second
      → IsWithinOpenLimits mesh first second
      → ((status ≡ Yes) × (text ≡ decision_line Homotopic)) ⊎ ((status ≡ No) × (text ≡ decision_line Different))
  pub exactly : (mesh : FaceList) (first second : List ℕ) → IsOpenInput (codes "decide-open") held words mesh first second
      → IsWithinOpenLimits mesh first second → (status ≡ Yes) ↔ moves.Homotopic mesh first second
  pub beyond : IsRefusedLarge (codes "decide-open") held words status text

-- what is looked at, in order, and then the decision
abbrev pub decide_open : Option Files → (mesh walks : List ℕ) → Check Answer
decide_open held mesh walks = do
  asked ← open_pair_in held mesh walks
  decided asked.mesh asked.first asked.second

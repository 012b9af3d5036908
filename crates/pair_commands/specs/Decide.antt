-- The command `decide`.
use Rattle.std.specs.Prelude.{◌≡◌, ℕ, ◌↔◌, List, codes, Option, All}
use Rattle.std.specs.List.{AllZip}
use Rattle.surf_io.specs.Files.{Files}
use Rattle.surf_model.specs.FaceLists.{FaceList}
use Rattle.surf_model.specs.Moves as moves
use Rattle.walk_files.specs.PairLists.{WalkPair, ArePairs, walks_in_pairs}
use Rattle.walk_files.specs.WalkLists.{WalkText}
use Rattle.surf_model.specs.declared.decisions.Answer as deciding
use Rattle.surf_model.specs.declared.decisions.Answer.TheVariants.{Homotopic}
use Rattle.commands.specs.Answers.{Answer, Exactly}
use Rattle.commands.specs.Certificates.{decision_lines, decisions_status}
use Rattle.commands.specs.Checks.{Check, End, Refuse, Pass, without_files, ◌>>=◌}
use Rattle.commands.specs.Inputs.{IsInputOnSurface}
use Rattle.surface_commands.specs.SurfaceInput.{surface_in}
use Rattle.commands.specs.declared.status.Status.{Status}
use Rattle.commands.specs.declared.status.Status.TheVariants.{Yes}
use Rattle.pair_commands.specs.PairInput.{SpellsPairs, pairs_in}

-- The words are those of `decide`, and the two files that they name are told and stand for an orientable closed surface and
-- pairs of walks of it with common ends.
abbrev pub IsDecideInput : Option Files → (words : List (List ℕ)) → FaceList → (pairs : List WalkPair) → Type 0
IsDecideInput held words mesh pairs = IsInputOnSurface (codes "decide") (SpellsPairs mesh pairs) held words mesh

-- some list of moves leads from the first walk of the pair to the second
abbrev pub IsHomotopic : FaceList → WalkPair → Type 0
IsHomotopic mesh pair = moves.Homotopic mesh pair.first pair.second

-- the decision on a pair is `Homotopic` exactly where it is so
abbrev pub IsDecision : FaceList → WalkPair → deciding.Answer → Type 0
IsDecision mesh pair decision = (decision ≡ Homotopic) ↔ IsHomotopic mesh pair

-- one after another, these are the decisions on the pairs
abbrev pub AreDecisions : FaceList → List WalkPair → List deciding.Answer → Type 0
AreDecisions mesh pairs decisions = AllZip (IsDecision mesh) pairs decisions

-- the walks of a text come in pairs of walks of the mesh with common ends, and these are the decisions on them
pub record ArePairsDecided (mesh : FaceList) (text : WalkText) (decisions : List deciding.Answer) : Type 0 where
  pub pairs : ArePairs mesh text
  pub right : AreDecisions mesh (walks_in_pairs text.walks) decisions

-- the status and the text are those of the decisions on the pairs: a line for each, and yes where all are homotopic
pub record TellsDecisions (mesh : FaceList) (pairs : List WalkPair) (status : Status) (text : List ℕ) : Type 0 where
  pub decisions : List deciding.Answer
  pub right : AreDecisions mesh pairs decisions
  pub text_is : text ≡ decision_lines decisions
  pub status_is : status ≡ decisions_status decisions

-- What `decide` answers of such an input: for each pair, in order, a line, `homotopic` exactly where some list of moves leads from its
-- first walk to its second, and else `different`; with status 0 exactly where all pairs are homotopic, and else 1.
pub record IsDecided (held : Option Files) (words : List (List ℕ)) (status : Status) (text : List ℕ) : Type 0 where
  pub answered : (mesh : FaceList) (pairs : List WalkPair) → IsDecideInput held words mesh pairs → TellsDecisions mesh pairs status text
  pub exactly : (mesh : FaceList) (pairs : List WalkPair) → IsDecideInput held words mesh pairs
      → (status ≡ Yes) ↔ All (IsHomotopic mesh) pairs

-- the answer that decisions are
abbrev pub decisions_answer : List deciding.Answer → Answer
decisions_answer decisions = record { status = decisions_status decisions; texts = Exactly (decision_lines decisions) }

-- the decisions on pairs of walks of a mesh
abbrev pub all_decided : FaceList → List WalkPair → Check Answer
all_decided mesh pairs = without_files ends
  where
    ends : End Answer → Type 0
    ends (Refuse texts) = ⊥
    ends (Pass answer) = (decisions : List deciding.Answer) × (answer ≡ decisions_answer decisions) × AreDecisions mesh pairs decisions

-- what is looked at, in order, and then the decisions
abbrev pub decide : Option Files → (mesh walks : List ℕ) → Check Answer
decide held mesh walks = do
  surface ← surface_in held mesh
  text ← pairs_in held walks surface
  all_decided surface (walks_in_pairs text.walks)

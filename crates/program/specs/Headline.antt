-- THE HEADLINE, in the words of meshes, walks and moves.
--
-- For every file that stands for an orientable closed surface and any pairs of walks with common ends, `decide` answers `homotopic` for a
-- pair exactly when some list of spur insertions, spur removals and replacements across one face leads from its first walk to its second;
-- and for one pair `certify` prints such a list, or otherwise a good labelling under which the walks have the unequal canonical words
-- printed.
--
-- Its premises. The files that the words name are told by the shelf, are not too large, and stand for such a surface and such walks
-- (`IsDecideInput`, `IsCertifyInput`); for `certify` the surface and the walks are within its limits. The status is that of an answer,
-- and then all of the text was written: that is the clause `answered` of `run`, by whose `Answers` it holds (the law `headline` of
-- src/laws.rt). By the clause `complete` it is so wherever no count of faults rose in the call and memory was not wanting.
use Rattle.std.specs.Prelude.{◌≡◌, ◌≢◌, ℕ, ◌⊎◌, ◌↔◌, ◌++◌, List, Option, All}
use Rattle.surf_io.specs.Files.{Files}
use Rattle.surf_model.specs.FaceLists.{FaceList}
use Rattle.surf_model.specs.Moves as moves
use Rattle.surf_model.specs.Moves.{PeakedMoves, Leads}
use Rattle.labellings.specs.GoodLabellings.{IsGood}
use Rattle.labellings.specs.WalkWords.{IsWordOf}
use Rattle.labellings.specs.declared.denial.Denial.{Denial}
use Rattle.walk_files.specs.DenialTexts.{denial_text}
use Rattle.walk_files.specs.MoveTexts.{list_text}
use Rattle.walk_files.specs.PairLists.{WalkPair}
use Rattle.surf_model.specs.declared.decisions.Answer.TheVariants.{Homotopic, Different}
use Rattle.certify_commands.specs.Certify.{IsCertifyInput, IsWithinLimits}
use Rattle.pair_commands.specs.Decide.{TellsDecisions, IsDecideInput, IsHomotopic}
use Rattle.commands.specs.Certificates.{decision_line}
use Rattle.commands.specs.declared.status.Status.{Status}
use Rattle.commands.specs.declared.status.Status.TheVariants.{Yes, No}

-- behind the line `homotopic` a list was written, which leads from the first walk to the second
pub record PrintsList (mesh : FaceList) (first second : List ℕ) (status : Status) (text : List ℕ) : Type 0 where
  pub list : PeakedMoves
  pub leads : Leads mesh first list.moves second
  pub status_is : status ≡ Yes
  pub text_is : text ≡ decision_line Homotopic ++ list_text list

-- behind the line `different` a good labelling was written, with the words of the two walks under it, which differ; and no list of
-- moves leads
pub record PrintsDenial (mesh : FaceList) (first second : List ℕ) (status : Status) (text : List ℕ) : Type 0 where
  pub denial : Denial
  pub good : IsGood mesh denial.labelling
  pub first_word : IsWordOf mesh denial.labelling first denial.first
  pub second_word : IsWordOf mesh denial.labelling second denial.second
  pub unequal : denial.first ≢ denial.second
  pub different : moves.Homotopic mesh first second → ⊥
  pub status_is : status ≡ No
  pub text_is : text ≡ decision_line Different ++ denial_text denial

pub record Headline (held : Option Files) (words : List (List ℕ)) (status : Status) (text : List ℕ) : Type 0 where
  -- a line for each pair, `homotopic` exactly where some list of moves leads; and status 0 exactly where that holds of all
  pub decided : (mesh : FaceList) (pairs : List WalkPair) → IsDecideInput held words mesh pairs → TellsDecisions mesh pairs status text
  pub all_homotopic : (mesh : FaceList) (pairs : List WalkPair) → IsDecideInput held words mesh pairs
      → (status ≡ Yes) ↔ All (IsHomotopic mesh) pairs
  pub certified : (mesh : FaceList) (first second : List ℕ) → IsCertifyInput held words mesh first second → IsWithinLimits mesh first second
      → PrintsList mesh first second status text ⊎ PrintsDenial mesh first second status text

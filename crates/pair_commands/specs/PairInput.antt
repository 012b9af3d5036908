-- The check of a walk file whose walks come in pairs.
use Rattle.std.specs.Prelude.{◌≡◌, ℕ, ◌==◌, true, false, if◌then◌else◌, List, [], ◌∷◌, codes, decimal, Option, Ok}
use Rattle.surf_io.specs.Files.{Files}
use Rattle.surf_model.specs.FaceLists.{FaceList}
use Rattle.walk_files.specs.PairLists.{WalkPair, ArePairs, walks_in_pairs, pairs_fault}
use Rattle.walk_files.specs.WalkLists.{WalkText}
use Rattle.walk_files.specs.WalkTexts.{walk_text_of}
use Rattle.walk_files.specs.declared.pairs.PairsFault.{PairsFault}
use Rattle.walk_files.specs.declared.pairs.PairsFault.TheVariants.{NotPairs, NoVertex, NoEdge, EndsDiffer}
use Rattle.commands.specs.Answers.{Texts}
use Rattle.commands.specs.Checks.{Check, file, meant, pass_unless, ◌>>=◌}
use Rattle.commands.specs.Refusals.{numbers_line, told, told_at_place}
use Rattle.commands.specs.declared.refusal.Input.TheVariants as inputs

-- the bytes spell walks of the mesh that come in these pairs, each with common ends: one pair in version 1, and one or more in version 2
pub record SpellsPairs (mesh : FaceList) (pairs : List WalkPair) (bytes : List ℕ) : Type 0 where
  pub text : WalkText
  pub text_is : walk_text_of bytes ≡ Ok text
  pub are_pairs : ArePairs mesh text
  pub pairs_are : pairs ≡ walks_in_pairs text.walks

-- that two starts, or two ends, of a pair differ: the one pair of version 1 is told without a number
abbrev pub ends_line : ℕ → ℕ → List ℕ → Texts
ends_line version pair which = if version == 2 then told (codes "pair" ∷ decimal pair ∷ which ∷ []) else told (codes "walks" ∷ which ∷ [])

-- why the walks of a text of that version do not come in pairs
abbrev pub pairs_line : ℕ → PairsFault → Texts
pairs_line version (NotPairs count) = told (codes "walks count" ∷ decimal count ∷ [])
pairs_line version (NoVertex walk place) = told_at_place walk place (codes "vertex")
pairs_line version (NoEdge walk place) = told_at_place walk place (codes "edge")
pairs_line version (EndsDiffer pair true) = ends_line version pair (codes "start")
pairs_line version (EndsDiffer pair false) = ends_line version pair (codes "end")

-- the text passes whose walks come in pairs of walks of the mesh with common ends
abbrev pub come_in_pairs : FaceList → WalkText → Check WalkText
come_in_pairs mesh text = pass_unless (pairs_line text.version) (pairs_fault mesh text) text

-- the text that the file spells, whose walks come in pairs of walks of the mesh with common ends
abbrev pub pairs_in : Option Files → List ℕ → FaceList → Check WalkText
pairs_in held name mesh = do
  bytes ← file held name inputs.Walks
  text ← meant (numbers_line inputs.Walks) (walk_text_of bytes)
  pass_unless (pairs_line text.version) (pairs_fault mesh text) text

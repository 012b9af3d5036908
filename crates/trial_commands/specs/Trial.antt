-- The command `trial`: what `surface` and `decide` say of a chain of tori, and of its three pairs of walks.
use Rattle.std.specs.Prelude.{◌≡◌, ℕ, ◌↔◌, Bool, not, ◌&&◌, nat_le, if◌then◌else◌, List, [], ◌∷◌, ◌++◌, map, codes, decimal, Option, Some, None}
use Rattle.surf_model.specs.FaceLists.{FaceList}
use Rattle.surf_model.specs.Moves as moves
use Rattle.surf_model.specs.Surfaces.{IsSurface}
use Rattle.off_reader.specs.OffTexts.{meaning_of}
use Rattle.surf_gen.specs.Chains.{chain_mesh}
use Rattle.surf_gen.specs.ChainTexts.{chain_text}
use Rattle.surf_gen.specs.Sizes.{IsChainSize}
use Rattle.surf_gen.specs.TrialWalks.{first_walk, second_walk}
use Rattle.surf_gen.specs.declared.limits.TheConstants.{MOST_GENUS, LEAST_GRID, MOST_GRID}
use Rattle.surf_gen.specs.declared.walks.TrialPair.{TrialPair}
use Rattle.surf_gen.specs.declared.walks.TrialPair.TheVariants.{Commuting, Cell, Loops}
use Rattle.walk_files.specs.Pairs.{IsPair, pair_fault}
use Rattle.surf_model.specs.declared.decisions.Answer as deciding
use Rattle.surf_model.specs.declared.decisions.Answer.TheVariants.{Homotopic}
use Rattle.commands.specs.Answers.{Answer, yes_with}
use Rattle.commands.specs.Certificates.{decision_word}
use Rattle.commands.specs.Checks.{Check, End, Refuse, Pass, meant, pass, pass_unless, without_files, ◌>>=◌}
use Rattle.surf_model.specs.Walks.{walk_at}
use Rattle.commands.specs.Lines.{line, in_lines, refused}
use Rattle.commands.specs.Refusals.{off_line, pair_line, told}
use Rattle.surf_model.specs.Genera.{AreNumbersOf}
use Rattle.closed_surfaces.specs.ComponentGenera.{AreGeneraOf}
use Rattle.surface_commands.specs.Surface.{genus_line, numbers_of, genera_of}
use Rattle.surface_commands.specs.SurfaceInput.{as_surface, of_few_components}
use Rattle.commands.specs.Words.{IsNatural}
use Rattle.commands.specs.declared.status.Status.{Status}
use Rattle.commands.specs.declared.status.Status.TheVariants.{Yes, Refused}
use Rattle.surf_model.specs.declared.numbers.SurfaceNumbers.{SurfaceNumbers}
use Rattle.trial_commands.specs.declared.trial.Decisions.{Decisions}

-- the words are those of `trial`
abbrev pub IsTrialRow : List (List ℕ) → (genus grid : ℕ) → Type 0
IsTrialRow words genus grid =
    (digits others : List ℕ) × (words ≡ codes "trial" ∷ digits ∷ others ∷ []) × IsNatural digits genus × IsNatural others grid

-- whether a number is within bounds
abbrev pub is_within : (least most n : ℕ) → Bool
is_within least most n = nat_le least n && nat_le n most

-- a genus that is out of bounds, and else a grid that is
abbrev pub size_fault : (genus grid : ℕ) → Option (List (List ℕ))
size_fault genus grid =
    if not (is_within 1 MOST_GENUS genus) then Some (codes "trial genus" ∷ decimal genus ∷ [])
    else if not (is_within LEAST_GRID MOST_GRID grid) then Some (codes "trial grid" ∷ decimal grid ∷ [])
    else None

-- the orientable closed surface that a text spells
abbrev pub surface_spelled : List ℕ → Check FaceList
surface_spelled text = do
  mesh ← meant off_line (meaning_of text)
  as_surface mesh

-- the decision on two walks of a mesh
abbrev pub decision_on : FaceList → (first second : List ℕ) → Check deciding.Answer
decision_on mesh first second = without_files ends
  where
    ends : End deciding.Answer → Type 0
    ends (Refuse texts) = ⊥
    ends (Pass decision) = (decision ≡ Homotopic) ↔ moves.Homotopic mesh first second

-- the two walks of a pair
abbrev pub pair_walks : ℕ → TrialPair → List (List ℕ)
pair_walks grid which = first_walk grid which ∷ second_walk grid which ∷ []

-- the decision on a pair
abbrev pub pair_decided : FaceList → ℕ → TrialPair → Check deciding.Answer
pair_decided mesh grid which = do
  pair ← pass_unless pair_line (pair_fault mesh (pair_walks grid which)) (pair_walks grid which)
  decision_on mesh (walk_at pair 0) (walk_at pair 1)

-- the decisions on the three pairs
abbrev pub pairs_decided : FaceList → ℕ → Check Decisions
pairs_decided mesh grid = do
  commuting ← pair_decided mesh grid Commuting
  cell ← pair_decided mesh grid Cell
  loops ← pair_decided mesh grid Loops
  pass (record { commuting = commuting; cell = cell; loops = loops })

-- the lines before the genus, and those behind it
abbrev pub first_lines : (genus grid : ℕ) → SurfaceNumbers → List (List ℕ)
first_lines genus grid numbers =
    line (codes "trial") (decimal genus ∷ decimal grid ∷ []) ∷ line (codes "V") (decimal numbers.vertices ∷ [])
    ∷ line (codes "E") (decimal numbers.edges ∷ []) ∷ line (codes "F") (decimal numbers.faces ∷ []) ∷ []

abbrev pub last_lines : Decisions → List (List ℕ)
last_lines decisions =
    line (codes "commuting") (decision_word decisions.commuting ∷ []) ∷ line (codes "cell") (decision_word decisions.cell ∷ [])
    ∷ line (codes "loops") (decision_word decisions.loops ∷ []) ∷ []

-- all lines: eight, since a connected surface has one genus
abbrev pub trial_text : (genus grid : ℕ) → SurfaceNumbers → (genera : List ℕ) → Decisions → List ℕ
trial_text genus grid numbers genera decisions =
    in_lines ((first_lines genus grid numbers ++ map genus_line genera) ++ last_lines decisions)

-- the decision on a pair of walks on a mesh is right
abbrev pub IsRightOn : FaceList → ℕ → TrialPair → deciding.Answer → Type 0
IsRightOn mesh grid which decision = (decision ≡ Homotopic) ↔ moves.Homotopic mesh (first_walk grid which) (second_walk grid which)

pub record AreTrialDecisions (mesh : FaceList) (grid : ℕ) (decisions : Decisions) : Type 0 where
  pub commuting : IsRightOn mesh grid Commuting decisions.commuting
  pub cell : IsRightOn mesh grid Cell decisions.cell
  pub loops : IsRightOn mesh grid Loops decisions.loops

-- What `trial` answers. A genus that is out of bounds is refused by name, and else a grid that is. Within bounds there are the eight
-- lines, where the chain is a connected orientable closed surface and the walks of each pair are two walks of it with common ends: its
-- numbers, and for each pair whether some list of moves leads from its first walk to its second.
pub record IsTried (words : List (List ℕ)) (status : Status) (text : List ℕ) : Type 0 where
  pub out_of_bounds : (genus grid : ℕ) (phrases : List (List ℕ)) → IsTrialRow words genus grid → size_fault genus grid ≡ Some phrases
      → (status ≡ Refused) × (text ≡ refused phrases)
  pub within_bounds : (genus grid : ℕ) → IsTrialRow words genus grid → IsChainSize genus grid → IsSurface (chain_mesh genus grid)
      → ((which : TrialPair) → IsPair (chain_mesh genus grid) (pair_walks grid which))
      → (status ≡ Yes) × (numbers : SurfaceNumbers) × AreNumbersOf (chain_mesh genus grid) numbers
      × (genera : List ℕ) × AreGeneraOf (chain_mesh genus grid) genera
      × (decisions : Decisions) × AreTrialDecisions (chain_mesh genus grid) grid decisions
      × (text ≡ trial_text genus grid numbers genera decisions)

-- what is looked at, in order, and then the eight lines; a chain in several pieces, of which there is none, would be refused as such
abbrev pub trial : (genus grid : ℕ) → Check Answer
trial genus grid = do
  allowed ← pass_unless told (size_fault genus grid) genus
  mesh ← surface_spelled (chain_text genus grid)
  connected ← of_few_components 1 mesh
  numbers ← numbers_of connected
  genera ← genera_of connected
  decisions ← pairs_decided connected grid
  pass (yes_with (trial_text genus grid numbers genera decisions))

-- What a certificate shows, and how it is written.
use Rattle.std.specs.Prelude.{ℕ, ◌≤◌, List, [], ◌∷◌, ◌++◌, length, slice_index, flat_map, codes}
use Rattle.surf_model.specs.FaceLists.{FaceList}
use Rattle.surf_model.specs.PeakedLists.{LeadsAtPeak}
use Rattle.labellings.specs.Denials.{DenialHolds}
use Rattle.walk_files.specs.DenialTexts.{denial_text}
use Rattle.walk_files.specs.MoveTexts.{list_text}
use Rattle.surf_model.specs.declared.decisions.Answer as deciding
use Rattle.surf_model.specs.declared.decisions.Answer.TheVariants.{Homotopic, Different}
use Rattle.surf_model.specs.Genera.{LiesOnSphere}
use Rattle.commands.specs.Lines.{line}
use Rattle.commands.specs.declared.certificate.Certificate.{Certificate}
use Rattle.commands.specs.declared.certificate.Certificate.TheVariants.{Moves, Denial}
use Rattle.commands.specs.declared.certificate.TheConstants.{MOST_SHOWN_PEAK, MOST_SPHERE_MOVES}
use Rattle.commands.specs.declared.status.Status.{Status}
use Rattle.commands.specs.declared.status.Status.TheVariants.{Yes, No}

-- The certificate shows what holds of the two walks: its moves lead from the first to the second, and its peak is the greatest number
-- of darts among the walks that they pass; or it is a denial that holds.
abbrev pub Convinces : FaceList → (first second : List ℕ) → Certificate → Type 0
Convinces mesh first second (Moves list) = LeadsAtPeak mesh first list second
Convinces mesh first second (Denial denial) = DenialHolds mesh first second denial

-- the peak of a list of moves is low, and so one that is read
abbrev pub IsPeakLow : Certificate → Type 0
IsPeakLow (Moves list) = list.peak ≤ MOST_SHOWN_PEAK
IsPeakLow (Denial denial) = Unit {0}

-- For walks on a sphere it is a list, of no more moves than this; no denial is for them.
abbrev pub IsShortOnSphere : FaceList → (first : List ℕ) → Certificate → Type 0
IsShortOnSphere mesh first (Moves list) = LiesOnSphere mesh (slice_index first 0) → length list.moves ≤ MOST_SPHERE_MOVES
IsShortOnSphere mesh first (Denial denial) = LiesOnSphere mesh (slice_index first 0) → ⊥

-- the certificate convinces, no peak stands in the way of its reader, and on a sphere it is short
abbrev pub IsShown : FaceList → (first second : List ℕ) → Certificate → Type 0
IsShown mesh first second shown = Convinces mesh first second shown × IsPeakLow shown × IsShortOnSphere mesh first shown

-- the decision that it is for
abbrev pub decision_of : Certificate → deciding.Answer
decision_of (Moves list) = Homotopic
decision_of (Denial denial) = Different

-- yes where the walks are homotopic
abbrev pub decision_status : deciding.Answer → Status
decision_status Homotopic = Yes
decision_status Different = No

-- the word of a decision, and its line
abbrev pub decision_word : deciding.Answer → List ℕ
decision_word Homotopic = codes "homotopic"
decision_word Different = codes "different"

abbrev pub decision_line : deciding.Answer → List ℕ
decision_line decision = line (decision_word decision) []

-- a line for each of several decisions, and yes where the walks of each pair are homotopic
abbrev pub decision_lines : List deciding.Answer → List ℕ
decision_lines decisions = flat_map decision_line decisions

abbrev pub decisions_status : List deciding.Answer → Status
decisions_status [] = Yes
decisions_status (Homotopic ∷ decisions) = decisions_status decisions
decisions_status (Different ∷ decisions) = No

-- a certificate behind the line of the decision that it is for
abbrev pub certificate_text : Certificate → List ℕ
certificate_text (Moves list) = decision_line Homotopic ++ list_text list
certificate_text (Denial denial) = decision_line Different ++ denial_text denial

-- What stops a command, and what a call that reads did.
use Rattle.std.specs.Prelude.{◌≡◌, ℕ, List, Option, Result, Err, MatchResult}
use Rattle.surf_io.specs.Calls.{OnlyReads}
use Rattle.surf_io.specs.Faults.{Rose}
use Rattle.surf_io.specs.Files.{Files}
use Rattle.walk_files.specs.declared.stream_end.StreamEnd.{StreamEnd}
use Rattle.walk_files.specs.declared.stream_end.StreamEnd.TheVariants as streams
use Rattle.commands.specs.Answers.{Texts, NoText, IsText}
use Rattle.commands.specs.Certificates.{certificate_text, decision_lines}
use Rattle.commands.specs.Checks.{Check, Refuse, Passes}
use Rattle.commands.specs.HomologyCertificates.{homology_text}
use Rattle.commands.specs.Lines.{in_lines, odd_chain_line}
use Rattle.commands.specs.WordTexts.{words_text}
use Rattle.commands.specs.Refusals.{certificate_line, too_large}
use Rattle.commands.specs.declared.refusal.Input.TheVariants as inputs
use Rattle.commands.specs.declared.stop.Stop.{Stop}
use Rattle.commands.specs.declared.stop.Stop.TheVariants.{Refused, ReadFault, OutOfMemory}
use Rattle.commands.specs.declared.text.Text.{Text}
use Rattle.commands.specs.declared.text.Text.TheVariants.{Line, Lines, OddChain, Certificate, Words, Decisions, Homology}

-- the bytes of what is to be written
abbrev pub bytes_of : Text → List ℕ
bytes_of (Line line) = line
bytes_of (Lines lines) = in_lines lines.items
bytes_of (OddChain chain) = odd_chain_line chain
bytes_of (Certificate shown) = certificate_text shown
bytes_of (Words words) = words_text words.items
bytes_of (Decisions decisions) = decision_lines decisions.items
bytes_of (Homology shown) = homology_text shown

-- what stops a command tells a fault that has these texts: it is refused by one of them; or memory is wanting, where there is none
abbrev pub Tells : Texts → Stop → Type 0
Tells texts (Refused text) = IsText texts (bytes_of text)
Tells texts ReadFault = ⊥
Tells texts OutOfMemory = texts ≡ NoText

-- the check may end with the refusal; a read fault and want of memory say nothing of a check
abbrev pub Stops : {T : Type 0} → Check T → Stop → Type 0
Stops check (Refused text) = (texts : Texts) × check.Ends (Refuse texts) × IsText texts (bytes_of text)
Stops check ReadFault = Unit {0}
Stops check OutOfMemory = Unit {0}

-- what stops a command where a certificate is not read on
abbrev pub StopsReading : StreamEnd → Stop → Type 0
StopsReading streams.Fault stop = stop ≡ ReadFault
StopsReading streams.TooLarge stop = Tells (too_large inputs.Certificate) stop
StopsReading (streams.Cert fault) stop = Tells (certificate_line fault) stop
StopsReading streams.OutOfMemory stop = stop ≡ OutOfMemory

-- what was made is a thing that the check may pass, or what stopped stops the check
abbrev pub Ends : {T : Type 0} → Check T → Result T Stop → Type 0
Ends check result = MatchResult result (Passes check) (Stops check)

-- A call that reads ended so, where the files are these; a read fault is told only where the count of faults rose; and the shelf was only
-- read. `held` and `faults` are what the shelf tells.
pub record EndsReading {X V : Type 0} (held : X → Option Files) (faults : X → ℕ) (old new : X) (IsEnd : Option Files → Type 0)
    (result : Result V Stop) : Type 0 where
  pub end : IsEnd (held old)
  pub fault : result ≡ Err ReadFault → Rose (faults old) (faults new)
  pub only_reads : OnlyReads held faults old new

-- Why an input is refused: the line for each fault. A fault that stands for want of memory has none.
use Rattle.std.specs.Prelude.{ℕ, true, false, List, ◌∷◌, codes, decimal, []}
use Rattle.off_reader.specs.declared.off_fault.OffFault.{OffFault}
use Rattle.off_reader.specs.declared.off_fault.OffFault.TheVariants as off
use Rattle.walk_files.specs.declared.fault.CertFault.{CertFault}
use Rattle.walk_files.specs.declared.fault.CertFault.TheVariants as certificates
use Rattle.walk_files.specs.declared.fault.WalkFault.{WalkFault}
use Rattle.walk_files.specs.declared.fault.WalkFault.TheVariants as walks
use Rattle.walk_files.specs.declared.pair.PairFault.{PairFault}
use Rattle.walk_files.specs.declared.pair.PairFault.TheVariants.{NotTwo, NoVertex, NoEdge, EndsDiffer}
use Rattle.commands.specs.Answers.{Texts, NoText, Exactly}
use Rattle.commands.specs.Lines.{refused}
use Rattle.commands.specs.declared.refusal.Input.{Input}
use Rattle.commands.specs.declared.refusal.Input.TheVariants as inputs

-- what these phrases tell
abbrev pub told : List (List ℕ) → Texts
told phrases = Exactly (refused phrases)

-- a cause in a line of a file
abbrev pub told_at : List ℕ → ℕ → List ℕ → Texts
told_at what number cause = told (what ∷ codes "line" ∷ decimal number ∷ cause ∷ [])

-- a cause at a place of a walk
abbrev pub told_at_place : ℕ → ℕ → List ℕ → Texts
told_at_place walk place cause = told (codes "walk" ∷ decimal walk ∷ codes "place" ∷ decimal place ∷ cause ∷ [])

-- words that are no command
abbrev pub wrong_words : Texts
wrong_words = told (codes "words" ∷ [])

-- what a line calls the file
abbrev pub input_name : Input → List ℕ
input_name inputs.Mesh = codes "off"
input_name inputs.Walks = codes "walks"
input_name inputs.Certificate = codes "certificate"
input_name inputs.TurnWords = codes "list"

-- a file that has too many bytes
abbrev pub too_large : Input → Texts
too_large input = told (input_name input ∷ codes "too large" ∷ [])

-- the fault of a mesh text
abbrev pub off_line : OffFault → Texts
off_line off.NoCounts = told (codes "off no counts" ∷ [])
off_line (off.BadCounts number) = told_at (codes "off") number (codes "counts")
off_line (off.UnreadForm number) = told_at (codes "off") number (codes "form")
off_line (off.BadVertex number) = told_at (codes "off") number (codes "vertex")
off_line (off.Ended number) = told_at (codes "off") number (codes "ended")
off_line (off.BadFace number) = told_at (codes "off") number (codes "face")
off_line (off.IndexRange number) = told_at (codes "off") number (codes "index")
off_line (off.EqualNeighbours number) = told_at (codes "off") number (codes "neighbours")
off_line (off.TooMany number) = told_at (codes "off") number (codes "many")
off_line off.OutOfMemory = NoText

-- the fault of a text of which each line is a list of numbers
abbrev pub numbers_line : Input → WalkFault → Texts
numbers_line input (walks.BadNumber number) = told_at (input_name input) number (codes "number")
numbers_line input (walks.TooLong number) = told_at (input_name input) number (codes "long")
numbers_line input (walks.TooMany number) = told_at (input_name input) number (codes "many")
numbers_line input (walks.BadGroup number) = told_at (input_name input) number (codes "group")
numbers_line input walks.OutOfMemory = NoText

-- why walks are not two walks of the mesh with common ends
abbrev pub pair_line : PairFault → Texts
pair_line (NotTwo count) = told (codes "walks count" ∷ decimal count ∷ [])
pair_line (NoVertex walk place) = told_at_place walk place (codes "vertex")
pair_line (NoEdge walk place) = told_at_place walk place (codes "edge")
pair_line (EndsDiffer true) = told (codes "walks start" ∷ [])
pair_line (EndsDiffer false) = told (codes "walks end" ∷ [])

-- the fault of a certificate
abbrev pub certificate_line : CertFault → Texts
certificate_line certificates.NoHead = told (codes "certificate no head" ∷ [])
certificate_line (certificates.Bad number) = told_at (codes "certificate") number (codes "bad")
certificate_line (certificates.Ended number) = told_at (codes "certificate") number (codes "ended")
certificate_line (certificates.Extra number) = told_at (codes "certificate") number (codes "extra")
certificate_line (certificates.Peak number) = told_at (codes "certificate") number (codes "peak")
certificate_line certificates.OutOfMemory = NoText

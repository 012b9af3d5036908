-- How the turn words of a list are canonised, line by line.
use Rattle.std.specs.Prelude.{◌≡◌, ℕ, List, Option, Some, None, Result, Ok, Err}
use Rattle.walk_files.specs.NumberLists.{NumberLine}
use Rattle.walk_files.specs.declared.fault.WalkFault.{WalkFault}
use Rattle.reduce_commands.specs.Reduce.{AreCanonicalOf, entries_on, range_fault, range_line}
use Rattle.commands.specs.Refusals.{numbers_line}
use Rattle.commands.specs.Stops.{Tells}
use Rattle.commands.specs.declared.refusal.Input.TheVariants.{TurnWords}
use Rattle.commands.specs.declared.stop.Stop.{Stop}

-- of these lines, the canonical words; or the number of the first line that is out of range
abbrev pub IsSoFar : ℕ → List NumberLine → List (List ℕ) → Option ℕ → Type 0
IsSoFar degree lines words None = (range_fault degree lines ≡ None) × AreCanonicalOf degree (entries_on lines) words
IsSoFar degree lines words (Some number) = range_fault degree lines ≡ Some number

-- a text means a list of turn words over the degree, and these are their canonical words
abbrev pub AreCanonised : ℕ → Result (List NumberLine) WalkFault → List (List ℕ) → Type 0
AreCanonised degree (Err fault) words = ⊥
AreCanonised degree (Ok lines) words = (range_fault degree lines ≡ None) × AreCanonicalOf degree (entries_on lines) words

-- a text means no such list, and this tells why: its first fault, or else the first line that is out of range
abbrev pub IsNotCanonised : ℕ → Result (List NumberLine) WalkFault → Stop → Type 0
IsNotCanonised degree (Err fault) stop = Tells (numbers_line TurnWords fault) stop
IsNotCanonised degree (Ok lines) stop = (number : ℕ) × (range_fault degree lines ≡ Some number) × Tells (range_line number) stop

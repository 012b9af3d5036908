-- The command `reduce`.
use Rattle.std.specs.Prelude.{◌≡◌, ℕ, ◌≤◌, ◌↔◌, Ok, nat_lt, if◌then◌else◌, List, [], ◌∷◌, map, codes, decimal, All, Option, Some, None}
use Rattle.std.specs.List.{list_all, AllZip}
use Rattle.surf_io.specs.Files.{Files}
use Rattle.turn_words.specs.Canonical.{IsTurnWord, IsCanonicalOf}
use Rattle.walk_files.specs.NumberLists.{NumberLine}
use Rattle.walk_files.specs.NumberTexts.{words_of}
use Rattle.commands.specs.Answers.{Answer, Texts, yes_with}
use Rattle.commands.specs.Checks.{Check, End, Refuse, Pass, Holds, IsTold, file, meant, pass, pass_unless, without_files, ◌>>=◌}
use Rattle.commands.specs.Refusals.{told, told_at, numbers_line}
use Rattle.commands.specs.WordTexts.{words_text}
use Rattle.commands.specs.Words.{IsNatural}
use Rattle.reduce_commands.specs.declared.reduce.TheConstants.{LEAST_DEGREE}
use Rattle.commands.specs.declared.refusal.Input.TheVariants as inputs
use Rattle.commands.specs.declared.status.Status.{Status}
use Rattle.commands.specs.declared.status.Status.TheVariants.{Yes}

-- the words are those of `reduce`, with this degree and the name of this file
abbrev pub IsReduceRow : List (List ℕ) → ℕ → List ℕ → Type 0
IsReduceRow words degree list = (digits : List ℕ) × (words ≡ codes "reduce" ∷ digits ∷ list ∷ []) × IsNatural digits degree

-- the entries on each line
abbrev pub entries_on : List NumberLine → List (List ℕ)
entries_on lines = map (λ line. line.numbers) lines

-- the bytes spell these turn words over the degree, one on each line
pub record SpellsTurnWords (degree : ℕ) (turns : List (List ℕ)) (bytes : List ℕ) : Type 0 where
  pub lines : List NumberLine
  pub text : words_of bytes ≡ Ok lines
  pub entries : turns ≡ entries_on lines
  pub in_range : All (IsTurnWord degree) turns

-- the degree is not too small, and the file that is named is told and spells these turn words over it
pub record IsReduceInput (held : Option Files) (degree : ℕ) (name : List ℕ) (turns : List (List ℕ)) : Type 0 where
  pub least : LEAST_DEGREE ≤ degree
  pub list_file : Holds held name (SpellsTurnWords degree turns)

-- one after another, these are the canonical words that the turn words reach
abbrev pub AreCanonicalOf : ℕ → List (List ℕ) → List (List ℕ) → Type 0
AreCanonicalOf degree turns canonical = AllZip (IsCanonicalOf degree) turns canonical

-- What `reduce` answers, where its file is told: with status 0 exactly where the degree and the list are in order; and
-- then the text has a line for each turn word, the one of the canonical word that it reaches. A canonical word is there,
-- and is the only one, so that there is one such text.
pub record IsReduced (held : Option Files) (words : List (List ℕ)) (status : Status) (text : List ℕ) : Type 0 where
  pub yes : (degree : ℕ) (name : List ℕ) → IsReduceRow words degree name → IsTold held name
      → (status ≡ Yes) ↔ ((turns : List (List ℕ)) × IsReduceInput held degree name turns)
  pub lines : (degree : ℕ) (name : List ℕ) (turns canonical : List (List ℕ)) → IsReduceRow words degree name
      → IsReduceInput held degree name turns → AreCanonicalOf degree turns canonical → text ≡ words_text canonical

-- ---- what is looked at, in order

-- the refusals of a degree, and of an entry on a line
abbrev pub degree_line : ℕ → Texts
degree_line degree = told (codes "degree" ∷ decimal degree ∷ [])

abbrev pub range_line : ℕ → Texts
range_line number = told_at (codes "list") number (codes "range")

-- a degree that is too small
abbrev pub degree_fault : ℕ → Option ℕ
degree_fault degree = if nat_lt degree LEAST_DEGREE then Some degree else None

-- the lines of numbers that the file spells
abbrev pub lines_in : Option Files → List ℕ → Check (List NumberLine)
lines_in held name = do
  bytes ← file held name inputs.TurnWords
  meant (numbers_line inputs.TurnWords) (words_of bytes)

-- the number of the first line with an entry that is not below the degree
abbrev pub range_fault : ℕ → List NumberLine → Option ℕ
range_fault degree [] = None
range_fault degree (line ∷ lines) =
    if list_all (λ entry. nat_lt entry degree) line.numbers then range_fault degree lines else Some line.line

-- the canonical words that the turn words reach
abbrev pub canonical_words : ℕ → List (List ℕ) → Check (List (List ℕ))
canonical_words degree turns = without_files ends
  where
    ends : End (List (List ℕ)) → Type 0
    ends (Refuse texts) = ⊥
    ends (Pass canonical) = AreCanonicalOf degree turns canonical

abbrev pub reduce : Option Files → (degree : ℕ) (list : List ℕ) → Check Answer
reduce held degree list = do
  allowed ← pass_unless degree_line (degree_fault degree) degree
  lines ← lines_in held list
  turns ← pass_unless range_line (range_fault degree lines) (entries_on lines)
  canonical ← canonical_words degree turns
  pass (yes_with (words_text canonical))

-- Walk texts of both versions. In version 1 each line is a walk. Version 2 has the header `WALKS 2`; its walks form pairs in order, and a
-- group in parentheses, which leads back to the vertex where it begins, stands as often as the power behind it says.
use Rattle.std.specs.Prelude.{ℕ, zero, suc, ◌+◌, ◌==◌, ◌&&◌, ◌||◌, nat_lt, nat_le, Bool, false, if◌then◌else◌, List, [], ◌∷◌, ◌++◌, length, drop, codes, Option, Some, None, option_map, Result, Ok, Err}
use Rattle.std.specs.List.{sum_by}
use Rattle.std.specs.Option.{ok_or}
use Rattle.std.specs.Str.{bytes_eq}
use Rattle.surf_model.specs.Walks.{darts}
use Rattle.text_scan.specs.Each.{each_some}
use Rattle.text_scan.specs.Lines.{Line, full_lines}
use Rattle.text_scan.specs.Numbers.{number_of}
use Rattle.text_scan.specs.Unread.{are_words}
use Rattle.walk_files.specs.NumberTexts.{plain_walks_of}
use Rattle.walk_files.specs.WalkLists.{WalkText}
use Rattle.walk_files.specs.declared.fault.WalkFault.{WalkFault}
use Rattle.walk_files.specs.declared.fault.WalkFault.TheVariants.{BadNumber, TooLong, TooMany, BadGroup}
use Rattle.walk_files.specs.declared.limits.TheConstants.{MOST_LINES, MOST_POWER, MOST_WALK_DARTS, MOST_DARTS}
use Rattle.walk_files.specs.declared.tokens.Token.{Token}
use Rattle.walk_files.specs.declared.tokens.Token.TheVariants.{Open, Close, Number}

-- ---- a walk line of version 2

-- the token that a word is
abbrev pub token_of : List ℕ → Option Token
token_of word =
    if bytes_eq word (codes "(") then Some Open
    else if bytes_eq word (codes ")") then Some Close
    else option_map Number (number_of word)

-- these numbers, so often
abbrev pub times : ℕ → List ℕ → List ℕ
times zero numbers = []
times (suc power) numbers = numbers ++ times power numbers

-- the numbers have a last one, and it is the vertex
abbrev pub ends_at : ℕ → List ℕ → Bool
ends_at vertex [] = false
ends_at vertex (last ∷ []) = last == vertex
ends_at vertex (number ∷ next ∷ numbers) = ends_at vertex (next ∷ numbers)

-- The vertices that the tokens behind a vertex stand for. Where a group is open, it has these numbers so far; it ends at the vertex where
-- it began, and its power follows. Nothing where the tokens are not of this form.
abbrev pub behind_vertex : ℕ → Option (List ℕ) → List Token → Option (List ℕ)
behind_vertex vertex None [] = Some []
behind_vertex vertex None (Number next ∷ tokens) = option_map (λ rest. next ∷ rest) (behind_vertex next None tokens)
behind_vertex vertex None (Open ∷ tokens) = behind_vertex vertex (Some []) tokens
behind_vertex vertex (Some group) (Number next ∷ tokens) = behind_vertex vertex (Some (group ++ next ∷ [])) tokens
behind_vertex vertex (Some group) (Close ∷ Number power ∷ tokens) =
    if ends_at vertex group && nat_le power MOST_POWER
    then option_map (λ rest. times power group ++ rest) (behind_vertex vertex None tokens)
    else None
behind_vertex vertex group tokens = None

-- the walk that tokens stand for, if they are those of a walk line: a number first
abbrev pub written_out : List Token → Option (List ℕ)
written_out (Number first ∷ tokens) = option_map (λ rest. first ∷ rest) (behind_vertex first None tokens)
written_out tokens = None

-- what is read of the words of a line, or the fault of the line: a word that is no token comes before all else
abbrev pub read_tokens : (List Token → Option (List ℕ)) → ℕ → Option (List Token) → Result (List ℕ) WalkFault
read_tokens meaning line None = Err (BadNumber line)
read_tokens meaning line (Some tokens) = ok_or (meaning tokens) (BadGroup line)

-- the walk, where it and the walks before, which have so many darts, are not too long
abbrev pub within_limits : ℕ → ℕ → Result (List ℕ) WalkFault → Result (List ℕ) WalkFault
within_limits line total (Err fault) = Err fault
within_limits line total (Ok walk) =
    if nat_lt MOST_WALK_DARTS (darts walk) || nat_lt MOST_DARTS (total + darts walk) then Err (TooLong line) else Ok walk

-- the walk of a line before which so many walks, which have so many darts together, came; or its fault
abbrev pub walk_of_line : ℕ → ℕ → Line → Result (List ℕ) WalkFault
walk_of_line before total line =
    if nat_le MOST_LINES before then Err (TooMany line.number)
    else within_limits line.number total (read_tokens written_out line.number (each_some token_of line.words))

-- the walks of these lines behind those, or the first fault
abbrev pub walks_behind : List (List ℕ) → List Line → Result (List (List ℕ)) WalkFault
walks_behind walks [] = Ok walks
walks_behind walks (line ∷ lines) =
    go (walk_of_line (length walks) (sum_by darts walks) line) (λ walk. walks_behind (walks ++ walk ∷ []) lines)
  where
    go : Result (List ℕ) WalkFault → (List ℕ → Result (List (List ℕ)) WalkFault) → Result (List (List ℕ)) WalkFault
    go (Err fault) next = Err fault
    go (Ok walk) next = next walk

-- ---- a whole text

-- whether the first of these lines is the header of version 2
abbrev pub has_header : List Line → Bool
has_header [] = false
has_header (line ∷ lines) = are_words line.words (codes "WALKS" ∷ codes "2" ∷ [])

-- walks of that version
abbrev pub in_version : ℕ → Result (List (List ℕ)) WalkFault → Result WalkText WalkFault
in_version version (Err fault) = Err fault
in_version version (Ok walks) = Ok (record { version = version; walks = walks })

-- what the lines of a text stand for
abbrev pub walk_text_of_lines : List Line → Result WalkText WalkFault
walk_text_of_lines lines =
    if has_header lines then in_version 2 (walks_behind [] (drop 1 lines)) else in_version 1 (plain_walks_of lines)

-- what a walk text stands for, or its first fault
abbrev pub walk_text_of : List ℕ → Result WalkText WalkFault
walk_text_of text = walk_text_of_lines (full_lines text)

-- the walks of a text alone
abbrev pub walks_in : Result WalkText WalkFault → Result (List (List ℕ)) WalkFault
walks_in (Err fault) = Err fault
walks_in (Ok text) = Ok text.walks

-- the walks of a text of either version, or its first fault
abbrev pub walks_of : List ℕ → Result (List (List ℕ)) WalkFault
walks_of text = walks_in (walk_text_of text)

-- Certificates: the head, and the moves behind it.
use Rattle.std.specs.Prelude.{ℕ, ◌≤◌, ◌-◌, ◌^◌, Bool, true, false, ◌==◌, nat_lt, if◌then◌else◌, List, [], ◌∷◌, drop, codes, Option, Some, None, Result, Ok, Err, is_some, option_map}
use Rattle.std.specs.Option.{ok_or}
use Rattle.std.specs.Str.{bytes_eq}
use Rattle.text_scan.specs.Lines.{Line, full_lines, end_line}
use Rattle.text_scan.specs.Numbers.{number_of, number_below}
use Rattle.text_scan.specs.Each.{ok_first, ◌>>=◌}
use Rattle.surf_model.specs.Moves.{PeakedMoves}
use Rattle.surf_model.specs.declared.names.VertexName.{VertexName}
use Rattle.surf_model.specs.declared.moves.Move.{Move}
use Rattle.surf_model.specs.declared.moves.Move.TheVariants.{Insert, Remove, Across}
use Rattle.walk_files.specs.declared.limits.TheConstants.{MOST_PEAK}
use Rattle.walk_files.specs.declared.fault.CertFault.{CertFault}
use Rattle.walk_files.specs.declared.fault.CertFault.TheVariants.{NoHead, Bad, Ended, Extra, Peak}
use Rattle.walk_files.specs.declared.certificate.CertHead.{CertHead}
use Rattle.walk_files.specs.declared.certificate.CertHead.TheVariants.{Moves, Labels}
use Rattle.walk_files.specs.declared.certificate.Answer.{Answer}
use Rattle.walk_files.specs.declared.certificate.Answer.TheVariants.{Homotopic, Different}

-- what is read where the word is this one
abbrev pub where_word : {A : Type 0} → List ℕ → List ℕ → Option A → Option A
where_word wanted word read = if bytes_eq word wanted then read else None

-- the head that the words of a line are
abbrev pub cert_head_of : List (List ℕ) → Option CertHead
cert_head_of (keyword ∷ count ∷ peak ∷ []) = where_word (codes "MOVES") keyword (do
  n ← number_below (2 ^ 64) count
  p ← number_of peak
  Some (Moves n p))
cert_head_of (keyword ∷ degree ∷ []) = where_word (codes "LABELS") keyword (option_map Labels (number_of degree))
cert_head_of words = None

-- the answer that a word is
abbrev pub answer_word : List ℕ → Option Answer
answer_word word =
    if bytes_eq word (codes "homotopic") then Some Homotopic else if bytes_eq word (codes "different") then Some Different else None

-- the answer that a line is, which is one word alone
abbrev pub answer_alone : List (List ℕ) → Option Answer
answer_alone (word ∷ []) = answer_word word
answer_alone words = None

-- whether a head may stand behind an answer, if there is one: a list of moves behind `homotopic`, labels behind `different`
abbrev pub fits : Option Answer → CertHead → Bool
fits None head = true
fits (Some Homotopic) (Moves count peak) = true
fits (Some Homotopic) (Labels degree) = false
fits (Some Different) (Moves count peak) = false
fits (Some Different) (Labels degree) = true

-- the head, where its peak is within the limit
abbrev pub within_peak : ℕ → CertHead → Result CertHead CertFault
within_peak line (Moves count peak) = if nat_lt MOST_PEAK peak then Err (Peak line) else Ok (Moves count peak)
within_peak line (Labels degree) = Ok (Labels degree)

-- its peak is within the limit
abbrev pub IsWithinPeak : CertHead → Type 0
IsWithinPeak (Moves count peak) = peak ≤ MOST_PEAK
IsWithinPeak (Labels degree) = Unit {0}

-- the head, where it may stand behind the answer and its peak is within the limit
abbrev pub fitting_head : Option Answer → ℕ → Option CertHead → Result CertHead CertFault
fitting_head answer line None = Err (Bad line)
fitting_head answer line (Some head) = if fits answer head then within_peak line head else Err (Bad line)

-- the head that a line is, behind an answer or not
abbrev pub head_in : Option Answer → Line → Result CertHead CertFault
head_in answer line = fitting_head answer line.number (cert_head_of line.words)

-- the head on the first of these lines; `end` is the line where the text ends
abbrev pub first_head : Option Answer → ℕ → List Line → Result CertHead CertFault
first_head answer end [] = Err (Ended end)
first_head answer end (line ∷ lines) = head_in answer line

-- the head of a text of these lines: it stands first, or behind a line that is an answer
abbrev pub head_among : ℕ → List Line → Result CertHead CertFault
head_among end [] = Err NoHead
head_among end (line ∷ lines) =
    if is_some (answer_alone line.words) then first_head (answer_alone line.words) end lines else head_in None line

-- the lines behind the head
abbrev pub behind_head : List Line → List Line
behind_head [] = []
behind_head (line ∷ lines) = if is_some (answer_alone line.words) then drop 1 lines else lines

-- the head of a text
abbrev pub head_of_text : List ℕ → Result CertHead CertFault
head_of_text text = head_among (end_line text) (full_lines text)

-- the direction that a word is: forward or backward
abbrev pub direction_of : List ℕ → Option Bool
direction_of word = if bytes_eq word (codes "+") then Some true else if bytes_eq word (codes "-") then Some false else None

-- the place and the vertex of a spur
abbrev pub spur_of : List (List ℕ) → Option (ℕ × VertexName)
spur_of (at ∷ via ∷ []) = do
  a ← number_of at
  v ← number_of via
  Some (a, record { 0 = v })
spur_of words = None

-- a move across a face
abbrev pub across_of : List (List ℕ) → Option Move
across_of (at ∷ face ∷ corner ∷ direction ∷ taken ∷ []) = do
  a ← number_of at
  f ← number_of face
  c ← number_of corner
  forward ← direction_of direction
  t ← number_of taken
  Some (Across a (record { 0 = f }) c forward t)
across_of words = None

-- the move that the words of a line are
abbrev pub move_of : List (List ℕ) → Option Move
move_of [] = None
move_of (word ∷ words) =
    if bytes_eq word (codes "+") then option_map (λ spur. Insert spur.0 spur.1) (spur_of words)
    else if bytes_eq word (codes "-") then option_map (λ spur. Remove spur.0 spur.1) (spur_of words)
    else if bytes_eq word (codes "f") then across_of words
    else None

-- the moves that lines are, where `left` are still to come; `end` is the line where the text ends
abbrev pub moves_in : ℕ → ℕ → List Line → Result (List Move) CertFault
moves_in end left [] = if left == 0 then Ok [] else Err (Ended end)
moves_in end left (line ∷ lines) =
    if left == 0 then Err (Extra line.number) else ok_first (ok_or (move_of line.words) (Bad line.number)) (moves_in end (left - 1) lines)

-- the moves of a text whose head says how many there are, or the first fault of the lines behind the head
abbrev pub moves_of_text : ℕ → List ℕ → Result (List Move) CertFault
moves_of_text count text = moves_in (end_line text) count (behind_head (full_lines text))

-- a list of moves with its peak
abbrev pub with_peak : ℕ → Result (List Move) CertFault → Result PeakedMoves CertFault
with_peak peak (Err fault) = Err fault
with_peak peak (Ok moves) = Ok (record { moves = moves; peak = peak })

-- the list behind a head; nothing behind the head of a labelling
abbrev pub list_behind : Result CertHead CertFault → List ℕ → Option (Result PeakedMoves CertFault)
list_behind (Err fault) text = Some (Err fault)
list_behind (Ok (Moves count peak)) text = Some (with_peak peak (moves_of_text count text))
list_behind (Ok (Labels degree)) text = None

-- the list of moves that a text is, or its first fault; nothing where it has the head of a labelling
abbrev pub list_of_text : List ℕ → Option (Result PeakedMoves CertFault)
list_of_text text = list_behind (head_of_text text) text

-- A reader of a certificate, which gives its moves one by one, or its denial.
use Rattle.std.specs.Prelude.{◌≡◌, ℕ, Bool, true, false, not, ◌+◌, ◌-◌, ◌==◌, if◌then◌else◌, List, [], ◌∷◌, drop, Option, Some, None, Result, Ok, Err, option_map}
use Rattle.std.specs.Option.{ok_or}
use Rattle.text_scan.specs.Lines.{Line, full_lines, end_line}
use Rattle.text_scan.specs.Unread.{Unread, lines_left}
use Rattle.surf_model.specs.declared.moves.Move.{Move}
use Rattle.labellings.specs.declared.denial.Denial.{Denial}
use Rattle.text_scan.specs.Each.{ok_first}
use Rattle.walk_files.specs.Certificates.{behind_head, move_of, moves_in}
use Rattle.walk_files.specs.Denials.{denial_in, unlabelled}
use Rattle.walk_files.specs.declared.fault.CertFault.{CertFault}
use Rattle.walk_files.specs.declared.fault.CertFault.TheVariants.{Bad, Ended, Extra}
use Rattle.walk_files.specs.declared.certificate.CertHead.{CertHead}
use Rattle.walk_files.specs.declared.certificate.CertHead.TheVariants.{Moves, Labels}

-- the text, its head, how many moves were given, whether the denial was given, and the refusal that the reader keeps, if any
pub record Certificate : Type 0 where
  pub text : List ℕ
  pub head : CertHead
  pub given : ℕ
  pub denied : Bool
  pub refusal : Option CertFault

-- the reader of a text that has this head
abbrev pub started : List ℕ → Result CertHead CertFault → Result Certificate CertFault
started text (Err fault) = Err fault
started text (Ok head) = Ok (record { text = text; head = head; given = 0; denied = false; refusal = None })

-- whether a list of moves is read
abbrev pub is_list : Certificate → Bool
is_list reader = by_head reader.head
  where
    by_head : CertHead → Bool
    by_head (Moves count peak) = true
    by_head (Labels degree) = false

-- how many moves a head promises
abbrev pub count_in : CertHead → ℕ
count_in (Moves count peak) = count
count_in (Labels degree) = 0

-- how many moves are still to come
abbrev pub moves_to_come : Certificate → ℕ
moves_to_come reader = count_in reader.head - reader.given

-- the lines that were not read yet
abbrev pub lines_to_come : Certificate → List Line
lines_to_come reader = drop reader.given (behind_head (full_lines reader.text))

-- what a line gives, where so many moves are still to come
abbrev pub next_on : ℕ → Line → Result (Option Move) CertFault
next_on left line = if left == 0 then Err (Extra line.number) else ok_or (option_map Some (move_of line.words)) (Bad line.number)

-- what the first of these lines gives, where `left` moves are still to come; `end` is the line where the text ends
abbrev pub next_move_of : ℕ → ℕ → List Line → Result (Option Move) CertFault
next_move_of end left [] = if left == 0 then Ok None else Err (Ended end)
next_move_of end left (line ∷ lines) = next_on left line

-- what is read, unless the reader keeps a refusal
abbrev pub unless_refused : {A : Type 0} → Option CertFault → Result A CertFault → Result A CertFault
unless_refused (Some fault) read = Err fault
unless_refused None read = read

-- what the reader gives next
abbrev pub next_answer : Certificate → Result (Option Move) CertFault
next_answer reader = unless_refused reader.refusal (next_move_of (end_line reader.text) (moves_to_come reader) (lines_to_come reader))

-- all moves that the reader has still to give, or the first fault among the lines left
abbrev pub moves_left : Certificate → Result (List Move) CertFault
moves_left reader = unless_refused reader.refusal (moves_in (end_line reader.text) (moves_to_come reader) (lines_to_come reader))

-- an answer before the moves that are left behind it
abbrev pub answer_first : Result (Option Move) CertFault → Result (List Move) CertFault → Result (List Move) CertFault
answer_first (Err fault) others = Err fault
answer_first (Ok None) others = Ok []
answer_first (Ok (Some move)) others = ok_first (Ok move) others

-- the reader behind an answer
abbrev pub after_answer : Certificate → Result (Option Move) CertFault → Certificate
after_answer reader (Ok (Some move)) = record reader { given = reader.given + 1 }
after_answer reader (Ok None) = reader
after_answer reader (Err fault) = record reader { refusal = Some fault }

-- whether a denial is read
abbrev pub is_denial : Certificate → Bool
is_denial reader = not (is_list reader)

-- the degree of a head; 0 at that of a list of moves
abbrev pub degree_in : CertHead → ℕ
degree_in (Moves count peak) = 0
degree_in (Labels degree) = degree

-- the denial that the reader has to give, or the first fault among the lines left
abbrev pub denial_left : Certificate → Result Denial CertFault
denial_left reader =
    unless_refused reader.refusal (denial_in (end_line reader.text) (unlabelled (degree_in reader.head)) (lines_to_come reader))

-- the reader behind that answer
abbrev pub after_denial : Certificate → Result Denial CertFault → Certificate
after_denial reader (Ok denial) = record reader { denied = true }
after_denial reader (Err fault) = record reader { refusal = Some fault }

-- What is left of a text where some moves were given and no line was refused. Behind a denial no lines are told; it is given behind
-- the head of a labelling alone.
pub record IsAt (reader : Certificate) (left : Unread) : Type 0 where
  pub lines : reader.denied ≡ false → reader.refusal ≡ None → lines_left left ≡ lines_to_come reader
  pub end : left.end_line ≡ end_line reader.text
  pub denial : is_list reader ≡ true → reader.denied ≡ false

-- A certificate, line by line.
use Rattle.verify_commands.proofs.Common.{told_stops, meant, certificate_of, certificate_line, Stops, Tells, Stop, ◌≡◌, ℕ, List, [], ◌∷◌, ◌++◌, refl, ap, ◌∙◌, Some, None, Result, Ok, Err, Move, before_ok, before_ok-more, moves_left-started, moves_of_text, head_of_text, answer_first, moves_left, CertFault}
use Rattle.std.proofs.lemmas.List.{append-nil}
use Rattle.walk_files.specs.Readers.{Certificate}
use Rattle.walk_files.specs.declared.certificate.CertHead.TheVariants.{Moves}
use Rattle.commands.specs.declared.certificate.Certificate.TheVariants as certificates

-- ---- all lines

-- the moves that were gathered are the first of those to come
pub one_more : (all rest more : Result (List Move) CertFault) (moves : List Move) (move : Move) → all ≡ before_ok moves rest
    → rest ≡ answer_first (Ok (Some move)) more → all ≡ before_ok (moves ++ move ∷ []) more
one_more all rest more moves move e f = e ∙ ap (before_ok moves) f ∙ before_ok-more moves move more

pub none_more : (all rest : Result (List Move) CertFault) (moves : List Move) → all ≡ before_ok moves rest → rest ≡ Ok [] → all ≡ Ok moves
none_more all rest moves e f = e ∙ ap (before_ok moves) f
    ∙ ap (λ (xs : List Move). let r : Result (List Move) CertFault = Ok xs in r) (append-nil moves)

pub wrong_line : (all rest : Result (List Move) CertFault) (moves : List Move) (fault : CertFault) → all ≡ before_ok moves rest
    → rest ≡ Err fault
    → all ≡ Err fault
wrong_line all rest moves fault e f = e ∙ ap (before_ok moves) f

-- ---- the text

pub list-moves : (text : List ℕ) (count peak : ℕ) (moves : List Move) → head_of_text text ≡ Ok (Moves count peak)
    → moves_of_text count text ≡ Ok moves → certificate_of text ≡ Ok (certificates.Moves (record { moves = moves; peak = peak }))
list-moves text count peak moves e f = rw (e, f) refl

pub list-wrong : (text : List ℕ) (count peak : ℕ) (fault : CertFault) → head_of_text text ≡ Ok (Moves count peak)
    → moves_of_text count text ≡ Err fault → certificate_of text ≡ Err fault
list-wrong text count peak fault e f = rw (e, f) refl

-- a reader that has just started has all moves of the text to come
pub left_start : (reader : Certificate) (text : List ℕ) (count peak : ℕ) → reader.text ≡ text → reader.head ≡ Moves count peak
    → reader.given ≡ 0
    → reader.refusal ≡ None → moves_left reader ≡ moves_of_text count text
left_start reader text count peak is_text is_head is_given kept = rw (is_text, is_head, is_given, kept) (moves_left-started text count peak)

-- a text with this fault
pub text_stops : (text : List ℕ) (fault : CertFault) (stop : Stop) → certificate_of text ≡ Err fault → Tells (certificate_line fault) stop
    → Stops (meant certificate_line (certificate_of text)) stop
text_stops text fault stop e h = told_stops (certificate_line fault) (meant certificate_line (certificate_of text)) stop (rw e refl) h

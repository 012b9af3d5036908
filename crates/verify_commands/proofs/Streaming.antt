-- A certificate that is read in pieces, and judged while it is read.
use Rattle.verify_commands.proofs.Common.{stops_next, told_stops, IsText, Texts, Check, End, Refuse, Passes, IsTold, file, meant, where_told, IsCertificateEnd, certificate_in, certificate_in_bytes, certificate_of, certificate_line, too_large, Stops, StopsReading, bytes_of, Certificate as Certified, MOST_BYTES, Stop, Refused, ReadFault, OutOfMemory, true, ◌≡◌, inl, inr, ℕ, ◌+◌, ◌<◌, ◌≤◌, List, [], ◌∷◌, ◌++◌, length, refl, sym, ap, ◌∙◌, subst, Option, Some, None, Result, Ok, Err, IsSome, MatchOption, Files, file_of, Move, peak_in, before_ok, moves_left-step, head_of_text, moves_of_text, denial_of_lines, count_in, next_answer, after_answer, answer_first, moves_left, denial_left, Streamed, reader_at, streams_list, IsIn, IsStreamAnswer, IsWithin, CertHead, Labels, CertFault, StreamEnd}
use Rattle.commands.specs.declared.refusal.Input.{Input}
use Rattle.commands.specs.declared.text.Text.{Text}
use Rattle.labellings.specs.declared.denial.Denial.{Denial}
use Rattle.std.specs.Prelude.{IfSome}
use Rattle.walk_files.specs.Readers.{Certificate}
use Rattle.walk_files.specs.declared.certificate.CertHead.TheVariants.{Moves}
use Rattle.walk_files.specs.declared.stream_end.StreamEnd.TheVariants.{Fault, TooLarge, Cert}
use Rattle.walk_files.specs.declared.stream_end.StreamEnd.TheVariants as ends
use Rattle.commands.specs.declared.certificate.Certificate.TheVariants as certificates
use Rattle.commands.specs.declared.refusal.Input.TheVariants as inputs
use Rattle.verify_commands.proofs.Gathering.{list-moves, list-wrong, one_more, none_more, wrong_line, left_start, text_stops}

-- ---- files that are told

pub told : (P : List ℕ → Type 0) (o : Option (List ℕ)) → ((f : List ℕ) → o ≡ Some f → P f) → IfSome o P
told P None give = tt
told P (Some f) give = give f refl

pub at_told : (P : List ℕ → Type 0) (o : Option (List ℕ)) (f : List ℕ) → o ≡ Some f → IfSome o P → P f
at_told P o f is h = subst (λ (x : Option (List ℕ)). IfSome x P) is h

told_match : (A : Type 0) (P : List ℕ → Type 0) (o : Option (List ℕ)) → A → ((f : List ℕ) → o ≡ Some f → P f) → MatchOption o A P
told_match A P None none some = none
told_match A P (Some f) none some = some f refl

put_told : (A P : Type 0) (o : Option (List ℕ)) → IsSome o → P → MatchOption o A (λ _. P)
put_told A P None told h = absurd (let none : ⊥ = cc in none)
put_told A P (Some f) told h = h

pub where_told_ends : {T : Type 0} (held : Option Files) (name : List ℕ) (check : Check T) (any : End T → Type 0) (end : End T)
    → IsTold held name → check.Ends end → (where_told held name check any).Ends end
where_told_ends held name check any end is h = put_told (any end) (check.Ends end) (file_of held name) is h

refused_where_told : {T : Type 0} (o : Option (List ℕ)) (check : Check T) (any : End T → Type 0) (text : Text)
    → MatchOption o ((texts : Texts) × any (Refuse texts) × IsText texts (bytes_of text)) (λ _. Stops check (Refused text))
    → (texts : Texts) × MatchOption o (any (Refuse texts)) (λ _. check.Ends (Refuse texts)) × IsText texts (bytes_of text)
refused_where_told None check any text h = h
refused_where_told (Some f) check any text h = h

any_refused : (end : StreamEnd) (text : Text) → StopsReading end (Refused text)
    → (texts : Texts) × IsCertificateEnd (Refuse texts) × IsText texts (bytes_of text)
any_refused Fault text h = absurd (let none : ⊥ = cc in none)
any_refused TooLarge text h = (too_large inputs.Certificate, inl refl, h)
any_refused (Cert fault) text h = (certificate_line fault, inr (fault, refl), h)
any_refused ends.OutOfMemory text h = absurd (let none : ⊥ = cc in none)

file_passes : (held : Option Files) (name f : List ℕ) (input : Input) → file_of held name ≡ Some f → length f ≤ MOST_BYTES
    → Passes (file held name input) f
file_passes held name f input is few = (subst (λ (o : Option (List ℕ)). IfSome o (λ b. f ≡ b)) (sym is) refl, few)

-- ---- what stops the reading stops the check

bytes_stop : (held : Option Files) (name f : List ℕ) (end : StreamEnd) (stop : Stop) → file_of held name ≡ Some f → StopsReading end stop
    → IsStreamAnswer {A = Certified} (Err end) (certificate_of f) → IsWithin end (length f) MOST_BYTES
    → (end ≡ TooLarge → MOST_BYTES < length f)
    → Stops (certificate_in_bytes held name) stop
bytes_stop held name f Fault stop is h answer within large = subst (Stops (certificate_in_bytes held name)) (sym h) tt
bytes_stop held name f TooLarge stop is h answer within large =
    told_stops (too_large inputs.Certificate) (certificate_in_bytes held name) stop
    (inl (
      too_large inputs.Certificate,
      (f, subst (λ (o : Option (List ℕ)). IfSome o (λ b. f ≡ b)) (sym is) refl, large refl, refl),
      refl,
    )) h
bytes_stop held name f (Cert fault) stop is h answer within large =
    stops_next (file held name inputs.Certificate) (λ bytes. meant certificate_line (certificate_of bytes)) f stop
    (file_passes held name f inputs.Certificate is within) (text_stops f fault stop answer h)
bytes_stop held name f ends.OutOfMemory stop is h answer within large = subst (Stops (certificate_in_bytes held name)) (sym h) tt

pub certificate_stopped : (held : Option Files) (name : List ℕ) (end : StreamEnd) (stop : Stop) → StopsReading end stop
    → IfSome (file_of held name) (λ f. IsStreamAnswer {A = Certified} (Err end) (certificate_of f))
    → IfSome (file_of held name) (λ f. IsWithin end (length f) MOST_BYTES)
    → (end ≡ TooLarge → IfSome (file_of held name) (λ f. MOST_BYTES < length f))
    → Stops (certificate_in held name) stop
certificate_stopped held name end ReadFault h answer within large = tt
certificate_stopped held name end OutOfMemory h answer within large = tt
certificate_stopped held name end (Refused text) h answer within large =
    let o : Option (List ℕ) = file_of held name in
    refused_where_told o (certificate_in_bytes held name) IsCertificateEnd text
    (told_match ((texts : Texts) × IsCertificateEnd (Refuse texts) × IsText texts (bytes_of text))
    (λ _. Stops (certificate_in_bytes held name) (Refused text)) o (any_refused end text h) (λ f is.
    bytes_stop held name f end (Refused text) is h
    (at_told (λ (g : List ℕ). IsStreamAnswer {A = Certified} (Err end) (certificate_of g)) o f is answer)
    (at_told (λ (g : List ℕ). IsWithin end (length g) MOST_BYTES) o f is within)
    (λ e. at_told (λ (g : List ℕ). MOST_BYTES < length g) o f is (large e))))

pub certificate_passed : (held : Option Files) (name : List ℕ) (shown : Certified)
    → IfSome (file_of held name) (λ f. (certificate_of f ≡ Ok shown) × (length f ≤ MOST_BYTES)) → Passes (certificate_in held name) shown
certificate_passed held name shown h =
    let o : Option (List ℕ) = file_of held name in
    told_match (Unit {0}) (λ _. Passes (certificate_in_bytes held name) shown) o tt (λ f is.
    let here = at_told (λ (g : List ℕ). (certificate_of g ≡ Ok shown) × (length g ≤ MOST_BYTES)) o f is h in
    inr (
      f,
      file_passes held name f inputs.Certificate is here.1,
      subst (λ (r : Result Certified CertFault). Passes (meant certificate_line r) shown) (sym here.0) refl,
    ))

-- ---- what is answered of a part is answered of the text

-- of its head
pub head_answered : (f : List ℕ) (end : StreamEnd) → IsStreamAnswer {A = CertHead} (Err end) (head_of_text f)
    → IsStreamAnswer {A = Certified} (Err end) (certificate_of f)
head_answered f Fault answer = tt
head_answered f TooLarge answer = tt
head_answered f (Cert fault) answer = rw answer refl
head_answered f ends.OutOfMemory answer = tt

-- of its denial
pub denial_start : (stream : Streamed) (f : List ℕ) (degree : ℕ) → stream.head ≡ Labels degree → stream.given ≡ 0
    → denial_left (reader_at stream f) ≡ denial_of_lines degree f
denial_start stream f degree is_head none = rw (is_head, none) refl

pub denial_wrong : (f : List ℕ) (degree : ℕ) (end : StreamEnd) → head_of_text f ≡ Ok (Labels degree)
    → IsStreamAnswer {A = Denial} (Err end) (denial_of_lines degree f) → IsStreamAnswer {A = Certified} (Err end) (certificate_of f)
denial_wrong f degree Fault h answer = tt
denial_wrong f degree TooLarge h answer = tt
denial_wrong f degree (Cert fault) h answer = rw (h, answer) refl
denial_wrong f degree ends.OutOfMemory h answer = tt

pub denial_right : (f : List ℕ) (degree : ℕ) (denial : Denial) → head_of_text f ≡ Ok (Labels degree)
    → denial_of_lines degree f ≡ Ok denial → certificate_of f ≡ Ok (certificates.Denial denial)
denial_right f degree denial h answer = rw (h, answer) refl

-- ---- moves

-- the head of a list of moves
pub head_moves : (stream : Streamed) → streams_list stream ≡ true → stream.head ≡ Moves (count_in stream.head) (peak_in stream.head)
head_moves stream list = by_head stream.head list
  where
    by_head : (head : CertHead) → streams_list (record stream { head = head }) ≡ true → head ≡ Moves (count_in head) (peak_in head)
    by_head (Moves count peak) list = refl
    by_head (Labels degree) list = cc

-- the moves so far are the first of those that the stream had to give
abbrev pub AreFirst : Streamed → Streamed → List Move → List ℕ → Type 0
AreFirst start now moves f = IsIn now f × (moves_left (reader_at start f) ≡ before_ok moves (moves_left (reader_at now f)))

-- none so far
pub first_none : (stream : Streamed) (f : List ℕ) → IsIn stream f → AreFirst stream stream [] f
first_none stream f is = (is, by_left (moves_left (reader_at stream f)))
  where
    by_left : (left : Result (List Move) CertFault) → left ≡ before_ok [] left
    by_left (Ok moves) = refl
    by_left (Err fault) = refl

left_behind : (reader next : Certificate) (mv : Move) → next_answer reader ≡ Ok (Some mv) → next ≡ after_answer reader (Ok (Some mv))
    → moves_left reader ≡ answer_first (Ok (Some mv)) (moves_left next)
left_behind reader next mv gives is =
    moves_left-step reader
    ∙ ap (λ a. answer_first a (moves_left (after_answer reader a))) gives
    ∙ ap (λ (n : Certificate). answer_first (Ok (Some mv)) (moves_left n)) (sym is)

pub first_more : (start old next : Streamed) (moves : List Move) (mv : Move) (f : List ℕ) → IsIn next f
    → next_answer (reader_at old f) ≡ Ok (Some mv) → next ≡ record old { given = old.given + 1; lines = next.lines }
    → moves_left (reader_at start f) ≡ before_ok moves (moves_left (reader_at old f)) → AreFirst start next (moves ++ mv ∷ []) f
first_more start old next moves mv f is gives after so_far = (
  is,
  one_more _ _ _ moves mv so_far
      (left_behind (reader_at old f) (reader_at next f) mv gives (ap (λ (s : Streamed). reader_at s f) after)),
)

-- a stream that has given none has all of them to give
all_moves : (start : Streamed) (f : List ℕ) (count peak : ℕ) → start.head ≡ Moves count peak → start.given ≡ 0
    → moves_left (reader_at start f) ≡ moves_of_text count f
all_moves start f count peak is_moves none = left_start (reader_at start f) f count peak refl is_moves none refl

pub first_all : (start old : Streamed) (moves : List Move) (f : List ℕ) (count peak : ℕ) → start.head ≡ Moves count peak
    → start.given ≡ 0 → head_of_text f ≡ Ok start.head → next_answer (reader_at old f) ≡ Ok None
    → moves_left (reader_at start f) ≡ before_ok moves (moves_left (reader_at old f))
    → certificate_of f ≡ Ok (certificates.Moves (record { moves = moves; peak = peak }))
first_all start old moves f count peak is_moves none head gives so_far =
    let rest : moves_left (reader_at old f) ≡ Ok [] =
    moves_left-step (reader_at old f) ∙ ap (λ a. answer_first a (moves_left (after_answer (reader_at old f) a))) gives in
    list-moves f count peak moves (head ∙ ap (λ (h : CertHead). Ok h) is_moves)
    (sym (all_moves start f count peak is_moves none) ∙ none_more _ _ moves so_far rest)

pub first_wrong : (start old : Streamed) (moves : List Move) (f : List ℕ) (count peak : ℕ) (end : StreamEnd)
    → start.head ≡ Moves count peak → start.given ≡ 0 → head_of_text f ≡ Ok start.head
    → IsStreamAnswer {A = Option Move} (Err end) (next_answer (reader_at old f))
    → moves_left (reader_at start f) ≡ before_ok moves (moves_left (reader_at old f))
    → IsStreamAnswer {A = Certified} (Err end) (certificate_of f)
first_wrong start old moves f count peak Fault is_moves none head gives so_far = tt
first_wrong start old moves f count peak TooLarge is_moves none head gives so_far = tt
first_wrong start old moves f count peak ends.OutOfMemory is_moves none head gives so_far = tt
first_wrong start old moves f count peak (Cert fault) is_moves none head gives so_far =
    let rest : moves_left (reader_at old f) ≡ Err fault =
    moves_left-step (reader_at old f) ∙ ap (λ a. answer_first a (moves_left (after_answer (reader_at old f) a))) gives in
    list-wrong f count peak fault (head ∙ ap (λ (h : CertHead). Ok h) is_moves)
    (sym (all_moves start f count peak is_moves none) ∙ wrong_line _ _ moves fault so_far rest)

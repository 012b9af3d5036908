-- The lines of a certificate that is read in pieces.
use Rattle.walk_files.proofs.Common.{ReadsLine, LinesReading, Reads, bytes_left, SameLine, ◌≡◌, ◌⊎◌, ℕ, ◌+◌, ◌-◌, ◌<◌, ◌≤◌, ◌==◌, Bool, true, false, List, [], ◌∷◌, length, drop, inl, inr, refl, sym, ap, subst, ◌∙◌, arith, drop-drop, ok_or, Option, Some, None, Result, Ok, Err, OnOk, IfNone, IfSome, MatchOption, option_map, Move, Line, is_filled, cut_lines, unmarked, lines_from, full_lines, end_line, Unread, lines_left, at_line, move_of, answer_alone, fitting_head, head_in, first_head, head_among, head_of_text, behind_head, count_in, next_move_of, next_on, next_answer, lines_to_come, Streamed, reader_at, streams_list, IsIn, Belongs, IsStreamAnswer, end_behind, after_move, Answer, CertHead, CertFault, NoHead, Bad, Ended, Extra, StreamEnd, Fault, TooLarge, Cert}
use Rattle.file_pieces.proofs.ShortLemmas.{no_lines}
use Rattle.std.proofs.Common.{cond}
use Rattle.walk_files.specs.declared.stream_end.StreamEnd.TheVariants.{OutOfMemory}
use Rattle.walk_files.proofs.SameGrammar.{move_same, head_same}

-- ---- the short line

-- its words are those at a cursor that has found it
pub short_words : (unread next : Unread) (own : List Line) (words : List (List ℕ)) → lines_left unread ≡ own
    → own ≡ cond (is_filled words) (record { number = 1; words = words } ∷ []) [] → is_filled words ≡ true
    → next ≡ at_line unread (lines_left unread) → next.words ≡ words
short_words unread next own words left is some found =
    let one : lines_left unread ≡ record { number = 1; words = words } ∷ [] = left ∙ is ∙ rw some refl in
    ap (λ (u : Unread). u.words) (found ∙ ap (at_line unread) one)

pub next_on-same : (left number : ℕ) (a b : List (List ℕ)) → SameLine a b
    → next_on left (record { number = number; words = a }) ≡ next_on left (record { number = number; words = b })
next_on-same left number a b same =
    ap (λ (m : Option Move). let r : Result (Option Move) CertFault =
    cond (left == 0) (Err (Extra number)) (ok_or (option_map Some m) (Bad number)) in r) (move_same a b same)

-- ---- a line of the file

none_cut : length (cut_lines []) ≡ 0
unfolding cut_lines
none_cut = refl

-- what was read of the next line is what it gives
pub next_read : (number : ℕ) (bytes : List ℕ) (found : Option ℕ) (short : List (List ℕ)) (next : ℕ) (left : List ℕ) (to_come : ℕ)
    (read : Result (Option Move) CertFault) → ReadsLine number bytes found short next left → IfNone found (left ≡ [])
    → MatchOption found (read ≡ next_move_of next to_come [])
    (λ n. (words : List (List ℕ)) → SameLine short words → read ≡ next_on to_come (record { number = n; words = words }))
    → read ≡ next_move_of (end_behind number bytes) to_come (lines_from number bytes)
next_read number bytes None short next left to_come read reads none is =
    let lines : lines_from number bytes ≡ [] = reads.lines ∙ ap (lines_from next) none ∙ no_lines next in
    let last : next ≡ end_behind number bytes = omega (arith, reads.count, ap (λ t. length (cut_lines t)) none, none_cut) in
    is ∙ ap (λ n. next_move_of n to_come []) last ∙ ap (next_move_of (end_behind number bytes) to_come) (sym lines)
next_read number bytes (Some n) short next left to_come read reads none is =
    is reads.lines.words reads.lines.same ∙ ap (next_move_of (end_behind number bytes) to_come) (sym reads.lines.first)

-- the lines behind it are left
pub next_left : (number : ℕ) (bytes : List ℕ) (found : Option ℕ) (short : List (List ℕ)) (next : ℕ) (left : List ℕ)
    → ReadsLine number bytes found short next left → IfNone found (left ≡ [])
    → (lines_from next left ≡ drop 1 (lines_from number bytes)) × (end_behind next left ≡ end_behind number bytes) × (number ≤ next)
next_left number bytes None short next left reads none =
    let rest : lines_from next left ≡ [] = ap (lines_from next) none ∙ no_lines next in
    (rest ∙ ap (drop 1) (sym rest ∙ sym reads.lines), sym reads.count, reads.later)
next_left number bytes (Some n) short next left reads none =
    (ap (drop 1) (sym reads.lines.first), sym reads.count, omega (arith, reads.later))

-- ---- answers

pub answers_refused : {A : Type 0} (end : StreamEnd) (fault : CertFault) (read whole : Result A CertFault)
    → (end ≡ Cert fault) ⊎ (end ≡ Fault) ⊎ (end ≡ TooLarge) → read ≡ Err fault → read ≡ whole → IsStreamAnswer (Err end) whole
answers_refused end fault read whole which is same = by_end end which
  where
    by_end : (e : StreamEnd) → (e ≡ Cert fault) ⊎ (e ≡ Fault) ⊎ (e ≡ TooLarge) → IsStreamAnswer (Err e) whole
    by_end Fault which = tt
    by_end TooLarge which = tt
    by_end OutOfMemory which = tt
    by_end (Cert other) which = elim which [
      | inl cert ↦ let the : other ≡ fault = cc in sym same ∙ is ∙ ap Err (sym the)
      | inr others ↦ elim others [
        | inl read_failed ↦ cc
        | inr too_many ↦ cc
      ]
    ]

-- ---- the next line

-- what the next line is, where the file is told
abbrev pub FindsLine : LinesReading → LinesReading → Option ℕ → List (List ℕ) → List ℕ → Type 0
FindsLine old next found short file = Reads old.reading file →
    ReadsLine old.number (bytes_left old.reading file) found short next.number (bytes_left next.reading file)
    × IfNone found (bytes_left next.reading file ≡ [])

-- ---- a stream behind an answer

-- a move more was given
is_in-more : (old : Streamed) (file : List ℕ) (next : LinesReading) → IsIn old file → streams_list old ≡ true → Reads next.reading file
    → lines_from next.number (bytes_left next.reading file) ≡ drop 1 (lines_from old.lines.number (bytes_left old.lines.reading file))
    → end_behind next.number (bytes_left next.reading file) ≡ end_behind old.lines.number (bytes_left old.lines.reading file)
    → old.lines.number ≤ next.number
    → IsIn (record old { lines = next; given = old.given + 1 }) file
is_in-more old file next is moves reads lines end later = record {
  reads = reads;
  head = is.head;
  lines = λ undenied.
      lines ∙ ap (drop 1) (is.lines (is.denial moves)) ∙ drop-drop 1 old.given (behind_head (full_lines file));
  end = λ undenied. end ∙ is.end (is.denial moves);
  behind = omega (arith, is.behind, later);
  denial = λ m. is.denial moves;
}

-- no line was left
none_left : (end left : ℕ) (lines : List Line) → next_move_of end left lines ≡ Ok None → drop 1 lines ≡ lines
none_left end left [] e = refl
none_left end left (line ∷ lines) e = by_test (left == 0) (move_of line.words) e
  where
    by_test : (b : Bool) (m : Option Move)
        → cond b (Err (Extra line.number)) (ok_or (option_map Some m) (Bad line.number)) ≡ Ok None → lines ≡ line ∷ lines
    by_test true m e = cc
    by_test false None e = cc
    by_test false (Some mv) e = cc

is_in-same : (old : Streamed) (file : List ℕ) (next : LinesReading) → IsIn old file → streams_list old ≡ true → Reads next.reading file
    → lines_from next.number (bytes_left next.reading file) ≡ drop 1 (lines_from old.lines.number (bytes_left old.lines.reading file))
    → end_behind next.number (bytes_left next.reading file) ≡ end_behind old.lines.number (bytes_left old.lines.reading file)
    → old.lines.number ≤ next.number
    → next_move_of (end_line file) (count_in old.head - old.given) (lines_to_come (reader_at old file)) ≡ Ok None
    → IsIn (record old { lines = next }) file
is_in-same old file next is moves reads lines end later none = record {
  reads = reads;
  head = is.head;
  lines = λ undenied.
      lines ∙ ap (drop 1) (is.lines (is.denial moves))
      ∙ none_left (end_line file) (count_in old.head - old.given) (lines_to_come (reader_at old file)) none;
  end = λ undenied. end ∙ is.end (is.denial moves);
  behind = omega (arith, is.behind, later);
  denial = λ m. is.denial moves;
}

-- what the lines left give is what the reader gives
gives : (old : Streamed) (file : List ℕ) (to_come : ℕ) → IsIn old file → streams_list old ≡ true → to_come ≡ count_in old.head - old.given
    → next_move_of (end_behind old.lines.number (bytes_left old.lines.reading file)) to_come
    (lines_from old.lines.number (bytes_left old.lines.reading file)) ≡ next_answer (reader_at old file)
gives old file to_come is moves count =
    ap (λ n. next_move_of n to_come (lines_from old.lines.number (bytes_left old.lines.reading file))) (is.end (is.denial moves))
    ∙ ap (next_move_of (end_line file) to_come) (is.lines (is.denial moves))
    ∙ ap (λ n. next_move_of (end_line file) n (lines_to_come (reader_at old file))) count

-- what a read of the next line says, at a file
abbrev pub ReadsNext : Streamed → LinesReading → ℕ → Result (Option Move) StreamEnd → List ℕ → Type 0
ReadsNext old next to_come result file = Reads old.lines.reading file →
    IsStreamAnswer result (next_move_of (end_behind old.lines.number (bytes_left old.lines.reading file)) to_come
    (lines_from old.lines.number (bytes_left old.lines.reading file)))

abbrev pub LeavesLines : LinesReading → LinesReading → List ℕ → Type 0
LeavesLines old next file = Reads old.reading file →
    (lines_from next.number (bytes_left next.reading file) ≡ drop 1 (lines_from old.number (bytes_left old.reading file)))
    × (end_behind next.number (bytes_left next.reading file) ≡ end_behind old.number (bytes_left old.reading file))
    × (old.number ≤ next.number)

-- what a stream says of its answer, at a file
abbrev pub Answers : Streamed → Streamed → Result (Option Move) StreamEnd → List ℕ → Type 0
Answers old new result file = IsIn old file → IsStreamAnswer result (next_answer (reader_at old file)) × Belongs new file

-- it is that of the reader, and the stream behind it belongs to the file
pub gives_answer : (file : Option (List ℕ)) (old : Streamed) (next : LinesReading) (to_come : ℕ) (result : Result (Option Move) StreamEnd)
    → streams_list old ≡ true → to_come ≡ count_in old.head - old.given → IfSome file (ReadsNext old next to_come result)
    → OnOk result (IfSome file (λ f. Reads old.lines.reading f → Reads next.reading f))
    → OnOk result (IfSome file (LeavesLines old.lines next))
    → IfSome file (Answers old (record (after_move old result) { lines = next }) result)
gives_answer None old next to_come result moves count reads on leaves = tt
gives_answer (Some f) old next to_come (Ok (Some mv)) moves count reads on leaves = λ is. (
  sym (gives old f to_come is moves count) ∙ reads is.reads,
  λ none. is_in-more old f next is moves (on is.reads) (leaves is.reads).0 (leaves is.reads).1 (leaves is.reads).2,
)
gives_answer (Some f) old next to_come (Ok None) moves count reads on leaves = λ is.
    let answer : next_answer (reader_at old f) ≡ Ok None = sym (gives old f to_come is moves count) ∙ reads is.reads in (
      answer,
      λ none. is_in-same old f next is moves (on is.reads) (leaves is.reads).0 (leaves is.reads).1 (leaves is.reads).2 answer,
    )
gives_answer (Some f) old next to_come (Err end) moves count reads on leaves = λ is. (
  subst (IsStreamAnswer (Err end)) (gives old f to_come is moves count) (reads is.reads),
  λ none. cc,
)

-- ---- the head

-- the head was read, and what is behind it is left
pub record IsHeadRead (file : List ℕ) (read : Result CertHead CertFault) (next : ℕ) (left : List ℕ) : Type 0 where
  pub head : read ≡ head_of_text file
  pub lines : lines_from next left ≡ behind_head (full_lines file)
  pub end : end_behind next left ≡ end_line file
  pub behind : (head : CertHead) → read ≡ Ok head → 1 < next

-- on the first line that was found, which is no answer
pub head_first : (file : List ℕ) (found : Option ℕ) (short : List (List ℕ)) (next : ℕ) (left : List ℕ) (read : Result CertHead CertFault)
    → ReadsLine 1 (unmarked file) found short next left → IfNone found (left ≡ [])
    → MatchOption found (read ≡ Err NoHead)
    (λ n. (words : List (List ℕ)) → SameLine short words → read ≡ head_in None (record { number = n; words = words }))
    → (answer : Option Answer) → answer ≡ None
    → MatchOption found (answer ≡ None) (λ n. (words : List (List ℕ)) → SameLine short words → answer ≡ answer_alone words)
    → IsHeadRead file read next left
head_first file None short next left read reads none is answer other answers =
    let lines : full_lines file ≡ [] = reads.lines ∙ ap (lines_from next) none ∙ no_lines next in
    record {
      head = is ∙ ap (head_among (end_line file)) (sym lines);
      lines = ap (lines_from next) none ∙ no_lines next ∙ ap behind_head (sym lines);
      end = omega (arith, reads.count);
      behind = λ head ok. cc (is, ok);
    }
head_first file (Some n) short next left read reads none is answer no_answer answers =
    let line : Line = record { number = n; words = reads.lines.words } in
    let other : answer_alone reads.lines.words ≡ None = sym (answers reads.lines.words reads.lines.same) ∙ no_answer in
    let head : head_among (end_line file) (line ∷ lines_from next left) ≡ head_in None line = rw other refl in
    let behind : behind_head (line ∷ lines_from next left) ≡ lines_from next left = rw other refl in
    record {
      head = is reads.lines.words reads.lines.same ∙ sym head ∙ ap (head_among (end_line file)) (sym reads.lines.first);
      lines = sym behind ∙ ap behind_head (sym reads.lines.first);
      end = omega (arith, reads.count);
      behind = λ h ok. omega (arith, reads.later);
    }

-- or on the second, behind an answer
pub head_second : (file : List ℕ) (first found : Option ℕ) (short other : List (List ℕ)) (middle next : ℕ) (between left : List ℕ)
    (answer : Answer) (read : Result CertHead CertFault)
    → ReadsLine 1 (unmarked file) first short middle between
    → MatchOption first (Some answer ≡ None) (λ n. (words : List (List ℕ)) → SameLine short words → Some answer ≡ answer_alone words)
    → ReadsLine middle between found other next left → IfNone found (left ≡ [])
    → MatchOption found (read ≡ Err (Ended next))
    (λ n. (words : List (List ℕ)) → SameLine other words → read ≡ head_in (Some answer) (record { number = n; words = words }))
    → IsHeadRead file read next left
head_second file None found short other middle next between left answer read one is two none reads = cc
head_second file (Some n) found short other middle next between left answer read one is two none reads =
    by_found found two none reads
  where
    line : Line
    line = record { number = n; words = one.lines.words }

    answers : answer_alone one.lines.words ≡ Some answer
    answers = sym (is one.lines.words one.lines.same)

    head : head_among (end_line file) (line ∷ lines_from middle between) ≡ first_head (Some answer) (end_line file)
        (lines_from middle between)
    head = rw answers refl

    behind : behind_head (line ∷ lines_from middle between) ≡ drop 1 (lines_from middle between)
    behind = rw answers refl

    by_found : (found : Option ℕ) → ReadsLine middle between found other next left → IfNone found (left ≡ [])
        → MatchOption found (read ≡ Err (Ended next))
        (λ n. (words : List (List ℕ)) → SameLine other words → read ≡ head_in (Some answer) (record { number = n; words = words }))
        → IsHeadRead file read next left
    by_found None two none reads =
        let rest : lines_from next left ≡ [] = ap (lines_from next) none ∙ no_lines next in
        let ls : lines_from middle between ≡ [] = two.lines ∙ rest in
        let last : next ≡ end_line file = omega (arith, one.count, two.count, ap (λ t. length (cut_lines t)) none, none_cut) in
        record {
          head = reads ∙ ap (λ e. let r : Result CertHead CertFault = Err (Ended e) in r) last
              ∙ ap (first_head (Some answer) (end_line file)) (sym ls) ∙ sym head
              ∙ ap (head_among (end_line file)) (sym one.lines.first);
          lines = rest ∙ ap (drop 1) (sym ls) ∙ sym behind ∙ ap behind_head (sym one.lines.first);
          end = omega (arith, one.count, two.count);
          behind = λ h ok. omega (arith, one.later, two.later);
        }
    by_found (Some m) two none reads = record {
      head = reads two.lines.words two.lines.same ∙ ap (first_head (Some answer) (end_line file)) (sym two.lines.first) ∙ sym head
          ∙ ap (head_among (end_line file)) (sym one.lines.first);
      lines = ap (drop 1) (sym two.lines.first) ∙ sym behind ∙ ap behind_head (sym one.lines.first);
      end = omega (arith, one.count, two.count);
      behind = λ h ok. omega (arith, one.later, two.later);
    }

-- ---- what a call made of the next line

pub next_answered : (file : Option (List ℕ)) (old next : LinesReading) (found : Option ℕ) (short : List (List ℕ)) (to_come : ℕ)
    (read : Result (Option Move) CertFault) (result : Result (Option Move) StreamEnd) (ended : ℕ) → ended ≡ next.number
    → IfSome file (FindsLine old next found short) → MatchOption found (read ≡ next_move_of ended to_come [])
    (λ n. (words : List (List ℕ)) → SameLine short words → read ≡ next_on to_come (record { number = n; words = words }))
    → IsStreamAnswer result read
    → IfSome file (λ f. Reads old.reading f → IsStreamAnswer result (next_move_of (end_behind old.number (bytes_left old.reading f)) to_come
    (lines_from old.number (bytes_left old.reading f))))
next_answered None old next found short to_come read result ended end finds is answer = tt
next_answered (Some f) old next found short to_come read result ended end finds is answer = λ reads.
    let at_end : MatchOption found (read ≡ next_move_of next.number to_come [])
    (λ n. (words : List (List ℕ)) → SameLine short words → read ≡ next_on to_come (record { number = n; words = words })) =
    subst (λ e. MatchOption found (read ≡ next_move_of e to_come [])
    (λ n. (words : List (List ℕ)) → SameLine short words → read ≡ next_on to_come (record { number = n; words = words }))) end is in
    subst (IsStreamAnswer result)
    (next_read old.number (bytes_left old.reading f) found short next.number (bytes_left next.reading f) to_come read (finds reads).0
    (finds reads).1
    at_end) answer

pub next_leaves : (file : Option (List ℕ)) (old next : LinesReading) (found : Option ℕ) (short : List (List ℕ))
    → IfSome file (FindsLine old next found short) → IfSome file (LeavesLines old next)
next_leaves None old next found short finds = tt
next_leaves (Some f) old next found short finds = λ reads.
    next_left old.number (bytes_left old.reading f) found short next.number (bytes_left next.reading f) (finds reads).0 (finds reads).1

pub head_in-same : (answer : Option Answer) (number : ℕ) (a b : List (List ℕ)) → SameLine a b
    → head_in answer (record { number = number; words = a }) ≡ head_in answer (record { number = number; words = b })
head_in-same answer number a b same = ap (fitting_head answer number) (head_same a b same)

-- ---- what a call made of the head

pub first_answered : (file : Option (List ℕ)) (old next : LinesReading) (found : Option ℕ) (short : List (List ℕ))
    (read : Result CertHead CertFault) (result : Result CertHead StreamEnd) (answer : Option Answer)
    → IfSome file (λ f. Reads old.reading f → ReadsLine 1 (unmarked f) found short next.number (bytes_left next.reading f)
    × IfNone found (bytes_left next.reading f ≡ []))
    → MatchOption found (read ≡ Err NoHead)
    (λ n. (words : List (List ℕ)) → SameLine short words → read ≡ head_in None (record { number = n; words = words }))
    → answer ≡ None
    → MatchOption found (answer ≡ None) (λ n. (words : List (List ℕ)) → SameLine short words → answer ≡ answer_alone words)
    → IsStreamAnswer result read → IfSome file (λ f. Reads old.reading f → IsStreamAnswer result (head_of_text f))
first_answered None old next found short read result answer finds is none answers holds = tt
first_answered (Some f) old next found short read result answer finds is none answers holds = λ reads.
    subst (IsStreamAnswer result)
    (head_first f found short next.number (bytes_left next.reading f) read (finds reads).0 (finds reads).1 is answer none answers).head
    holds

pub second_answered : (file now : Option (List ℕ)) (old middle next : LinesReading) (first found : Option ℕ) (short other : List (List ℕ))
    (read : Result CertHead CertFault) (result : Result CertHead StreamEnd) (answer : Answer) (answered : Option Answer) (ended : ℕ)
    → now ≡ file → ended ≡ next.number → answered ≡ Some answer
    → IfSome file (λ f. Reads old.reading f → ReadsLine 1 (unmarked f) first short middle.number (bytes_left middle.reading f)
    × IfNone first (bytes_left middle.reading f ≡ []))
    → IfSome file (λ f. Reads old.reading f → Reads middle.reading f)
    → MatchOption first (answered ≡ None) (λ n. (words : List (List ℕ)) → SameLine short words → answered ≡ answer_alone words)
    → IfSome now (FindsLine middle next found other)
    → MatchOption found (read ≡ Err (Ended ended))
    (λ n. (words : List (List ℕ)) → SameLine other words → read ≡ head_in (Some answer) (record { number = n; words = words }))
    → IsStreamAnswer result read → IfSome file (λ f. Reads old.reading f → IsStreamAnswer result (head_of_text f))
second_answered None now old middle next first found short other read result answer answered ended told end some one on is two reads
    holds = tt
second_answered (Some f) now old middle next first found short other read result answer answered ended told end some one on is two reads
    holds =
    let finds : FindsLine middle next found other f = subst (λ o. IfSome o (FindsLine middle next found other)) told two in
    let answers : MatchOption first (Some answer ≡ None) (λ n. (words : List (List ℕ)) → SameLine short words
    → Some answer ≡ answer_alone words) =
    subst (λ a. MatchOption first (a ≡ None) (λ n. (words : List (List ℕ)) → SameLine short words → a ≡ answer_alone words)) some is in
    let head : MatchOption found (read ≡ Err (Ended next.number))
    (λ n. (words : List (List ℕ)) → SameLine other words → read ≡ head_in (Some answer) (record { number = n; words = words })) =
    subst (λ e. MatchOption found (read ≡ Err (Ended e))
    (λ n. (words : List (List ℕ)) → SameLine other words → read ≡ head_in (Some answer) (record { number = n; words = words }))) end
    reads in
    λ r.
    let now_reads : Reads middle.reading f = on r in
    subst (IsStreamAnswer result)
    (head_second f first found short other middle.number next.number (bytes_left middle.reading f) (bytes_left next.reading f) answer read
    (one r).0
    answers (finds now_reads).0 (finds now_reads).1 head).head holds

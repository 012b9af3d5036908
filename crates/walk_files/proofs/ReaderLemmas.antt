-- A reader gives the moves of its text one by one.
use Rattle.walk_files.proofs.Common.{◌≡◌, ℕ, ◌+◌, ◌-◌, ◌==◌, Bool, true, false, List, [], ◌∷◌, drop, refl, sym, ap, ◌∙◌, drop-drop, arith, ok_or, Option, Some, None, Result, Ok, Err, cond, option_map, Move, ok_first, Line, full_lines, end_line, behind_head, move_of, moves_in, moves_of_text, Certificate, count_in, next_move_of, next_answer, after_answer, moves_left, answer_first, CertHead, Moves, CertFault, Bad, Ended, Extra}

-- the state behind a move, or the same state
abbrev state : List ℕ → CertHead → ℕ → Bool → Option CertFault → Certificate
state text head given denied refusal = record { text = text; head = head; given = given; denied = denied; refusal = refusal }

-- one line is read, where no line was refused
step : (text : List ℕ) (head : CertHead) (given : ℕ) (denied : Bool) (lines : List Line) → drop given (behind_head (full_lines text))
    ≡ lines
    → moves_in (end_line text) (count_in head - given) lines
    ≡ answer_first (next_move_of (end_line text) (count_in head - given) lines)
    (moves_left (after_answer (state text head given denied None) (next_move_of (end_line text) (count_in head - given) lines)))
step text head given denied [] at = by_test (count_in head - given == 0)
  where
    by_test : (b : Bool) → cond b (Ok []) (Err (Ended (end_line text)))
        ≡ answer_first (cond b (Ok None) (Err (Ended (end_line text))))
        (moves_left (after_answer (state text head given denied None) (cond b (Ok None) (Err (Ended (end_line text))))))
    by_test true = refl
    by_test false = refl
step text head given denied (line ∷ lines) at = by_test (count_in head - given == 0)
  where
    behind : drop (given + 1) (behind_head (full_lines text)) ≡ lines
    behind = sym (drop-drop 1 given (behind_head (full_lines text))) ∙ ap (drop 1) at

    fewer : count_in head - given - 1 ≡ count_in head - (given + 1)
    fewer = omega arith

    by_move : (o : Option Move) → ok_first (ok_or o (Bad line.number)) (moves_in (end_line text) (count_in head - given - 1) lines)
        ≡ answer_first (ok_or (option_map Some o) (Bad line.number))
        (moves_left (after_answer (state text head given denied None) (ok_or (option_map Some o) (Bad line.number))))
    by_move None = refl
    by_move (Some move) = rw (fewer, behind) refl

    by_test : (b : Bool)
        → cond b (Err (Extra line.number))
        (ok_first (ok_or (move_of line.words) (Bad line.number)) (moves_in (end_line text) (count_in head - given - 1) lines))
        ≡ answer_first (cond b (Err (Extra line.number)) (ok_or (option_map Some (move_of line.words)) (Bad line.number)))
        (moves_left (after_answer (state text head given denied None)
        (cond b (Err (Extra line.number)) (ok_or (option_map Some (move_of line.words)) (Bad line.number)))))
    by_test true = refl
    by_test false = by_move (move_of line.words)

-- the moves left are the next answer, and what is left behind it
pub moves_left-step : (reader : Certificate)
    → moves_left reader ≡ answer_first (next_answer reader) (moves_left (after_answer reader (next_answer reader)))
moves_left-step reader = by_refusal reader.refusal
  where
    by_refusal : (r : Option CertFault)
        → moves_left (state reader.text reader.head reader.given reader.denied r)
        ≡ answer_first (next_answer (state reader.text reader.head reader.given reader.denied r))
        (moves_left (after_answer (state reader.text reader.head reader.given reader.denied r)
        (next_answer (state reader.text reader.head reader.given reader.denied r))))
    by_refusal (Some fault) = refl
    by_refusal None = step reader.text reader.head reader.given reader.denied (drop reader.given (behind_head (full_lines reader.text)))
        refl

pub left_after : (reader next : Certificate) (answer : Result (Option Move) CertFault) → answer ≡ next_answer reader
    → next ≡ after_answer reader answer
    → moves_left reader ≡ answer_first answer (moves_left next)
left_after reader next answer gives leads =
    moves_left-step reader
    ∙ ap (λ a. answer_first a (moves_left (after_answer reader a))) (sym gives)
    ∙ ap (λ (n : Certificate). answer_first answer (moves_left n)) (sym leads)

-- the moves of a reader that has just started are those of its text
pub moves_left-started : (text : List ℕ) (count peak : ℕ) → moves_left (state text (Moves count peak) 0 false None)
    ≡ moves_of_text count text
moves_left-started text count peak = ap (λ n. moves_in (end_line text) n (behind_head (full_lines text))) (omega arith)

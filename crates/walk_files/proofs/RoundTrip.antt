-- A list of moves that was written is read again.
use Rattle.walk_files.proofs.Common.{◌≡◌, ℕ, ◌+◌, ◌-◌, ◌^◌, ◌<◌, eqb, Bool, true, false, List, [], ◌∷◌, ◌++◌, length, map, refl, ap, ◌∙◌, arith, le-ltb, ne_eqb, All-head, All-tail, All-cons, All-map, All-weaker, Some, None, Ok, decimal, codes, All, Move, Insert, Remove, Across, IsWritable, IsLine, numbered, lines_from-written, AreWritable, all_writable, decimal-writable, number-writable, number_below-decimal, number-read, unmarked, lines_from, full_lines, end_line, line_of, cert_head_of, head_among, behind_head, direction_of, move_of, moves_in, head_of_text, fitting_head, moves_of_text, list_behind, list_of_text, with_peak, direction_word, move_words, head_words, list_lines, list_text, FitsFormat, MoveFits, Homotopic, Moves, MOST_PEAK}
use Rattle.surf_model.specs.Moves.{PeakedMoves}

-- ---- the words that are written

direction-writable : (forward : Bool) → IsWritable (direction_word forward)
direction-writable true = record { filled = refl; inside = refl }
direction-writable false = record { filled = refl; inside = refl }

spur-writable : (at via : ℕ) → at < 2 ^ 32 → via < 2 ^ 32 → AreWritable (decimal at ∷ decimal via ∷ [])
spur-writable at via low small = (number-writable at low, (number-writable via small, tt))

move-is_line : (move : Move) → MoveFits move → IsLine (move_words move)
move-is_line (Insert at via) fits = record {
  filled = refl;
  writable = all_writable (move_words (Insert at via)) (direction-writable true, spur-writable at via.0 fits.0 fits.1);
}
move-is_line (Remove at via) fits = record {
  filled = refl;
  writable = all_writable (move_words (Remove at via)) (direction-writable false, spur-writable at via.0 fits.0 fits.1);
}
move-is_line (Across at face corner forward taken) fits = record {
  filled = refl;
  writable = all_writable (move_words (Across at face corner forward taken)) (
    record { filled = refl; inside = refl },
    (
      number-writable at fits.0,
      (
        number-writable face.0 fits.1,
        (number-writable corner fits.2, (direction-writable forward, (number-writable taken fits.3, tt))),
      ),
    ),
  );
}

moves-are_lines : (moves : List Move) → All MoveFits moves → All IsLine (map move_words moves)
moves-are_lines moves all =
    All-map IsLine move_words moves (All-weaker MoveFits (λ (move : Move). IsLine (move_words move)) move-is_line moves all)

head-is_line : (list : PeakedMoves) → FitsFormat list → IsLine (head_words list)
head-is_line list fits = record {
  filled = refl;
  writable = all_writable (head_words list) (
    record { filled = refl; inside = refl },
    (decimal-writable (length list.moves) fits.count, (decimal-writable list.peak (omega (arith, fits.peak)), tt)),
  );
}

-- ---- what is read of them

direction : (forward : Bool) → direction_of (direction_word forward) ≡ Some forward
direction true = refl
direction false = refl

move_of-move_words : (move : Move) → MoveFits move → move_of (move_words move) ≡ Some move
move_of-move_words (Insert at via) fits = rw (number-read at fits.0, number-read via.0 fits.1) refl
move_of-move_words (Remove at via) fits = rw (number-read at fits.0, number-read via.0 fits.1) refl
move_of-move_words (Across at face corner forward taken) fits =
    rw (number-read at fits.0, number-read face.0 fits.1, number-read corner fits.2, direction forward, number-read taken fits.3) refl

head_of-head_words : (list : PeakedMoves) → FitsFormat list → cert_head_of (head_words list) ≡ Some (Moves (length list.moves) list.peak)
head_of-head_words list fits =
    rw (number_below-decimal (2 ^ 64) (length list.moves) fits.count fits.count, number-read list.peak (omega (arith, fits.peak))) refl

moves_in-numbered : (end n : ℕ) (moves : List Move) → All MoveFits moves
    → moves_in end (length moves) (numbered n (map move_words moves)) ≡ Ok moves
moves_in-numbered end n [] all = refl
moves_in-numbered end n (move ∷ moves) all =
    let some : eqb (length (move ∷ moves)) 0 ≡ false = ne_eqb (length (move ∷ moves)) 0 (λ e. omega (arith, e)) in
    let fewer : length (move ∷ moves) - 1 ≡ length moves = omega arith in
    rw (
      some,
      move_of-move_words move (All-head MoveFits move moves all),
      fewer,
      moves_in-numbered end (n + 1) moves (All-tail MoveFits move moves all),
    ) refl

-- ---- the whole text

unmarked-list_text : (list : PeakedMoves) → unmarked (list_text list) ≡ list_text list
unfolding unmarked
unmarked-list_text list = refl

full_lines-list_text : (list : PeakedMoves) → FitsFormat list
    → full_lines (list_text list) ≡ record { number = 1; words = head_words list } ∷ numbered 2 (map move_words list.moves)
full_lines-list_text list fits =
    ap (lines_from 1) (unmarked-list_text list)
    ∙ lines_from-written 1 (list_lines list) (All-cons IsLine (head_words list) (map move_words list.moves) (head-is_line list fits)
    (moves-are_lines list.moves fits.moves))

pub list_of_text-list_text : (list : PeakedMoves) → FitsFormat list → list_of_text (list_text list) ≡ Some (Ok list)
list_of_text-list_text list fits =
    let lines = full_lines-list_text list fits in
    let end = end_line (list_text list) in
    let head : head_of_text (list_text list) ≡ Ok (Moves (length list.moves) list.peak) =
    ap (head_among end) lines ∙ ap (fitting_head None 1) (head_of-head_words list fits) ∙ rw (le-ltb MOST_PEAK list.peak fits.peak) refl in
    let moves : moves_of_text (length list.moves) (list_text list) ≡ Ok list.moves =
    ap (λ ls. moves_in end (length list.moves) (behind_head ls)) lines ∙ moves_in-numbered end 2 list.moves fits.moves in
    ap (λ h. list_behind h (list_text list)) head ∙ ap (λ m. Some (with_peak list.peak m)) moves

-- ---- and behind the line of its answer

-- that line, which has one word
abbrev answer_words : List (List ℕ)
answer_words = codes "homotopic" ∷ []

answer-is_line : IsLine answer_words
answer-is_line = record { filled = refl; writable = all_writable answer_words (record { filled = refl; inside = refl }, tt) }

abbrev answered_text : PeakedMoves → List ℕ
answered_text list = line_of answer_words ++ list_text list

unmarked-answered : (list : PeakedMoves) → unmarked (answered_text list) ≡ answered_text list
unfolding unmarked
unmarked-answered list = refl

full_lines-answered : (list : PeakedMoves) → FitsFormat list
    → full_lines (answered_text list)
    ≡ record { number = 1; words = answer_words } ∷ record { number = 2; words = head_words list } ∷ numbered 3 (map move_words list.moves)
full_lines-answered list fits =
    ap (lines_from 1) (unmarked-answered list)
    ∙ lines_from-written 1 (answer_words ∷ list_lines list)
    (All-cons IsLine answer_words (list_lines list) answer-is_line
    (All-cons IsLine (head_words list) (map move_words list.moves) (head-is_line list fits) (moves-are_lines list.moves fits.moves)))

pub list_of_text-answered : (list : PeakedMoves) → FitsFormat list → list_of_text (answered_text list) ≡ Some (Ok list)
list_of_text-answered list fits =
    let lines = full_lines-answered list fits in
    let end = end_line (answered_text list) in
    let head : head_of_text (answered_text list) ≡ Ok (Moves (length list.moves) list.peak) =
    ap (head_among end) lines ∙ ap (fitting_head (Some Homotopic) 2) (head_of-head_words list fits)
    ∙ rw (le-ltb MOST_PEAK list.peak fits.peak) refl in
    let moves : moves_of_text (length list.moves) (answered_text list) ≡ Ok list.moves =
    ap (λ ls. moves_in end (length list.moves) (behind_head ls)) lines ∙ moves_in-numbered end 3 list.moves fits.moves in
    ap (λ h. list_behind h (answered_text list)) head ∙ ap (λ m. Some (with_peak list.peak m)) moves

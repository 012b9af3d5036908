-- The line of a move.
use Rattle.walk_files.proofs.Common.{ℕ, List, Move, line_of, move_words}

abbrev pub move_line : Move → List ℕ
move_line mv = line_of (move_words mv)

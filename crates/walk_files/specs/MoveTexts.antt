-- How a list of moves is written.
use Rattle.std.specs.Prelude.{ℕ, ◌<◌, ◌≤◌, ◌^◌, Bool, if◌then◌else◌, List, [], ◌∷◌, length, map, codes, decimal, flat_map, All}
use Rattle.text_scan.specs.Plain.{line_of}
use Rattle.surf_model.specs.Moves.{PeakedMoves}
use Rattle.surf_model.specs.declared.moves.Move.{Move}
use Rattle.surf_model.specs.declared.moves.Move.TheVariants.{Insert, Remove, Across}
use Rattle.walk_files.specs.declared.limits.TheConstants.{MOST_PEAK}

-- how a direction round a face is written
abbrev pub direction_word : Bool → List ℕ
direction_word forward = if forward then codes "+" else codes "-"

-- the words of a move
abbrev pub move_words : Move → List (List ℕ)
move_words (Insert at via) = codes "+" ∷ decimal at ∷ decimal via.0 ∷ []
move_words (Remove at via) = codes "-" ∷ decimal at ∷ decimal via.0 ∷ []
move_words (Across at face corner forward taken) =
    codes "f" ∷ decimal at ∷ decimal face.0 ∷ decimal corner ∷ direction_word forward ∷ decimal taken ∷ []

-- the words of the head: how many moves there are, and the peak
abbrev pub head_words : PeakedMoves → List (List ℕ)
head_words list = codes "MOVES" ∷ decimal (length list.moves) ∷ decimal list.peak ∷ []

-- the lines of a list of moves: the head, and one for each move
abbrev pub list_lines : PeakedMoves → List (List (List ℕ))
list_lines list = head_words list ∷ map move_words list.moves

-- the text of a list of moves
abbrev pub list_text : PeakedMoves → List ℕ
list_text list = flat_map line_of (list_lines list)

-- the numbers of a move fit 32 bits
abbrev pub MoveFits : Move → Type 0
MoveFits (Insert at via) = (at < 2 ^ 32) × (via.0 < 2 ^ 32)
MoveFits (Remove at via) = (at < 2 ^ 32) × (via.0 < 2 ^ 32)
MoveFits (Across at face corner forward taken) = (at < 2 ^ 32) × (face.0 < 2 ^ 32) × (corner < 2 ^ 32) × (taken < 2 ^ 32)

-- what a list must keep to, so that it reads back: its numbers are those of the program, and its peak is one that is read
pub record FitsFormat (list : PeakedMoves) : Type 0 where
  pub moves : All MoveFits list.moves
  pub count : length list.moves < 2 ^ 64
  pub peak : list.peak ≤ MOST_PEAK

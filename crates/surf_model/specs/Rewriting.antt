-- Moves carried about: further on in a longer walk, and back again.
use Rattle.std.specs.Prelude.{ℕ, ◌+◌, ◌-◌, ◌≤◌, not, List, [], ◌∷◌, ◌++◌, length, map}
use Rattle.surf_model.specs.FaceLists.{FaceList, face_at}
use Rattle.surf_model.specs.declared.moves.Move.{Move}
use Rattle.surf_model.specs.declared.moves.Move.TheVariants.{Insert, Remove, Across}

-- the same move where k entries stand in front
abbrev pub raised : ℕ → Move → Move
raised k (Insert at via) = Insert (k + at) via
raised k (Remove at via) = Remove (k + at) via
raised k (Across at face corner forward taken) = Across (k + at) face corner forward taken

-- the same moves where k entries stand in front
abbrev pub all_raised : ℕ → List Move → List Move
all_raised k moves = map (raised k) moves

-- a way across a face takes no more sides than these
abbrev pub TakesAtMost : ℕ → Move → Type 0
TakesAtMost sides (Insert at via) = Unit {0}
TakesAtMost sides (Remove at via) = Unit {0}
TakesAtMost sides (Across at face corner forward taken) = taken ≤ sides

-- the move back, where the face of the move has so many sides
abbrev pub inverse_of : ℕ → Move → Move
inverse_of sides (Insert at via) = Remove at via
inverse_of sides (Remove at via) = Insert at via
inverse_of sides (Across at face corner forward taken) = Across at face corner (not forward) (sides - taken)

-- how many sides the face of a move has
abbrev pub sides_of_move : FaceList → Move → ℕ
sides_of_move mesh (Insert at via) = 0
sides_of_move mesh (Remove at via) = 0
sides_of_move mesh (Across at face corner forward taken) = length (face_at mesh face.0)

-- the moves back, the last one first
abbrev pub way_back : FaceList → List Move → List Move
way_back mesh [] = []
way_back mesh (move ∷ moves) = way_back mesh moves ++ inverse_of (sides_of_move mesh move) move ∷ []

-- The turn word of a list of spokes that starts at the vertex, and the turns of one that comes after a state: tables over
-- neighbouring spokes, with no reduction.
use Rattle.std.specs.Prelude.{ℕ, ◌%◌, ◌==◌, Bool, false, not, if◌then◌else◌, List, [], ◌∷◌, length, slice_index}
use Rattle.turn_words.specs.Modulo.{add, minus}
use Rattle.turn_words.specs.HyperStates.{HyperState, turn_to}

-- where a spoke comes, round the vertex or round the middle
abbrev pub place_round : List ℕ → Bool → ℕ → ℕ
place_round places at_vertex spoke = if at_vertex then slice_index places spoke else spoke

-- the turns of the spokes that come after a spoke: each is its place less that of the one before, round the point where
-- the two meet
abbrev pub turns_after : List ℕ → Bool → ℕ → List ℕ → List ℕ
turns_after places at_vertex last [] = []
turns_after places at_vertex last (spoke ∷ spokes) =
    add (length places) (place_round places at_vertex spoke) (minus (length places) (place_round places at_vertex last))
    ∷ turns_after places (not at_vertex) spoke spokes

-- the place of the first spoke, and then the turns
abbrev pub turn_word_of : List ℕ → List ℕ → List ℕ
turn_word_of places [] = []
turn_word_of places (spoke ∷ spokes) = slice_index places spoke ∷ turns_after places false spoke spokes

-- the turns of the spokes that come after a state: that of the first against the state's number, and then those after it
abbrev pub turns_from : List ℕ → HyperState → List ℕ → List ℕ
turns_from places state [] = []
turns_from places state (spoke ∷ spokes) =
    turn_to places state spoke ∷ turns_after places (not (length state.word % 2 == 0)) spoke spokes

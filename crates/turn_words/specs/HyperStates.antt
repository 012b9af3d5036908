-- The states of the form for degrees from 5 on, and where a spoke leads them. A wheel is its list of places, and the
-- degree is the length of that list.
use Rattle.std.specs.Prelude.{◌≡◌, ℕ, ◌<◌, ◌≤◌, ◌%◌, ◌==◌, if◌then◌else◌, List, [], ◌∷◌, ◌++◌, length, slice_index, Some}
use Rattle.turn_words.specs.Modulo.{add, minus}
use Rattle.turn_words.specs.StepTable.{after_word_steps}
use Rattle.turn_words.specs.Canonical.{IsCanonical}
use Rattle.turn_words.specs.PutTurns.{Put, put_last}
use Rattle.turn_words.specs.Wheels.{IsWheel}
use Rattle.turn_words.specs.declared.step.Step.{Step}

-- a canonical word, and the number from which the next spoke's turn is counted
pub record HyperState : Type 0 where
  pub word : List ℕ
  pub number : ℕ

-- the state of the empty word
abbrev pub empty_state : HyperState
empty_state = record { word = []; number = 0 }

-- the path stands at the vertex
abbrev pub IsEven : HyperState → Type 0
IsEven state = length state.word % 2 ≡ 0

-- where a spoke comes: its place round the vertex, or its own number round the middle
abbrev pub value_at : List ℕ → List ℕ → ℕ → ℕ
value_at places word spoke = if length word % 2 == 0 then slice_index places spoke else spoke

-- the turn of a spoke, against the number
abbrev pub turn_to : List ℕ → HyperState → ℕ → ℕ
turn_to places state spoke =
    add (length places) (value_at places state.word spoke) (minus (length places) state.number)

-- what the turn of a spoke makes of the word
abbrev pub put_spoke : List ℕ → HyperState → ℕ → Put
put_spoke places state spoke = put_last (length places) state.word (turn_to places state spoke)

-- the number after a spoke was put: where it comes now, less 0 in the first case and the last, less the entry that
-- went in the second, less 1 in the third, and less -1 in the fourth
abbrev pub number_after : List ℕ → Put → ℕ → ℕ
number_after places ended spoke =
    add (length places) (value_at places ended.word spoke) (minus (length places) ended.change)

-- where a spoke leads a state
abbrev pub hyper_next : List ℕ → HyperState → ℕ → HyperState
hyper_next places state spoke =
    let ended = put_spoke places state spoke in
    record { word = ended.word; number = number_after places ended spoke }

-- the steps lead from the word with the turn of the spoke put last to the word after. They do so too where more turns
-- come behind it, the first of which is then changed
pub record LeadOn (places : List ℕ) (state : HyperState) (spoke : ℕ) (steps : List Step) : Type 0 where
  pub alone :
      after_word_steps (length places) steps (state.word ++ turn_to places state spoke ∷ [])
      ≡ Some (put_spoke places state spoke).word
  pub in_front : (turn : ℕ) (turns : List ℕ) → turn < length places →
      after_word_steps (length places) steps (state.word ++ turn_to places state spoke ∷ turn ∷ turns)
      ≡ Some ((put_spoke places state spoke).word ++ add (length places) turn (put_spoke places state spoke).change ∷ turns)

-- a wheel with five spokes at least
pub record IsHyperWheel (places : List ℕ) : Type 0 where
  pub five : 5 ≤ length places
  pub wheel : IsWheel places

-- the state is one of the wheel's
pub record BelongsTo (places : List ℕ) (state : HyperState) : Type 0 where
  pub own : IsHyperWheel places
  pub canonical : IsCanonical (length places) state.word
  pub number_below : state.number < length places

-- the form: its state, the runs of the word's turns, and for how many more spokes it has room
pub record HyperView : Type 0 where
  pub state : HyperState
  pub runs : List (ℕ × ℕ)
  pub spare : ℕ

-- What the definitions give, on words over the degrees 8 and 5 and on the wheel of a double torus.
use Rattle.std.specs.Prelude.{◌≡◌, ℕ, true, false, List, [], ◌∷◌, refl, Option, Some, None}
use Rattle.turn_words.specs.Modulo.{add, minus}
use Rattle.turn_words.specs.StepTable.{after_step, after_word_steps}
use Rattle.turn_words.specs.Canonical.{closes_bracket}
use Rattle.turn_words.specs.PutTurns.{Put, put_last}
use Rattle.turn_words.specs.HyperStates.{HyperState, empty_state, hyper_next}
use Rattle.turn_words.specs.FormLaws.{led}
use Rattle.turn_words.specs.SpokePaths.{turn_word_of, turns_from}
use Rattle.turn_words.specs.declared.step.Step.{Step}
use Rattle.turn_words.specs.declared.step.Step.TheVariants.{SpurIn, SpurOut, Push}

-- a step on a word over the degree 8
abbrev pub after : Step → List ℕ → Option (List ℕ)
after step word = after_step 8 step word

pub a_spur_goes : after (SpurOut 1) (6 ∷ 3 ∷ 0 ∷ 7 ∷ 4 ∷ []) ≡ Some (6 ∷ 2 ∷ 4 ∷ [])
unfolding add minus
a_spur_goes = refl

pub a_spur_at_the_end_goes : after (SpurOut 0) (5 ∷ 0 ∷ []) ≡ Some []
unfolding add minus
a_spur_at_the_end_goes = refl

pub no_spur_stands_there : after (SpurOut 0) (5 ∷ 1 ∷ 0 ∷ []) ≡ None
unfolding add minus
no_spur_stands_there = refl

pub a_spur_goes_in : after (SpurIn 1 3) (6 ∷ 2 ∷ 4 ∷ []) ≡ Some (6 ∷ 3 ∷ 0 ∷ 7 ∷ 4 ∷ [])
unfolding add minus
a_spur_goes_in = refl

pub a_spur_goes_in_at_the_end : after (SpurIn 2 5) (1 ∷ 2 ∷ []) ≡ Some (1 ∷ 2 ∷ 5 ∷ 0 ∷ [])
unfolding add minus
a_spur_goes_in_at_the_end = refl

pub a_spur_goes_into_the_empty_word : after (SpurIn 0 5) [] ≡ Some (5 ∷ 0 ∷ [])
unfolding add minus
a_spur_goes_into_the_empty_word = refl

pub no_spur_goes_in_behind_the_end : after (SpurIn 3 5) (1 ∷ 2 ∷ []) ≡ None
unfolding add minus
no_spur_goes_in_behind_the_end = refl

pub no_spur_begins_at_the_degree : after (SpurIn 0 8) (1 ∷ 2 ∷ []) ≡ None
unfolding add minus
no_spur_begins_at_the_degree = refl

pub a_push_up : after (Push 1 true) (6 ∷ 0 ∷ 7 ∷ 2 ∷ []) ≡ Some (6 ∷ 1 ∷ 1 ∷ 3 ∷ [])
unfolding add minus
a_push_up = refl

pub a_push_down : after (Push 1 false) (6 ∷ 1 ∷ 1 ∷ 3 ∷ []) ≡ Some (6 ∷ 0 ∷ 7 ∷ 2 ∷ [])
unfolding add minus
a_push_down = refl

pub a_push_at_the_end : after (Push 0 true) (7 ∷ 7 ∷ []) ≡ Some (0 ∷ 1 ∷ [])
unfolding add minus
a_push_at_the_end = refl

pub no_push_at_the_turn_2 : after (Push 0 false) (1 ∷ 2 ∷ 3 ∷ []) ≡ None
unfolding add minus
no_push_at_the_turn_2 = refl

-- the whole way from a bracket to its other side, step by step
pub a_bracket_goes : after_word_steps 8 (Push 3 false ∷ Push 2 false ∷ Push 1 false ∷ SpurOut 0 ∷ []) (1 ∷ 1 ∷ 2 ∷ 2 ∷ 1 ∷ [])
    ≡ Some (0 ∷ 6 ∷ 6 ∷ [])
unfolding add minus
a_bracket_goes = refl

pub brackets_close : closes_bracket (2 ∷ 2 ∷ 1 ∷ 5 ∷ []) ≡ true
brackets_close = refl

pub another_turn_closes_none : closes_bracket (2 ∷ 3 ∷ 1 ∷ []) ≡ false
another_turn_closes_none = refl

-- the entries of a word put one after another, each changed as the one before says
abbrev pub put_all : ℕ → Put → List ℕ → Put
put_all degree ended [] = ended
put_all degree ended (entry ∷ entries) = put_all degree (put_last degree ended.word (add degree entry ended.change)) entries

abbrev pub reduced : ℕ → List ℕ → List ℕ
reduced degree word = (put_all degree (record { word = []; change = 0 }) word).word

pub a_flip : reduced 8 (0 ∷ 7 ∷ []) ≡ 1 ∷ 1 ∷ []
unfolding add minus
a_flip = refl

pub a_close : reduced 8 (3 ∷ 1 ∷ 1 ∷ []) ≡ 2 ∷ []
unfolding add minus
a_close = refl

pub there_and_back : reduced 8 (5 ∷ 0 ∷ []) ≡ []
unfolding add minus
there_and_back = refl

pub a_long_flip : reduced 8 (0 ∷ 6 ∷ 6 ∷ 7 ∷ []) ≡ 1 ∷ 1 ∷ 2 ∷ 2 ∷ []
unfolding add minus
a_long_flip = refl

pub a_long_close : reduced 8 (1 ∷ 1 ∷ 2 ∷ 2 ∷ 1 ∷ []) ≡ 0 ∷ 6 ∷ 6 ∷ []
unfolding add minus
a_long_close = refl

pub a_close_in_the_middle : reduced 8 (4 ∷ 3 ∷ 1 ∷ 2 ∷ 1 ∷ 5 ∷ []) ≡ 4 ∷ 2 ∷ 6 ∷ 4 ∷ []
unfolding add minus
a_close_in_the_middle = refl

pub a_canonical_word : reduced 8 (4 ∷ 2 ∷ 6 ∷ 4 ∷ []) ≡ 4 ∷ 2 ∷ 6 ∷ 4 ∷ []
unfolding add minus
a_canonical_word = refl

pub a_spur_in_the_middle : reduced 8 (3 ∷ 2 ∷ 0 ∷ 4 ∷ []) ≡ 3 ∷ 6 ∷ []
unfolding add minus
a_spur_in_the_middle = refl

pub a_close_and_a_spur : reduced 8 (3 ∷ 1 ∷ 1 ∷ 0 ∷ []) ≡ 3 ∷ 1 ∷ []
unfolding add minus
a_close_and_a_spur = refl

pub degree_five : reduced 5 (0 ∷ 3 ∷ 4 ∷ []) ≡ 1 ∷ 1 ∷ 2 ∷ []
unfolding add minus
degree_five = refl

-- the places of the eight spokes of a double torus
abbrev pub double_torus : List ℕ
double_torus = 0 ∷ 5 ∷ 6 ∷ 7 ∷ 4 ∷ 1 ∷ 2 ∷ 3 ∷ []

-- the word to which spokes lead there
abbrev pub word_along : List ℕ → List ℕ
word_along spokes = (led hyper_next double_torus empty_state spokes).word

pub one_loop : word_along (3 ∷ 4 ∷ []) ≡ 7 ∷ 1 ∷ []
unfolding add minus
one_loop = refl

pub another_loop : word_along (4 ∷ 2 ∷ []) ≡ 4 ∷ 6 ∷ []
unfolding add minus
another_loop = refl

pub a_loop_from_the_first_spoke : word_along (0 ∷ 4 ∷ []) ≡ 0 ∷ 4 ∷ []
unfolding add minus
a_loop_from_the_first_spoke = refl

pub one_loop_and_the_other : word_along (3 ∷ 4 ∷ 4 ∷ 2 ∷ []) ≡ 0 ∷ 1 ∷ []
unfolding add minus
one_loop_and_the_other = refl

pub the_other_loop_first : word_along (4 ∷ 2 ∷ 3 ∷ 4 ∷ []) ≡ 4 ∷ 5 ∷ []
unfolding add minus
the_other_loop_first = refl

-- the turn word of the spokes has one entry for each, and is not reduced
pub the_turn_word : turn_word_of double_torus (3 ∷ 4 ∷ 4 ∷ 2 ∷ []) ≡ 7 ∷ 1 ∷ 0 ∷ 6 ∷ []
unfolding add minus
the_turn_word = refl

-- from a state with another number only the first turn is another, and the word is too
abbrev pub another_number : HyperState
another_number = record { word = []; number = 1 }

pub turns_from_another_number : turns_from double_torus another_number (3 ∷ 4 ∷ 4 ∷ 2 ∷ []) ≡ 6 ∷ 1 ∷ 0 ∷ 6 ∷ []
unfolding add minus
turns_from_another_number = refl

pub word_from_another_number : (led hyper_next double_torus another_number (3 ∷ 4 ∷ 4 ∷ 2 ∷ [])).word ≡ 7 ∷ 1 ∷ []
unfolding add minus
word_from_another_number = refl

-- the two sides of the quad on the spokes 0 and 2
pub round_a_quad : led hyper_next double_torus empty_state (0 ∷ 1 ∷ []) ≡ led hyper_next double_torus empty_state (3 ∷ 2 ∷ [])
unfolding add minus
round_a_quad = refl

-- What the definitions give, on the wheel of a double torus.
use Rattle.std.specs.Prelude.{◌≡◌, false, [], ◌∷◌, refl, Some, None, map}
use Rattle.turn_words.specs.Modulo.{add, minus}
use Rattle.turn_words.specs.Examples.{double_torus}
use Rattle.spoke_rings.specs.CyclicWords.{cyclic_turn}
use Rattle.spoke_rings.specs.LoopSteps.{after_loop_step, after_loop_steps, spur_out, spur_in, across, rotate}

-- the cyclic turns of a closed list, twice round
pub the_turns : map (cyclic_turn double_torus (3 ∷ 4 ∷ 4 ∷ 2 ∷ [])) (0 ∷ 1 ∷ 2 ∷ 3 ∷ 4 ∷ 5 ∷ 6 ∷ 7 ∷ [])
    ≡ 1 ∷ 1 ∷ 0 ∷ 6 ∷ 1 ∷ 1 ∷ 0 ∷ 6 ∷ []
unfolding add minus
the_turns = refl

pub a_spur_leaves_the_ring : after_loop_step double_torus (spur_out 1) (3 ∷ 4 ∷ 4 ∷ 2 ∷ []) ≡ Some (3 ∷ 2 ∷ [])
a_spur_leaves_the_ring = refl

pub a_spur_comes : after_loop_step double_torus (spur_in 1 4) (3 ∷ 2 ∷ []) ≡ Some (3 ∷ 4 ∷ 4 ∷ 2 ∷ [])
a_spur_comes = refl

pub no_such_spoke : after_loop_step double_torus (spur_in 1 8) (3 ∷ 2 ∷ []) ≡ None
no_such_spoke = refl

pub across_a_quad : after_loop_step double_torus (across 0 0 2 false) (0 ∷ 1 ∷ 4 ∷ 2 ∷ []) ≡ Some (3 ∷ 2 ∷ 4 ∷ 2 ∷ [])
unfolding add minus
across_a_quad = refl

pub no_way_from_the_middle : after_loop_step double_torus (across 1 0 2 false) (4 ∷ 0 ∷ 1 ∷ 4 ∷ []) ≡ None
unfolding add minus
no_way_from_the_middle = refl

pub round_by_two : after_loop_step double_torus (rotate 2) (3 ∷ 4 ∷ 6 ∷ 2 ∷ []) ≡ Some (6 ∷ 2 ∷ 3 ∷ 4 ∷ [])
round_by_two = refl

pub not_round_by_one : after_loop_step double_torus (rotate 1) (3 ∷ 4 ∷ 6 ∷ 2 ∷ []) ≡ None
not_round_by_one = refl

-- a spur that lies over the seam
pub a_spur_over_the_seam : after_loop_steps double_torus (rotate 2 ∷ spur_out 1 ∷ []) (3 ∷ 4 ∷ 6 ∷ 3 ∷ []) ≡ Some (6 ∷ 4 ∷ [])
a_spur_over_the_seam = refl

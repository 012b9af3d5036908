-- What the definitions give.
use Rattle.std.specs.Prelude.{◌≡◌, ℕ, true, false, List, [], ◌∷◌, refl, Some, None}
use Rattle.turn_words.specs.Modulo.{add, minus}
use Rattle.spoke_paths.specs.PathSteps.{is_quad, after_path_step, after_path_steps}
use Rattle.spoke_paths.specs.declared.step.PathStep.TheVariants.{Spur, Turn}

-- the places of a torus with four sides
abbrev pub torus_places : List ℕ
torus_places = 0 ∷ 1 ∷ 2 ∷ 3 ∷ []

pub a_quad : is_quad torus_places 0 2 ≡ true
unfolding add minus
a_quad = refl

pub no_quad : is_quad torus_places 0 1 ≡ false
unfolding add minus
no_quad = refl

pub a_spur_leaves_the_path : after_path_step torus_places (Spur 1) (0 ∷ 3 ∷ 3 ∷ 2 ∷ []) ≡ Some (0 ∷ 2 ∷ [])
a_spur_leaves_the_path = refl

pub no_spur_there : after_path_step torus_places (Spur 0) (0 ∷ 3 ∷ 3 ∷ 2 ∷ []) ≡ None
no_spur_there = refl

pub down_at_the_vertex : after_path_step torus_places (Turn 2 0 2 false) (1 ∷ 3 ∷ 0 ∷ 1 ∷ 2 ∷ []) ≡ Some (1 ∷ 3 ∷ 3 ∷ 2 ∷ 2 ∷ [])
unfolding add minus
down_at_the_vertex = refl

pub up_at_the_vertex : after_path_step torus_places (Turn 2 0 2 true) (1 ∷ 3 ∷ 3 ∷ 2 ∷ 2 ∷ []) ≡ Some (1 ∷ 3 ∷ 0 ∷ 1 ∷ 2 ∷ [])
unfolding add minus
up_at_the_vertex = refl

pub down_in_the_middle : after_path_step torus_places (Turn 1 0 2 false) (1 ∷ 3 ∷ 0 ∷ []) ≡ Some (1 ∷ 2 ∷ 1 ∷ [])
unfolding add minus
down_in_the_middle = refl

pub up_in_the_middle : after_path_step torus_places (Turn 1 0 2 true) (1 ∷ 2 ∷ 1 ∷ []) ≡ Some (1 ∷ 3 ∷ 0 ∷ [])
unfolding add minus
up_in_the_middle = refl

pub no_way_round_the_quad : after_path_step torus_places (Turn 1 0 2 false) (1 ∷ 0 ∷ 1 ∷ []) ≡ None
unfolding add minus
no_way_round_the_quad = refl

pub no_turn_round_what_is_no_quad : after_path_step torus_places (Turn 0 0 1 false) (0 ∷ 1 ∷ []) ≡ None
unfolding add minus
no_turn_round_what_is_no_quad = refl

pub steps_one_after_another :
    after_path_steps torus_places (Turn 2 0 2 false ∷ Spur 1 ∷ Spur 1 ∷ []) (1 ∷ 3 ∷ 0 ∷ 1 ∷ []) ≡ None
unfolding add minus
steps_one_after_another = refl

pub round_a_quad_and_out :
    after_path_steps torus_places (Turn 0 0 2 false ∷ Spur 1 ∷ Spur 0 ∷ []) (0 ∷ 1 ∷ 2 ∷ 3 ∷ []) ≡ Some []
unfolding add minus
round_a_quad_and_out = refl

-- What the definitions give, for an action that counts darts, on small walks.
use Rattle.std.specs.Prelude.{◌≡◌, ℕ, ◌+◌, true, false, [], ◌∷◌, refl}
use Rattle.walk_actions.specs.Actions.{run, walked, vertices_beyond}

abbrev counted : ℕ → ℕ → ℕ → ℕ
counted s u v = s + 1

three_darts : walked counted 0 (5 ∷ 6 ∷ 7 ∷ 5 ∷ []) ≡ 3
three_darts = refl

three_from_a_vertex : run counted 0 5 (6 ∷ 7 ∷ 5 ∷ []) ≡ 3
three_from_a_vertex = refl

no_dart : walked counted 4 (5 ∷ []) ≡ 4
no_dart = refl

-- the vertices round a square from its second corner on
two_steps_on : vertices_beyond (5 ∷ 6 ∷ 7 ∷ 8 ∷ []) true 1 2 ≡ 7 ∷ 8 ∷ []
two_steps_on = refl

three_steps_back : vertices_beyond (5 ∷ 6 ∷ 7 ∷ 8 ∷ []) false 1 3 ≡ 5 ∷ 8 ∷ 7 ∷ []
three_steps_back = refl

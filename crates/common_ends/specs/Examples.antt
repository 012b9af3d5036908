-- The definitions at work on two walks that go along together, part, and come together again. Each line is proved by computing.
use Rattle.std.specs.Prelude.{◌≡◌, ℕ, true, List, [], ◌∷◌, refl}
use Rattle.surf_model.specs.declared.names.FaceName.{FaceName}
use Rattle.surf_model.specs.declared.moves.Move.TheVariants.{Across}
use Rattle.common_ends.specs.Trimmed.{between, put_around}

-- over a square, by its one side or by the other
abbrev by_5 : List ℕ
by_5 = 1 ∷ 2 ∷ 5 ∷ 4 ∷ 7 ∷ []

abbrev by_3 : List ℕ
by_3 = 1 ∷ 2 ∷ 3 ∷ 4 ∷ 7 ∷ []

-- they begin with one common dart and end with one
left_of_first : between 1 1 by_5 ≡ 2 ∷ 5 ∷ 4 ∷ []
left_of_first = refl

left_of_second : between 1 1 by_3 ≡ 2 ∷ 3 ∷ 4 ∷ []
left_of_second = refl

abbrev face : FaceName
face = record { 0 = 0 }

-- The move across the square is at the first entry of what is left, and at the second one of the whole.
across_the_square :
    put_around (record { front = 1; back = 1 }) (record { moves = Across 0 face 0 true 2 ∷ []; peak = 2 })
    ≡ record { moves = Across 1 face 0 true 2 ∷ []; peak = 4 }
across_the_square = refl

-- Spokes in pairs, of which the first leads to the middle and the second back to the vertex.
use Rattle.std.specs.Prelude.{ℕ, List, [], ◌∷◌}
use Rattle.flat_forms.specs.Vectors.{Vector, origin, plus, less, unit_step}

-- the spokes of the pairs, one after another
abbrev pub spokes_of : List (ℕ × ℕ) → List ℕ
spokes_of [] = []
spokes_of (pair ∷ pairs) = pair.0 ∷ pair.1 ∷ spokes_of pairs

-- the sum, over the pairs, of the step of the first spoke less that of the second
abbrev pub sum_of_pairs : List (ℕ × ℕ) → Vector
sum_of_pairs [] = origin
sum_of_pairs (pair ∷ pairs) = plus (less (unit_step pair.0) (unit_step pair.1)) (sum_of_pairs pairs)

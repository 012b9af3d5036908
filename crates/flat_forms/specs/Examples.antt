-- Walks on the torus of seven vertices, cut open into a square: the spokes of their darts, and where these lead.
use Rattle.std.specs.Prelude.{◌≡◌, ℕ, List, [], ◌∷◌, refl, ℤ, pos, negsuc}
use Rattle.turn_words.specs.FormLaws.{led}
use Rattle.flat_forms.specs.Vectors.{Vector, origin}
use Rattle.flat_forms.specs.FlatStates.{flat_next}
use Rattle.flat_forms.specs.Pairs.{sum_of_pairs}

abbrev pub vector : ℤ → ℤ → Vector
vector x y = record { x = x; y = y }

-- where spokes lead from the start
abbrev pub end_of : List ℕ → Vector
end_of spokes = led flat_next (0 ∷ 1 ∷ 2 ∷ 3 ∷ []) origin spokes

-- the walk 0 1 2 0
pub one_loop_in_the_plane : end_of (3 ∷ 0 ∷ []) ≡ vector (negsuc 0) (negsuc 0)
one_loop_in_the_plane = refl

-- the walk 0 2 4 0
pub another_loop_in_the_plane : end_of (0 ∷ 2 ∷ []) ≡ vector (pos 2) (pos 0)
another_loop_in_the_plane = refl

-- the walk 0 1 2 3 4 5 6 0
pub through_all_vertices : end_of (3 ∷ 0 ∷ 0 ∷ 1 ∷ 2 ∷ 1 ∷ []) ≡ vector (negsuc 0) (negsuc 2)
through_all_vertices = refl

-- the same as a sum over its darts
pub the_sum : sum_of_pairs ((3, 0) ∷ (0, 1) ∷ (2, 1) ∷ []) ≡ vector (negsuc 0) (negsuc 2)
the_sum = refl

-- a spoke on its own leads to a middle, and the same spoke back
pub to_a_middle : end_of (1 ∷ []) ≡ vector (pos 0) (pos 1)
to_a_middle = refl

pub there_and_back_in_the_plane : end_of (1 ∷ 1 ∷ []) ≡ origin
there_and_back_in_the_plane = refl

-- the two sides of the quad on the spokes 0 and 2
pub one_side : end_of (0 ∷ 1 ∷ []) ≡ vector (pos 1) (negsuc 0)
one_side = refl

pub the_other_side : end_of (3 ∷ 2 ∷ []) ≡ vector (pos 1) (negsuc 0)
the_other_side = refl

-- The fold of the double onto the mesh: a vertex and its mirror become one, and a walk is led to a walk of the mesh.
use Rattle.std.specs.Prelude.{ℕ, ◌-◌, nat_lt, ◌==◌, if◌then◌else◌, List, [], ◌∷◌, map}

-- the fold of a vertex of the double, of a mesh of so many vertices
abbrev pub fold : ℕ → ℕ → ℕ
fold count v = if nat_lt v count then v else v - count

-- of vertices that follow the vertex `last`, those that differ from the one before
abbrev pub steps_behind : ℕ → List ℕ → List ℕ
steps_behind last [] = []
steps_behind last (v ∷ rest) = if v == last then steps_behind last rest else v ∷ steps_behind v rest

-- a list of vertices in which of equal neighbours one alone is left
abbrev pub without_repeats : List ℕ → List ℕ
without_repeats [] = []
without_repeats (v ∷ rest) = v ∷ steps_behind v rest

-- the fold of a walk of the double
abbrev pub folded : ℕ → List ℕ → List ℕ
folded count walk = without_repeats (map (fold count) walk)

-- Sums of whole numbers: of a list, along a walk, and along the boundary of a face. A number for each dart is a number for each
-- ordered pair of vertices.
use Rattle.std.specs.Prelude.{ℕ, ◌==◌, ◌&&◌, true, if◌then◌else◌, List, [], ◌∷◌, length, ℤ, pos, ◌+ℤ◌, neg_ℤ}
use Rattle.surf_model.specs.FaceLists.{corners_from}

-- the sum of a list
abbrev pub total : List ℤ → ℤ
total [] = pos 0
total (number ∷ numbers) = number +ℤ total numbers

-- the sum of the numbers of a walk's darts
abbrev pub along : (ℕ → ℕ → ℤ) → List ℕ → ℤ
along number [] = pos 0
along number (u ∷ []) = pos 0
along number (u ∷ v ∷ walk) = number u v +ℤ along number (v ∷ walk)

-- once round a face as the file lists it: its corners, and the first one again
abbrev pub round : List ℕ → List ℕ
round face = corners_from face true 0 (length face)

-- what a dart from u to v gives to an edge: the amount where it runs from the edge's lower vertex to the higher one, minus the amount
-- where it runs the other way, and nothing where it is no dart of the edge
abbrev pub share : ℤ → ℕ → ℕ → ℕ → ℕ → ℤ
share amount low high u v =
    if u == low && v == high then amount
    else if u == high && v == low then neg_ℤ amount
    else pos 0

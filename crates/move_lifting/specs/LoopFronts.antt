-- Where a turn on a path of spokes puts the loop of the last side in.
use Rattle.std.specs.Prelude.{ℕ, ◌+◌, ◌==◌, if◌then◌else◌, List, [], ◌∷◌, ◌++◌, take}
use Rattle.spoke_paths.specs.PathTurns.{from_vertex}

-- The spokes behind which a turn at a place of the path puts the loop in: those before the place, and where the loop starts further
-- on, those of one way round the quad that lead there.
abbrev pub spokes_in_front : ℕ → List ℕ → ℕ → ℕ → ℕ → List ℕ
spokes_in_front last path at side partner =
    take at path
    ++ (if side == last
    then (if from_vertex at then [] else (partner + 1) ∷ [])
    else (if from_vertex at then side ∷ (side + 1) ∷ [] else last ∷ []))

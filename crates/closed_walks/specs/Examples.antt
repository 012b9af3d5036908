-- What the definitions give, on small walks.
use Rattle.std.specs.Prelude.{◌≡◌, [], ◌∷◌, refl, Some, None}
use Rattle.closed_walks.specs.FreeHomotopy.{from_next}

pub three_darts_round : from_next (0 ∷ 1 ∷ 2 ∷ 0 ∷ []) ≡ Some (1 ∷ 2 ∷ 0 ∷ 1 ∷ [])
three_darts_round = refl

pub a_spur_round : from_next (0 ∷ 1 ∷ 0 ∷ []) ≡ Some (1 ∷ 0 ∷ 1 ∷ [])
a_spur_round = refl

pub no_dart : from_next (3 ∷ []) ≡ None
no_dart = refl

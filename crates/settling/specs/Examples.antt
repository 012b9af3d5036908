-- What the definitions give, on rows of turns over the degree 8.
use Rattle.std.specs.Prelude.{◌≡◌, ℕ, [], ◌∷◌, refl}
use Rattle.turn_words.specs.Modulo.{add, minus}
use Rattle.settling.specs.TurnRows.{entries, put_along}

-- a row that is the same turn everywhere
abbrev pub always : ℕ → ℕ → ℕ
always turn at = turn

pub some_entries : entries (always 3) 5 2 ≡ 3 ∷ 3 ∷ []
some_entries = refl

-- the first three entries of the row eat the word up, and the later ones are only put last
pub a_row_settles : put_along 8 (record { word = 0 ∷ 5 ∷ 5 ∷ []; change = 5 }) (always 3) 5
    ≡ record { word = 3 ∷ 3 ∷ []; change = 0 }
unfolding add minus
a_row_settles = refl

-- turns that are all -2 never settle: each flips the one before
pub a_row_that_never_settles : put_along 8 (record { word = 0 ∷ 1 ∷ []; change = 1 }) (always 6) 3
    ≡ record { word = 0 ∷ 2 ∷ 2 ∷ 2 ∷ 1 ∷ []; change = 1 }
unfolding add minus
a_row_that_never_settles = refl

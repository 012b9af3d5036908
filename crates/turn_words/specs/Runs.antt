-- Turns kept as runs: a list of pairs, each a value and how often it stands in a row.
use Rattle.std.specs.Prelude.{◌≡◌, ◌≢◌, ℕ, ◌<◌, List, [], ◌∷◌, ◌++◌, replicate}

-- the runs written out, each value as often as its count says
abbrev pub written : List (ℕ × ℕ) → List ℕ
written [] = []
written (run ∷ runs) = replicate run.1 run.0 ++ written runs

-- no run is empty
abbrev pub AreFilled : List (ℕ × ℕ) → Type 0
AreFilled [] = Unit {0}
AreFilled (run ∷ runs) = (0 < run.1) × AreFilled runs

-- neighbouring runs have different values
abbrev pub AreApart : List (ℕ × ℕ) → Type 0
AreApart [] = Unit {0}
AreApart (run ∷ []) = Unit {0}
AreApart (run ∷ next ∷ runs) = (run.0 ≢ next.0) × AreApart (next ∷ runs)

-- the runs of a list of turns. A list has no others
pub record AreRunsOf (turns : List ℕ) (runs : List (ℕ × ℕ)) : Type 0 where
  pub written_out : written runs ≡ turns
  pub filled : AreFilled runs
  pub apart : AreApart runs

-- a stack of runs: the bottom run first, and how many more runs there is room for
pub record RunStackView : Type 0 where
  pub runs : List (ℕ × ℕ)
  pub spare : ℕ

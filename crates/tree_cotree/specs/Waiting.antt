-- Darts that wait while a search is underway.
use Rattle.std.specs.Prelude.{◌≡◌, ℕ, List, ◌∷◌, ◌++◌}
use Rattle.surf_model.specs.declared.names.DartName.{DartName}
use Rattle.tree_cotree.specs.RingViews.{dart_numbers}

-- those that wait for a patch of their own, and then those of the present patch
abbrev pub waiting_darts : List DartName → List DartName → List ℕ
waiting_darts far near = dart_numbers (far ++ near)

-- a number leaves a list: it stood between what is left
pub record IsTakenOut (old new : List ℕ) (x : ℕ) : Type 0 where
  pub before : List ℕ
  pub behind : List ℕ
  pub was : old ≡ before ++ x ∷ behind
  pub is : new ≡ before ++ behind

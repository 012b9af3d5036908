-- What a caller sees of the walks of a text.
use Rattle.std.specs.Prelude.{ℕ, List}

-- what a walk text stands for: its version, and its walks, in which groups are written out
pub record WalkText : Type 0 where
  pub version : ℕ
  pub walks : List (List ℕ)

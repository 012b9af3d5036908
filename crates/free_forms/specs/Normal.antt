-- Normal walks. Each class of homotopic walks has one, so that two walks are homotopic exactly where their normal walks are equal.
use Rattle.std.specs.Prelude.{ℕ, ◌+◌, ◌<◌, List, length, slice_index}
use Rattle.surf_model.specs.Moves.{Homotopic}
use Rattle.surf_model.specs.FreeWalks.{HasNoSpur}
use Rattle.free_forms.specs.Parents.{OpenView, IsParentEdge}

-- the walk has no spur (backtrack), and goes along no parent edge
pub record IsNormal (surface : OpenView) (walk : List ℕ) : Type 0 where
  pub no_spur : HasNoSpur walk
  pub no_parent : (k : ℕ) → k + 1 < length walk → IsParentEdge surface (slice_index walk k) (slice_index walk (k + 1)) → ⊥

-- the other walk is a normal walk of the first: some list of moves leads to it
pub record IsNormalWalkOf (surface : OpenView) (walk other : List ℕ) : Type 0 where
  pub normal : IsNormal surface other
  pub homotopic : Homotopic surface.mesh walk other

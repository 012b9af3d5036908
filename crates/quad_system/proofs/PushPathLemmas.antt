-- The two ways round the quad of a side of a polygon and its partner, with spokes behind.
use Rattle.quad_system.proofs.Common.{ℕ, Bool, List, ◌++◌}
use Rattle.spoke_paths.specs.PathSteps.{upper_way, lower_way}
pub use Rattle.spoke_paths.proofs.WordsKeep.{IsQuadWheel, add_back}

abbrev pub upper_side : ℕ → (ℕ → ℕ) → Bool → ℕ → List ℕ → List ℕ
upper_side degree partner at_vertex a after = upper_way degree at_vertex a (partner a) ++ after

abbrev pub lower_side : ℕ → (ℕ → ℕ) → Bool → ℕ → List ℕ → List ℕ
lower_side degree partner at_vertex a after = lower_way degree at_vertex a (partner a) ++ after

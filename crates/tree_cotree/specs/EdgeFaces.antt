-- Faces that are kept for the edges on which darts of theirs are kept.
use Rattle.std.specs.Prelude.{◌≡◌, ℕ, ◌<◌, false, List, Option, Some, is_some}
use Rattle.halfedge_map.specs.RotationSystems.{Rotations}
use Rattle.tree_cotree.specs.Searches.{kept_at}
use Rattle.tree_cotree.specs.Markings.{AreMarked}

-- for the edges of the darts that are kept for the first n faces, these faces, and none for other edges
pub record AreBelowEdges (maps : Rotations) (from : List (Option ℕ)) (edges : ℕ) (below : ℕ → Option ℕ) (n : ℕ) : Type 0 where
  pub sets : AreMarked maps from edges (λ e. false) (λ e. is_some (below e)) n
  pub faces : (e f : ℕ) → below e ≡ Some f → (x : ℕ) × (f < n) × (kept_at from f ≡ Some x) × (maps.edge x ≡ e)
  pub keeps : (f x : ℕ) → f < n → kept_at from f ≡ Some x → below (maps.edge x) ≡ Some f

-- Edges that are given a kind by the darts that a search keeps.
use Rattle.std.specs.Prelude.{◌≡◌, ◌≢◌, ◌⊎◌, ℕ, ◌+◌, ◌<◌, Bool, true, false, List, length, slice_index_or, Option, Some, is_some}
use Rattle.surf_model.specs.Numbers.{count_below}
use Rattle.halfedge_map.specs.RotationSystems.{Rotations}
use Rattle.tree_cotree.specs.declared.split.Kind.{Kind}
use Rattle.tree_cotree.specs.declared.split.Kind.TheVariants.{Tree}
use Rattle.tree_cotree.specs.Searches.{kept_at, has_kind}

-- each kept dart is a dart, and no two of them lie on one edge
pub record AreDartsApart (maps : Rotations) (from : List (Option ℕ)) : Type 0 where
  pub within : (v x : ℕ) → kept_at from v ≡ Some x → x < maps.darts
  pub apart : (v w x y : ℕ) → kept_at from v ≡ Some x → kept_at from w ≡ Some y → v ≢ w → maps.edge x ≢ maps.edge y

-- a set of edges, with those of the darts that are kept for the first n nodes put in
pub record AreMarked (maps : Rotations) (from : List (Option ℕ)) (edges : ℕ) (old new : ℕ → Bool) (n : ℕ) : Type 0 where
  pub count : count_below new edges ≡ count_below old edges + count_below (λ w. is_some (kept_at from w)) n
  pub marked : (v x : ℕ) → v < n → kept_at from v ≡ Some x → new (maps.edge x) ≡ true
  pub kept : (e : ℕ) → old e ≡ true → new e ≡ true
  pub only : (e : ℕ) → new e ≡ true → (old e ≡ true) ⊎ ((v : ℕ) × (x : ℕ) × (v < n) × (kept_at from v ≡ Some x) × (maps.edge x ≡ e))

-- the kinds, with those edges given a kind
pub record IsMarked (maps : Rotations) (from : List (Option ℕ)) (kind : Kind) (old new : List Kind) (n : ℕ) : Type 0 where
  pub long : length new ≡ length old
  pub sets : AreMarked maps from (length old) (has_kind old kind) (has_kind new kind) n
  pub others : (e : ℕ) → has_kind new kind e ≡ false → slice_index_or new e Tree ≡ slice_index_or old e Tree

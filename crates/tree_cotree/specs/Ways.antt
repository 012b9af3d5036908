-- Trees over the nodes that darts belong to, in which a dart is kept for each node but the root, and ways up them.
use Rattle.std.specs.Prelude.{◌≡◌, ℕ, ◌<◌, Bool, true, List, [], ◌∷◌, length, Option, Some, None}
use Rattle.surf_model.specs.Surfaces.{AreJoined}
use Rattle.halfedge_map.specs.RotationSystems.{Rotations}
use Rattle.tree_cotree.specs.Searches.{kept_at}

-- the dart that is kept for the node u leads to the node v
abbrev pub LeadsUp : Rotations → (ℕ → ℕ) → List (Option ℕ) → ℕ → ℕ → Type 0
LeadsUp maps node from u v = (dart : ℕ) × (kept_at from u ≡ Some dart) × (node (maps.twin dart) ≡ v)

-- A tree: none is kept for the root, for other nodes a dart of theirs on an allowed edge, and these lead from any node to the root.
pub record IsRooted (maps : Rotations) (node : ℕ → ℕ) (allowed : ℕ → Bool) (bound root : ℕ) (from : List (Option ℕ)) : Type 0 where
  pub long : length from ≡ bound
  pub at_root : (d : ℕ) × (d < maps.darts) × (node d ≡ root)
  pub none : kept_at from root ≡ None
  pub within : (v x : ℕ) → kept_at from v ≡ Some x → x < maps.darts
  pub of_node : (v x : ℕ) → kept_at from v ≡ Some x → node x ≡ v
  pub inside : (v x : ℕ) → kept_at from v ≡ Some x → allowed (maps.edge x) ≡ true
  pub to_root : (d : ℕ) → d < maps.darts → AreJoined (LeadsUp maps node from) (node d) root

-- the kept darts make a tree over all faces
abbrev pub HasRoot : Rotations → List (Option ℕ) → Type 0
HasRoot maps from = (root : ℕ) × IsRooted maps maps.face (λ e. true) (length from) root from

-- the kept darts lead from the face f through these to the face g
abbrev pub IsWay : Rotations → List (Option ℕ) → ℕ → List ℕ → ℕ → Type 0
IsWay maps from f [] g = f ≡ g
IsWay maps from f (dart ∷ way) g = (kept_at from f ≡ Some dart) × IsWay maps from (maps.face (maps.twin dart)) way g

-- Sets of edges on a rotation system: the rings that they leave, and spanning trees and cotrees. A set is a test on the
-- numbers of the edges.
use Rattle.std.specs.Prelude.{◌≡◌, ℕ, ◌+◌, ◌<◌, Bool, true, if◌then◌else◌}
use Rattle.surf_model.specs.Numbers.{count_below}
use Rattle.halfedge_map.specs.Orbits.{IsReached}
use Rattle.surf_model.specs.Surfaces.{AreJoined}
use Rattle.halfedge_map.specs.RotationSystems.{Rotations}

-- the dart after a dart on the rings of a set of edges: go on in the face after a dart of the set, and else turn at its origin
abbrev pub after_dart : Rotations → (ℕ → Bool) → ℕ → ℕ
after_dart maps inside dart = if inside (maps.edge dart) then maps.next dart else maps.next (maps.twin dart)

-- a dart of the set leads from the node u to the node v, where each dart belongs to a node and its twin to the next one
pub record IsStepIn (maps : Rotations) (node : ℕ → ℕ) (inside : ℕ → Bool) (u v dart : ℕ) : Type 0 where
  pub within : dart < maps.darts
  pub in_set : inside (maps.edge dart) ≡ true
  pub starts : node dart ≡ u
  pub ends : node (maps.twin dart) ≡ v

abbrev pub StepsIn : Rotations → (ℕ → ℕ) → (ℕ → Bool) → ℕ → ℕ → Type 0
StepsIn maps node inside u v = (dart : ℕ) × IsStepIn maps node inside u v dart

-- A set of edges spans the nodes without a cycle: it joins any two of them, and has one edge fewer than there are nodes.
-- The nodes are the numbers below a bound that pass a test; each dart belongs to one.
pub record IsSpanningTree (maps : Rotations) (node : ℕ → ℕ) (is_node : ℕ → Bool) (bound edges : ℕ) (inside : ℕ → Bool) : Type 0 where
  pub joins : (d e : ℕ) → d < maps.darts → e < maps.darts → AreJoined (StepsIn maps node inside) (node d) (node e)
  pub count : count_below inside edges + 1 ≡ count_below is_node bound

-- all darts stand on one ring of the set
abbrev pub MakesOneRing : Rotations → (ℕ → Bool) → Type 0
MakesOneRing maps inside = (d e : ℕ) → d < maps.darts → e < maps.darts → IsReached (after_dart maps inside) d e

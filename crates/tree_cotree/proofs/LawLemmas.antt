-- The laws of splits, from those of rotation systems.
use Rattle.tree_cotree.proofs.Common.{rotation_system, names_all, used_vertices, OrientedMesh, IsOrientedSurface, rotations_of, NamesAll, ◌≡◌, ℕ, zero, suc, ◌+◌, ◌*◌, ◌<◌, true, not, length, refl, arith, common_steps, is_used, count_below, MakesOneRing, SplitView, HasTrees, kind_of, is_tree_kind, is_cotree_kind, is_left_kind, in_tree, in_cotree, is_left, Kind, Tree, Cotree, Left}
use Rattle.tree_cotree.proofs.GrowthLemmas.{HasNodes}
use Rattle.tree_cotree.proofs.SplitLemmas.{OneOfThree, tree_one, cotree_one, left_one, tree_ring, cotree_ring, count_three}
use Rattle.tree_cotree.proofs.LeftoverLemmas.{even_left}

pub vertex_nodes : {s : OrientedMesh} → NamesAll s
    → HasNodes (rotations_of s) (rotations_of s).origin (is_used s.mesh) s.mesh.count (length s.table)
vertex_nodes h = grind arith

pub face_nodes : {s : OrientedMesh} → NamesAll s
    → HasNodes (rotations_of s) (rotations_of s).face (λ f. true) (length s.mesh.faces) (length s.table)
face_nodes h = grind arith

pub one_of_three : (split : SplitView) (e : ℕ) → OneOfThree (in_tree split e) (in_cotree split e) (is_left split e)
one_of_three split e = go (kind_of split e)
  where
    go : (k : Kind) → OneOfThree (is_tree_kind k) (is_cotree_kind k) (is_left_kind k)
    go Tree = tree_one
    go Cotree = cotree_one
    go Left = left_one

pub tree_has_ring : (s : OrientedMesh) (split : SplitView) → IsOrientedSurface s → HasTrees s split
    → MakesOneRing (rotations_of s) (in_tree split)
tree_has_ring s split o t =
    tree_ring (rotation_system s o) (vertex_nodes (names_all s o)) t.tree

pub rest_has_ring : (s : OrientedMesh) (split : SplitView) → IsOrientedSurface s → HasTrees s split
    → MakesOneRing (rotations_of s) (λ e. not (in_cotree split e))
rest_has_ring s split o t =
    cotree_ring (rotation_system s o) (face_nodes (names_all s o)) t.cotree

-- a closed surface has a dart
pub some_dart : {s : OrientedMesh} → IsOrientedSurface s → 0 < (rotations_of s).darts
some_dart {s} o = grind (arith, common_steps, names_all)

pub even : (s : OrientedMesh) (split : SplitView) → IsOrientedSurface s → HasTrees s split
    → (g : ℕ) × (count_below (is_left split) (length s.table) ≡ 2 * g)
even s split o t =
    even_left (in_tree split) (in_cotree split) (is_left split) (length s.table) (rotation_system s o) (names_all s o).edge_below
    (names_all s o).each_edge (λ e l. one_of_three split e) (some_dart o) (tree_has_ring s split o t) (rest_has_ring s split o t)

pub count_all : (n : ℕ) → count_below (λ f. true) n ≡ n
count_all zero = refl
count_all (suc n) = rw (count_all n) (omega arith)

pub exact : (s : OrientedMesh) (split : SplitView) → HasTrees s split → (g : ℕ) → count_below (is_left split) (length s.table) ≡ 2 * g
    → used_vertices s + length s.mesh.faces + 2 * g ≡ length s.table + 2
unfolding used_vertices
exact s split t g e = grind (arith, count_three, one_of_three, count_all)

-- A colouring with a tree, a cotree and a root face is one of a split: ways are there within the tree and within the cotree.
use Rattle.tree_cotree.proofs.Common.{rotation_system, names_all, OrientedMesh, IsOrientedSurface, Rotations, rotations_of, IsRotationSystem, NamesAll, arith, ◌≡◌, true, List, length, get_or, refl, subst, is_used, without_ways, HasColouredTrees, ColouringView, colouring_of, IsColouring, has_kind, IsSpanningTree, SplitView, IsSplit, HasTrees, in_tree, in_cotree, made_split, IsRooted, Kind, Tree, Cotree}
use Rattle.tree_cotree.proofs.LawLemmas.{vertex_nodes, face_nodes, some_dart}
use Rattle.tree_cotree.proofs.TreeLemmas.{kept_apart}
use Rattle.tree_cotree.proofs.BelowLemmas.{faces_there}
use Rattle.tree_cotree.proofs.KindLemmas.{tree_kind, cotree_kind}
use Rattle.tree_cotree.proofs.SplittingLemmas.{split_of_ways}
use Rattle.tree_cotree.proofs.ColourTrees.{rooted_within}

pub coloured_trees_are_of_a_split : {s : OrientedMesh} {colouring : ColouringView} → IsOrientedSurface s
    → HasColouredTrees s colouring → IsColouring s colouring
coloured_trees_are_of_a_split {s} {colouring} o c =
    let maps : Rotations = rotations_of s in
    let r : IsRotationSystem maps = rotation_system s o in
    let names : NamesAll s = names_all s o in
    let kinds : List Kind = colouring.kinds in
    let bare : SplitView = without_ways colouring in
    let tree_set : in_tree bare ≡ has_kind kinds Tree = λ i e. tree_kind (get_or kinds e Tree) i in
    let cotree_set : in_cotree bare ≡ has_kind kinds Cotree = λ i e. cotree_kind (get_or kinds e Tree) i in
    let tree : IsSpanningTree maps maps.origin (is_used s.mesh) s.mesh.count (length s.table) (has_kind kinds Tree) = grind arith in
    let cotree : IsSpanningTree maps maps.face (λ f. true) (length s.mesh.faces) (length s.table) (has_kind kinds Cotree) = grind arith in
    let up = rooted_within 0 r (vertex_nodes names) tree (some_dart o) in
    let top = names.each_face colouring.root_face c.root_below in
    let found = rooted_within top.0 r (face_nodes names) cotree top.1 in
    let across : IsRooted maps maps.face (has_kind kinds Cotree) (length s.mesh.faces) colouring.root_face found.0 =
    subst (λ f. IsRooted maps maps.face (has_kind kinds Cotree) (length s.mesh.faces) f found.0) top.2 found.1 in
    let below = faces_there (length s.table) (kept_apart r across) (λ v x e. names.edge_below x (across.within v x e)) (length found.0) in
    record {
      split = made_split kinds up.0 below.0 colouring.root_face colouring.genus;
      is_split = split_of_ways o below.0 c up.1 across below.1 below.2;
      tells = refl {a = colouring};
    }

pub split_tells : (s : OrientedMesh) (split : SplitView) → IsSplit s split → IsColouring s (colouring_of split)
split_tells s split is = record { split = split; is_split = is; tells = refl }

pub colourings_have_trees : (s : OrientedMesh) (colouring : ColouringView) → IsColouring s colouring → HasColouredTrees s colouring
colourings_have_trees s colouring c =
    subst (HasColouredTrees s) c.tells (record {
      trees = grind arith;
      root_below = c.is_split.child_faces.root_below;
      root_left = c.is_split.root_left;
      genus = c.is_split.genus;
    })

pub trees_of : (s : OrientedMesh) (colouring : ColouringView) → IsColouring s colouring → HasTrees s (without_ways colouring)
trees_of s colouring c = (colourings_have_trees s colouring c).trees

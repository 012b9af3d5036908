-- The rings of the set without edges, and of the set of all edges: they are the vertices, and the faces.
use Rattle.tree_cotree.proofs.Common.{IsPermutationBelow, rotation_system, names_all, used_vertices, IsReached, OrientedMesh, IsOrientedSurface, Rotations, rotations_of, IsRotationSystem, ◌≡◌, ℕ, ◌<◌, Bool, true, false, length, slice_index, ap, sym, ◌∙◌, count_below, ring_count, RingView, AreRingsOf, is_inside, rings_of, after_dart}
use Rattle.tree_cotree.specs.RingSets.{rings_of_set, HaveNoEdge, HaveEveryEdge}
use Rattle.tree_cotree.proofs.AfterLemmas.{after_permutes, after_agrees}
use Rattle.tree_cotree.proofs.ExchangeLemmas.{meets_from, reached_from}
use Rattle.tree_cotree.proofs.GrowthLemmas.{HasNodes}
use Rattle.tree_cotree.proofs.LawLemmas.{vertex_nodes, face_nodes, count_all}
use Rattle.tree_cotree.proofs.NameLemmas.{classes_are_names}
use Rattle.tree_cotree.proofs.SplitLemmas.{rings_same}

-- where the rings of a set are the darts of one node each, there are as many rings as nodes
pub rings_are_nodes : {maps : Rotations} {node : ℕ → ℕ} {is_node : ℕ → Bool} {bound edges : ℕ} (inside : ℕ → Bool)
    → IsRotationSystem maps → HasNodes maps node is_node bound edges
    → ((x y : ℕ) → x < maps.darts → y < maps.darts → (node x ≡ node y → IsReached (after_dart maps inside) x y)
    × (IsReached (after_dart maps inside) x y → node x ≡ node y))
    → rings_of_set maps inside ≡ count_below is_node bound
rings_are_nodes {maps} inside r h alike =
    let f : ℕ → ℕ = after_dart maps inside in
    let p : IsPermutationBelow maps.darts f = after_permutes maps r inside in
    classes_are_names (record {
      one_name = λ x y l k is. (alike x y l k).1 (reached_from maps.darts f x y is);
      one_class = λ x y l k e. meets_from p l ((alike x y l k).0 e);
      below = h.node_within;
      is = h.is_of_dart;
      each = h.has_dart;
    })

pub empty_is_vertices : (s : OrientedMesh) → IsOrientedSurface s → rings_of_set (rotations_of s) (λ e. false) ≡ used_vertices s
unfolding used_vertices
empty_is_vertices s o =
    let maps : Rotations = rotations_of s in
    let r : IsRotationSystem maps = rotation_system s o in
    rings_are_nodes (λ e. false) r (vertex_nodes (names_all s o)) (λ x y l k. r.vertices x y l k)

pub full_is_faces : (s : OrientedMesh) → IsOrientedSurface s → rings_of_set (rotations_of s) (λ e. true) ≡ length s.mesh.faces
full_is_faces s o =
    let maps : Rotations = rotations_of s in
    let r : IsRotationSystem maps = rotation_system s o in
    rings_are_nodes (λ e. true) r (face_nodes (names_all s o)) (λ x y l k. r.faces x y l k)
    ∙ count_all (length s.mesh.faces)

-- rings that are kept are as many as those of a set with the same edges
kept_number : {s : OrientedMesh} {rings : RingView} (inside : ℕ → Bool) → IsOrientedSurface s → AreRingsOf s rings
    → ((e : ℕ) → e < length s.table → is_inside rings.inside e ≡ inside e) → rings_of rings ≡ rings_of_set (rotations_of s) inside
kept_number {s} {rings} inside o are same =
    let maps : Rotations = rotations_of s in
    let r : IsRotationSystem maps = rotation_system s o in
    ap (ring_count (slice_index rings.after)) are.each_dart
    ∙ sym (rings_same (slice_index rings.after) (after_permutes maps r inside)
    (λ d l. sym (are.rule d l ∙ after_agrees maps (is_inside rings.inside) inside d (same (maps.edge d) ((names_all s o).edge_below d l)))))

pub kept_empty : (s : OrientedMesh) (rings : RingView) → IsOrientedSurface s → HaveNoEdge s rings → rings_of rings ≡ used_vertices s
kept_empty s rings o h = kept_number (λ e. false) o h.are h.out ∙ empty_is_vertices s o

pub kept_full : (s : OrientedMesh) (rings : RingView) → IsOrientedSurface s → HaveEveryEdge s rings → rings_of rings ≡ length s.mesh.faces
kept_full s rings o h = kept_number (λ e. true) o h.are h.within ∙ full_is_faces s o

use Rattle.surf_model.proofs.Common.{◌≡◌, ◌<◌, ◌≤◌, ℕ, length, get_or, dart_edge_in, IsLinked}
use Rattle.surf_model.proofs.linking.link_sides.Given as goal

abbrev pub invariant-loop-edge : goal.invariant-loop-edge
invariant-loop-edge l = record {
  within : l.edge ≤ length l.edges;
  each : length l.links.items ≡ length l.initial.links.items;
  linked : (k t : ℕ) → k < l.edge → t < length (dart_edge_in l.edges k).darts
      → IsLinked l.edges l.links.items (get_or (dart_edge_in l.edges k).darts t 0);
}

use Rattle.surf_model.proofs.Common.{◌≡◌, ◌<◌, ◌≤◌, ℕ, length, get_or, dart_edge_in, IsLinked}
use Rattle.surf_model.proofs.linking.link_edge.Given as goal

abbrev pub invariant-loop-k : goal.invariant-loop-k
invariant-loop-k l = record {
  within : l.k ≤ length (dart_edge_in l.edges l.edge).darts;
  each : length l.links.items ≡ length l.initial.links.items;
  kept : (n : ℕ) → IsLinked l.edges l.initial.links.items n → IsLinked l.edges l.links.items n;
  linked : (t : ℕ) → t < l.k → IsLinked l.edges l.links.items (get_or (dart_edge_in l.edges l.edge).darts t 0);
}

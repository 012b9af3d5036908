use Rattle.manifold_check.proofs.Common.{◌≡◌, length, IsCounted}
use Rattle.manifold_check.proofs.MeasureLemmas.{place_of_edge}
use Rattle.manifold_check.proofs.measuring.count_edges.Given as goal

abbrev pub invariant-loop-edge : goal.invariant-loop-edge
invariant-loop-edge l = record {
  many : length l.counts.items ≡ length l.parts.components;
  counted : IsCounted (place_of_edge l.sides l.parts) l.edge l.counts.items;
}

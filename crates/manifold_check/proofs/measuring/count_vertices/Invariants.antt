use Rattle.manifold_check.proofs.Common.{◌≡◌, length, IsCounted}
use Rattle.manifold_check.proofs.MeasureLemmas.{place_of_used}
use Rattle.manifold_check.proofs.measuring.count_vertices.Given as goal

abbrev pub invariant-loop-vertex : goal.invariant-loop-vertex
invariant-loop-vertex l = record {
  many : length l.counts.items ≡ length l.parts.components;
  counted : IsCounted (place_of_used l.faces l.parts) l.vertex l.counts.items;
}

use Rattle.folded_lists.proofs.Common.{IsFoldedEntry, ◌≡◌}
use Rattle.folded_lists.proofs.FoldingLemmas.{IsComing, IsFoldedTo}
use Rattle.folded_lists.proofs.folding.fold.Given as goal

abbrev pub invariant-loop-k : goal.invariant-loop-k
invariant-loop-k l = record {
  peak_is : l.tape.peak ≡ l.list.peak;
  coming : IsComing l.double l.first l.list l.k l.tape.walk;
  entry_is : IsFoldedEntry l.faces.count l.tape.walk l.entry.above l.entry.below;
  so_far : IsFoldedTo l.faces l.first l.list.peak l.k l.tape.walk l.darts l.below;
}

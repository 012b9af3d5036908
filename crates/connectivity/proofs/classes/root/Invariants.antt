use Rattle.connectivity.proofs.Common.{IsForest, root_of, HasSameRoots, ◌≡◌, ◌<◌, length}
use Rattle.connectivity.proofs.classes.root.Given as goal

abbrev pub invariant-loop-parents : goal.invariant-loop-parents
invariant-loop-parents l = record {
  forest : IsForest l.parents;
  same : HasSameRoots l.initial.parents l.parents;
  within : l.at < length l.initial.parents;
  root : root_of l.initial.parents l.at ≡ root_of l.initial.parents l.number;
}

abbrev pub decreases-loop-parents : goal.decreases-loop-parents
decreases-loop-parents l = l.at

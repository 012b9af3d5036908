use Rattle.connectivity.proofs.Common.{IsForest, root_of, HasSameRoots, ◌≡◌, ◌<◌, ℕ, get_or}
use Rattle.connectivity.proofs.classes.settle.Given as goal

abbrev pub invariant-loop-number : goal.invariant-loop-number
invariant-loop-number l = record {
  forest : IsForest l.parents;
  same : HasSameRoots l.initial.parents l.parents;
  done : (x : ℕ) → x < l.number → get_or l.parents x 0 ≡ root_of l.initial.parents x;
}

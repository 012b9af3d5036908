use Rattle.common_ends.proofs.Common.{◌≡◌, ◌<◌, ◌++◌, max, take, all_raised}
use Rattle.common_ends.proofs.raising.raise_moves.Given as goal

abbrev pub invariant-loop-place : goal.invariant-loop-place
invariant-loop-place l = record {
  moves : l.moves.moves ≡ l.initial.moves.moves ++ all_raised l.by (take l.place l.list.moves);
  none : l.place ≡ 0 → l.moves.peak ≡ l.initial.moves.peak;
  some : 0 < l.place → l.moves.peak ≡ max l.initial.moves.peak l.most;
}

use Rattle.move_lifting.proofs.Common.{◌≡◌, ◌+◌, ◌≤◌, length, numbers}
use Rattle.move_lifting.proofs.SpurLemmas.{IsReducedSoFar}
use Rattle.move_lifting.proofs.inserting.reduce_all.Given as goal

abbrev pub invariant-loop-place : goal.invariant-loop-place
invariant-loop-place l = record {
  so_far : IsReducedSoFar l.behind (numbers l.walk) l.fn.moves l.track l.place;
  count : length l.track.list.moves + length l.track.walk ≤ length l.fn.moves.moves + l.place;
  cells : length l.track.walk + l.track.spare ≡ length l.walk;
}

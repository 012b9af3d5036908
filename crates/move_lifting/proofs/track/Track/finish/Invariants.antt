use Rattle.move_lifting.proofs.Common.{◌≡◌, length, take}
use Rattle.move_lifting.proofs.track.Track.finish.Given as goal

abbrev pub invariant-loop-place : goal.invariant-loop-place
invariant-loop-place l = record {
  same : l.laid ≡ l.initial.laid;
  long : l.vertices ≡ length l.initial.laid.walk;
  so_far : l.walk ≡ take l.place l.initial.laid.walk;
}

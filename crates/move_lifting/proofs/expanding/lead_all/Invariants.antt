use Rattle.move_lifting.proofs.Common.{MOST_LIFTED_SIDES, IsOffCotree, ◌≡◌, ◌+◌, ◌*◌, ◌≤◌, [], length, numbers}
use Rattle.move_lifting.proofs.ExpandLemmas.{IsLedSoFar}
use Rattle.move_lifting.proofs.expanding.lead_all.Given as goal

abbrev pub invariant-loop-place : goal.invariant-loop-place
invariant-loop-place l = record {
  led : IsLedSoFar l.on.surface.now l.on.split.now l.behind (numbers l.walk) l.fn.moves l.track l.place;
  off_cotree : IsOffCotree l.on.surface.now l.on.split.now l.track.walk;
  pending : l.pending.items ≡ [];
  few : length l.track.walk ≤ 1 + l.place * MOST_LIFTED_SIDES;
}

use Rattle.move_lifting.proofs.Common.{MOST_PASSED_ENTRIES, ◌≡◌, ◌+◌, ◌≤◌, [], length, numbers}
use Rattle.move_lifting.proofs.ExpandLemmas.{IsLedSoFar}
use Rattle.move_lifting.proofs.passing.Pass.over.Given as goal

abbrev pub invariant-loop-place : goal.invariant-loop-place
invariant-loop-place l = record {
  led : IsLedSoFar l.self.on.now.surface.now l.self.on.now.split.now l.self.behind (numbers l.walk) l.fn.moves l.track l.place;
  pending : l.pending.items ≡ [];
  few : length l.track.walk + length l.walk ≤ MOST_PASSED_ENTRIES + l.place;
  cells : length l.walk ≤ l.place + l.track.spare;
}

use Rattle.move_lifting.proofs.Common.{IsLedOn, MOST_PASSED_ENTRIES, ◌*◌, ◌≤◌, length, numbers}
use Rattle.move_lifting.proofs.passing.pass_over.Given as goal

abbrev pub invariant-loop-pass : goal.invariant-loop-pass
invariant-loop-pass l = record {
  led : IsLedOn l.on.surface.now l.on.split.now l.behind (numbers l.fn.walk.items) l.fn.moves (numbers l.walk.items) l.moves;
  few : length l.walk.items ≤ MOST_PASSED_ENTRIES;
  looked_at : l.looked_at ≤ l._pass * MOST_PASSED_ENTRIES;
}

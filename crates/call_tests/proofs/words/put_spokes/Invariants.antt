use Rattle.std.proofs.Common.{◌≤◌, length}
use Rattle.turn_words.specs.HyperStates.{BelongsTo}
use Rattle.call_tests.proofs.words.put_spokes.Given as goal

-- the spokes so far
abbrev pub invariant-loop-at : goal.invariant-loop-at
invariant-loop-at g l = record {
  belongs : BelongsTo l.wheel l.form.state;
  short : length l.form.state.word ≤ l.at;
}

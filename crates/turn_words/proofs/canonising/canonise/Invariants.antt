use Rattle.turn_words.proofs.Common.{◌≤◌, ◌+◌, ◌*◌, length}
use Rattle.turn_words.proofs.Unique.{ReadsTo}
use Rattle.turn_words.proofs.canonising.canonise.Given as goal

abbrev pub invariant-loop-entry : goal.invariant-loop-entry
invariant-loop-entry g l = record {
  reads : ReadsTo l.degree l.word l.entry-index l.canonical.word l.change;
  room : length l.word + 1 ≤ l.canonical.room;
  counted : l.steps ≤ l.fn.steps + 8 * l.entry-index;
}

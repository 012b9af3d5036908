use Rattle.turn_words.proofs.Common.{◌≡◌, ◌+◌, ◌++◌, length, take, vec_len, vec_capacity, written}
use Rattle.turn_words.proofs.run_word.RunWord.written.Given as goal

abbrev pub invariant-loop-value : goal.invariant-loop-value
invariant-loop-value l = record {
  items : l.entries.items ≡ l.initial.entries.items ++ written (take l.value-index l.value-items);
  size : vec_len l.entries ≡ vec_len l.initial.entries + length (written (take l.value-index l.value-items));
  capacity : vec_capacity l.entries ≡ vec_capacity l.initial.entries;
}

use Rattle.turn_words.proofs.Common.{◌≡◌, ◌+◌, ◌++◌, ◌≤◌, replicate, vec_len, vec_capacity}
use Rattle.turn_words.proofs.run_word.push_copies.Given as goal

abbrev pub invariant-loop : goal.invariant-loop
invariant-loop l = record {
  items : l.word.items ≡ l.fn.word.items ++ replicate l.counter l.fn.entry;
  size : vec_len l.word ≡ vec_len l.fn.word + l.counter;
  capacity : vec_capacity l.word ≡ vec_capacity l.fn.word;
  least : 2 ≤ l.counter;
}

use Rattle.folded_lists.proofs.Common.{fold, folded, ◌≡◌, ◌+◌, ◌≤◌, length, take, get_or}
use Rattle.folded_lists.proofs.entries.new_ones.Given as goal

abbrev pub invariant-loop-place : goal.invariant-loop-place
invariant-loop-place l = record {
  order : l.from ≤ l.place;
  last_is : l.last.0 ≡ fold l.count (get_or l.tape.walk l.place 0);
  few : l.new_ones + l.from ≤ l.place;
  sum : length (folded l.count (take (l.from + 1) l.tape.walk)) + l.new_ones
      ≡ length (folded l.count (take (l.place + 1) l.tape.walk));
}

use Rattle.walk_files.proofs.Common.{◌≡◌, ◌+◌, length, before_some, each_some, number_of, entries_of}
use Rattle.walk_files.proofs.denial.read_turns.Given as goal

-- the entries so far and the words left are those of the line
abbrev pub invariant-loop-cursor : goal.invariant-loop-cursor
invariant-loop-cursor l =
    record {
      entries : entries_of l.fn.cursor.words ≡ before_some l.turns (each_some number_of l.cursor.words);
      count : length l.turns + length l.cursor.words ≡ length l.fn.cursor.words;
      place : l.cursor ≡ record l.fn.cursor { words = l.cursor.words };
    }

abbrev pub decreases-loop-cursor : goal.decreases-loop-cursor
decreases-loop-cursor l = length l.cursor.words

use Rattle.walk_files.proofs.Common.{◌≡◌, ◌+◌, length, before_some, each_some, number_of, MOST_WALK_VERTICES}
use Rattle.walk_files.proofs.walks.read_walk.Given as goal

-- the walk so far and the words left are those of the line
abbrev pub invariant-loop-walk : goal.invariant-loop-walk
invariant-loop-walk l =
    record {
      numbers : each_some number_of l.fn.cursor.words ≡ before_some l.walk (each_some number_of l.cursor.words);
      count : length l.fn.cursor.words ≡ length l.walk + length l.cursor.words;
      room : l.room + length l.walk ≡ MOST_WALK_VERTICES;
      place : l.cursor ≡ record l.fn.cursor { words = l.cursor.words };
    }

abbrev pub decreases-loop-walk : goal.decreases-loop-walk
decreases-loop-walk l = length l.cursor.words

use Rattle.walk_files.proofs.Common.{◌≡◌, length, before_some, each_some, number_of}
use Rattle.walk_files.proofs.denial.read_face.Given as goal

-- the labels so far and the words left are those of the line
abbrev pub invariant-loop-cursor : goal.invariant-loop-cursor
invariant-loop-cursor l =
    record {
      labels : each_some number_of l.fn.cursor.words ≡ before_some l.labels.items (each_some number_of l.cursor.words);
      place : l.cursor ≡ record l.fn.cursor { words = l.cursor.words };
    }

abbrev pub decreases-loop-cursor : goal.decreases-loop-cursor
decreases-loop-cursor l = length l.cursor.words

use Rattle.walk_files.proofs.Common.{◌≡◌, ◌+◌, length, before_some, each_some, number_of}
use Rattle.walk_files.proofs.denial.read_places.Given as goal

-- the places so far and the words left are those of the line
abbrev pub invariant-loop-cursor : goal.invariant-loop-cursor
invariant-loop-cursor l =
    record {
      places : each_some number_of l.fn.cursor.words ≡ before_some l.labelling.places (each_some number_of l.cursor.words);
      count : length l.labelling.places + length l.cursor.words ≡ length l.fn.cursor.words;
      others : l.labelling ≡ record l.fn.labelling { places = l.labelling.places };
      place : l.cursor ≡ record l.fn.cursor { words = l.cursor.words };
    }

abbrev pub decreases-loop-cursor : goal.decreases-loop-cursor
decreases-loop-cursor l = length l.cursor.words

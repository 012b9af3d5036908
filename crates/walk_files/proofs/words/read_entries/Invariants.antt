use Rattle.walk_files.proofs.Common.{◌≡◌, ◌+◌, length, before_some, each_some, number_of, entries_of, MOST_ENTRIES}
use Rattle.walk_files.proofs.words.read_entries.Given as goal

-- the entries so far and the words left are those of the line
abbrev pub invariant-loop-value : goal.invariant-loop-value
invariant-loop-value l =
    record {
      numbers : entries_of l.fn.cursor.words ≡ before_some l.entries.items (each_some number_of l.cursor.words);
      count : length l.fn.cursor.words ≡ length l.entries.items + length l.cursor.words;
      room : l.room + length l.entries.items ≡ MOST_ENTRIES;
      place : l.cursor ≡ record l.fn.cursor { words = l.cursor.words };
    }

abbrev pub decreases-loop-value : goal.decreases-loop-value
decreases-loop-value l = length l.cursor.words

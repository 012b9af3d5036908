use Rattle.walk_files.proofs.Common.{◌≡◌, [], before_ok, words_of}
use Rattle.walk_files.proofs.words.read_words.Given as goal

-- the lists so far and the words left are those of the text
abbrev pub invariant-loop-lists : goal.invariant-loop-lists
invariant-loop-lists l =
    record {
      lists : words_of l.fn.bytes ≡ before_ok l.lists.lists l.reader.left;
      pending : l.lists.pending ≡ [];
    }

abbrev pub decreases-loop-lists : goal.decreases-loop-lists
decreases-loop-lists l = l.reader.lines

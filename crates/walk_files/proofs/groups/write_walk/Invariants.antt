use Rattle.walk_files.proofs.Common.{◌≡◌, ℕ, length, None, walk_on, put_before, rest_of}
use Rattle.walk_files.proofs.groups.write_walk.Given as goal

-- the walk so far, and the words left behind a vertex, stand for that of the line
abbrev pub invariant-loop-walk : goal.invariant-loop-walk
invariant-loop-walk l =
    (vertex : ℕ) × record {
      rest : walk_on l.fn.line ≡ put_before l.walk (rest_of l.fn.line.number vertex None l.tokens.words);
      line : l.tokens.line ≡ l.fn.line.number;
    }

abbrev pub decreases-loop-walk : goal.decreases-loop-walk
decreases-loop-walk l = length l.tokens.words

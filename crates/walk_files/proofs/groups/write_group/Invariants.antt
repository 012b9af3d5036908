use Rattle.walk_files.proofs.Common.{◌≡◌, ℕ, ◌≤◌, length, Some, rest_of}
use Rattle.std.specs.Prelude.{[]}
use Rattle.walk_files.proofs.groups.write_group.Given as goal

-- the numbers so far are those of the group
abbrev pub invariant-loop-token : goal.invariant-loop-token
invariant-loop-token l =
    record {
      rest : (vertex : ℕ) → rest_of l.fn.tokens.line vertex (Some []) l.fn.tokens.words
          ≡ rest_of l.fn.tokens.line vertex (Some l.numbers.items) l.tokens.words;
      walk : l.walk ≡ l.fn.walk;
      line : l.tokens.line ≡ l.fn.tokens.line;
      shorter : length l.tokens.words ≤ length l.fn.tokens.words;
    }

abbrev pub decreases-loop-token : goal.decreases-loop-token
decreases-loop-token l = length l.tokens.words

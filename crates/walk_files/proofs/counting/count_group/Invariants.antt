use Rattle.walk_files.proofs.Common.{◌≡◌, ℕ, ◌≤◌, List, length, Some, capped, rest_of, ends_at}
use Rattle.std.specs.Prelude.{[]}
use Rattle.walk_files.proofs.counting.count_group.Given as goal

-- the numbers of the group so far are so many, and end at the vertex or not
abbrev pub invariant-loop-token : goal.invariant-loop-token
invariant-loop-token l =
    (group : List ℕ) × record {
      counted : l.size ≡ capped (length group);
      closed : l.closed ≡ ends_at l.vertex group;
      rest : rest_of l.fn.tokens.line l.vertex (Some []) l.fn.tokens.words ≡ rest_of l.fn.tokens.line l.vertex (Some group) l.tokens.words;
      line : l.tokens.line ≡ l.fn.tokens.line;
      shorter : length l.tokens.words ≤ length l.fn.tokens.words;
    }

abbrev pub decreases-loop-token : goal.decreases-loop-token
decreases-loop-token l = length l.tokens.words

use Rattle.walk_files.proofs.Common.{◌≡◌, length, IsCountedTo}
use Rattle.walk_files.proofs.counting.count_darts.Given as goal

-- the walk up to the vertex has so many darts
abbrev pub invariant-loop-token : goal.invariant-loop-token
invariant-loop-token l = record {
  counted : IsCountedTo l.fn.line l.vertex l.tokens.words l.darts;
  line : l.tokens.line ≡ l.fn.line.number;
}

abbrev pub decreases-loop-token : goal.decreases-loop-token
decreases-loop-token l = length l.tokens.words

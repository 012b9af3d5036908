use Rattle.walk_files.proofs.Common.{◌≡◌, ◌≤◌, length, sum_by, darts, walks_behind, MOST_DARTS, MOST_LINES}
use Rattle.std.specs.Prelude.{[]}
use Rattle.walk_files.proofs.groups.read_groups.Given as goal

-- the walks so far and the lines left are those of the text
abbrev pub invariant-loop-line : goal.invariant-loop-line
invariant-loop-line l = record {
  walks : walks_behind [] l.fn.lines.lines ≡ walks_behind l.walks.walks l.lines.lines;
  version : l.walks.version ≡ 2;
  total : l.total ≡ sum_by darts l.walks.walks;
  few : l.total ≤ MOST_DARTS;
  count : length l.walks.walks ≤ MOST_LINES;
}

abbrev pub decreases-loop-line : goal.decreases-loop-line
decreases-loop-line l = length l.lines.lines

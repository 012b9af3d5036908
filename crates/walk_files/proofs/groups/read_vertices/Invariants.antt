use Rattle.walk_files.proofs.Common.{◌≡◌, ◌≤◌, length, numbers, before_some, each_some, number_of, MOST_WALK_VERTICES}
use Rattle.walk_files.proofs.groups.read_vertices.Given as goal

-- the vertices so far and the words left are those of the line
abbrev pub invariant-loop-vertex : goal.invariant-loop-vertex
invariant-loop-vertex l =
    record {
      words : each_some number_of l.fn.line.words ≡ before_some (numbers l.vertices.items) (each_some number_of l.words);
      few : length l.vertices.items ≤ MOST_WALK_VERTICES;
    }

abbrev pub decreases-loop-vertex : goal.decreases-loop-vertex
decreases-loop-vertex l = length l.words

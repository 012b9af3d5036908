use Rattle.walk_files.proofs.Common.{◌≡◌, ◌≤◌, length, enumerate_from, before_ok, each_ok, lines_left, plain_walks_of, walk_of, line_of_numbers, MOST_WALK_VERTICES, MOST_LINES}
use Rattle.walk_files.proofs.walks.read_plain.Given as goal

-- the walks so far and the lines left are those of the text
abbrev pub invariant-loop-alloc : goal.invariant-loop-alloc
invariant-loop-alloc l =
    (plain_walks_of (lines_left l.fn.cursor) ≡ before_ok l.walks.walks
    (each_ok (λ p. line_of_numbers walk_of MOST_WALK_VERTICES p.0 p.1) (enumerate_from (length l.walks.walks) (lines_left l.cursor))))
    × (length l.walks.walks ≤ MOST_LINES) × (l.walks.version ≡ 1)

abbrev pub decreases-loop-alloc : goal.decreases-loop-alloc
decreases-loop-alloc l = length (lines_left l.cursor)

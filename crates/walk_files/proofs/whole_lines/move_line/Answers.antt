use Rattle.walk_files.proofs.Common.{arith}
use Rattle.walk_files.proofs.WholeLineLemmas.{line_with_feed, line_with_return}
use Rattle.walk_files.proofs.whole_lines.move_line.Goals as goal

pub returns-in-10 : goal.returns-in-10
returns-in-10 c =
    line_with_feed c.args.bytes.now c.in_ok-mv.behind.now c.in_ok-mv.mv c.in_ok-mv.ensures c.in-10.len_at_least (omega arith)

pub returns-in-13 : goal.returns-in-13
returns-in-13 c =
    line_with_return c.args.bytes.now c.in_ok-mv.behind.now c.in_ok-mv.mv c.in_ok-mv.ensures (omega arith) (omega arith) (omega arith)

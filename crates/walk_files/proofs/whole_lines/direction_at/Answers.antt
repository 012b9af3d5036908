use Rattle.walk_files.proofs.Common.{arith, refl, true, false}
use Rattle.walk_files.proofs.WholeLineLemmas.{direction_first}
use Rattle.walk_files.proofs.whole_lines.direction_at.Goals as goal

pub returns-in-32 : goal.returns-in-32
returns-in-32 c = direction_first c.args.bytes.now 43 true (omega arith) (omega arith) (omega arith) refl refl

pub returns-in-32-2 : goal.returns-in-32-2
returns-in-32-2 c = direction_first c.args.bytes.now 45 false (omega arith) (omega arith) (omega arith) refl refl

use Rattle.walk_files.proofs.Common.{length}
use Rattle.walk_files.proofs.WholeLineLemmas.{PastDigits}
use Rattle.walk_files.proofs.whole_lines.number_at.Given as goal

abbrev pub invariant-loop-rest : goal.invariant-loop-rest
invariant-loop-rest l = PastDigits l.digits l.value l.rest

abbrev pub decreases-loop-rest : goal.decreases-loop-rest
decreases-loop-rest l = length l.rest

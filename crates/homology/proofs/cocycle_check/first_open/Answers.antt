use Rattle.homology.proofs.Common.{arith}
use Rattle.homology.proofs.cocycle_check.first_open.Goals as goal

pub returns-then-sum_round-ne0 : goal.returns-then-sum_round-ne0
returns-then-sum_round-ne0 c = grind arith

pub loop-face-preserved : goal.loop-face-preserved
loop-face-preserved c = grind arith

pub returns : goal.returns
returns c = grind arith

use Rattle.tree_cotree.proofs.Common.{arith}
use Rattle.tree_cotree.proofs.WaitingLemmas.{taken_near, taken_far}
use Rattle.tree_cotree.proofs.waiting.Waiting.take_by_patches.Goals as goal

pub returns-then-not-is_empty-clause-some : goal.returns-then-not-is_empty-clause-some
returns-then-not-is_empty-clause-some c = grind (arith, taken_near)

pub returns-clause-some : goal.returns-clause-some
returns-clause-some c = grind (arith, taken_far)

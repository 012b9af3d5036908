use Rattle.tree_cotree.proofs.Common.{arith, Some}
use Rattle.tree_cotree.proofs.WaitingLemmas.{taken_near_last, taken_far_last}
use Rattle.tree_cotree.proofs.waiting.Waiting.take_last.Goals as goal

pub returns-in-Some-clause-some : goal.returns-in-Some-clause-some
returns-in-Some-clause-some c =
    taken_near_last (Some c.in-Some.dart) c.args.self.now.far.items c.args.self.now.near.items c.pop_back.new.self.items
    c.in-Some.ensures.items

pub returns-in-None-clause-some : goal.returns-in-None-clause-some
returns-in-None-clause-some c = grind (arith, taken_far_last)

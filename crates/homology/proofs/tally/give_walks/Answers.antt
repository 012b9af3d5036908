use Rattle.homology.proofs.Common.{arith}
use Rattle.homology.proofs.ChainVerdictLemmas.{given_walks, zeros_within, within_more}
use Rattle.homology.proofs.tally.give_walks.Goals as goal

pub add_walk-requires-clause-room : goal.add_walk-requires-clause-room
add_walk-requires-clause-room c = grind (arith, within_more, zeros_within)

pub add_walk-requires-2-clause-room : goal.add_walk-requires-2-clause-room
add_walk-requires-2-clause-room c =
    within_more 2147483648 4294967296 c.add_walk.new.tally
    (c.add_walk.ensures.size 0 (zeros_within c.args.counts.now c.requires.zeros)) (omega arith)

pub returns-clause-counts : goal.returns-clause-counts
returns-clause-counts c =
    given_walks c.args.sides.now c.args.first.now c.args.second.now c.args.counts.now c.add_walk.new.tally c.add_walk-2.new.tally
    c.requires.long c.requires.zeros c.add_walk.ensures.grew c.add_walk-2.ensures.grew

pub returns-clause-room : goal.returns-clause-room
returns-clause-room c =
    within_more 4294967296 4294967296 c.add_walk-2.new.tally
    (c.add_walk-2.ensures.size 2147483648 (c.add_walk.ensures.size 0 (zeros_within c.args.counts.now c.requires.zeros))) (omega arith)

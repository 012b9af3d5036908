use Rattle.folded_lists.proofs.Common.{arith}
use Rattle.folded_lists.proofs.EntryLemmas.{fold_fits}
use Rattle.folded_lists.proofs.entries.go_to.Goals as goal

pub overflow_add-below : goal.overflow_add-below
overflow_add-below c =
    omega (arith, c.requires.from.below_is, c.new_ones.ensures, fold_fits c.args.count c.args.tape.now.walk c.args.above)

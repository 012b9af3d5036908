use Rattle.folded_lists.proofs.FoldedByMoves.{list_folds}
use Rattle.folded_lists.proofs.laws.a_list_on_the_double_folds.Goals as goal

pub returns : goal.returns
returns c = list_folds

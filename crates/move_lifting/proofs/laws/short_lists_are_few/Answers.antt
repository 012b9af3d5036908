use Rattle.move_lifting.proofs.Common.{length}
use Rattle.move_lifting.proofs.BoundLemmas.{few_most}
use Rattle.move_lifting.proofs.laws.short_lists_are_few.Goals as goal

pub returns : goal.returns
returns c = λ sides darts list few less short. few_most sides darts (length list.moves) few less short

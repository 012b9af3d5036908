use Rattle.move_lifting.proofs.ShortestLemmas.{reduced_is_shortest}
use Rattle.move_lifting.proofs.laws.walk_without_spurs_is_shortest.Goals as goal

pub returns : goal.returns
returns c = reduced_is_shortest

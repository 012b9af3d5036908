use Rattle.closed_walks.proofs.FreeStepLemmas.{walks_turn}
use Rattle.closed_walks.proofs.laws.closed_walk_may_start_at_its_second_part.Goals as goal

pub returns : goal.returns
returns c = λ mesh there back w z met closes. walks_turn mesh there back w z met

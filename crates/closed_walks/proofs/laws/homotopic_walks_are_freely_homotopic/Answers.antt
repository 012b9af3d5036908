use Rattle.closed_walks.proofs.MovedSteps.{freely}
use Rattle.closed_walks.proofs.laws.homotopic_walks_are_freely_homotopic.Goals as goal

pub returns : goal.returns
returns c = freely

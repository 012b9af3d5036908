use Rattle.orientation.proofs.EitherLemmas.{signs_or_chain}
use Rattle.orientation.proofs.laws.signs_or_chain.Goals as goal

pub returns : goal.returns
returns c = signs_or_chain

use Rattle.doubling.proofs.KeptMoves.{kept_walk}
use Rattle.doubling.proofs.laws.walks_stay_walks.Goals as goal

pub returns : goal.returns
returns c = kept_walk

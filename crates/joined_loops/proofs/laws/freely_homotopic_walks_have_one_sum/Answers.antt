use Rattle.joined_loops.proofs.FlatWalks.{one_sum}
use Rattle.joined_loops.proofs.laws.freely_homotopic_walks_have_one_sum.Goals as goal

pub returns : goal.returns
returns c = one_sum

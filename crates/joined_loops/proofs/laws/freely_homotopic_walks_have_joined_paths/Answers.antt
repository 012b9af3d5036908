use Rattle.joined_loops.proofs.FreeWalks.{free-joined}
use Rattle.joined_loops.proofs.laws.freely_homotopic_walks_have_joined_paths.Goals as goal

pub returns : goal.returns
returns c = free-joined

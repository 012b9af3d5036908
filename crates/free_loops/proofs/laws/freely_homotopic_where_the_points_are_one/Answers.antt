use Rattle.free_loops.proofs.LawLemmas.{points}
use Rattle.free_loops.proofs.laws.freely_homotopic_where_the_points_are_one.Goals as goal

pub returns : goal.returns
returns c = points

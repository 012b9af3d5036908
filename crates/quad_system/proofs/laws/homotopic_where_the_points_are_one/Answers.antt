use Rattle.quad_system.proofs.FlatWordLemmas.{one_sum}
use Rattle.quad_system.proofs.laws.homotopic_where_the_points_are_one.Goals as goal

pub returns : goal.returns
returns c = one_sum

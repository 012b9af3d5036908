use Rattle.polygon_cut.proofs.Common.{arith}
use Rattle.polygon_cut.proofs.FreeLawLemmas.{free_pushes, pushes_with_loop}
use Rattle.polygon_cut.proofs.laws.pushes_are_free_but_at_the_last_side.Goals as goal

pub returns : goal.returns
returns c = grind (arith, free_pushes, pushes_with_loop)

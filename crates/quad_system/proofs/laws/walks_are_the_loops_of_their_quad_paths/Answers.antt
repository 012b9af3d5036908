use Rattle.quad_system.proofs.WalkLoopLemmas.{walk_loop}
use Rattle.quad_system.proofs.laws.walks_are_the_loops_of_their_quad_paths.Goals as goal

pub returns : goal.returns
returns c = walk_loop

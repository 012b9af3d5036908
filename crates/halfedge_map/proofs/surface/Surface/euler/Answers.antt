use Rattle.halfedge_map.proofs.Common.{euler_of, arith}
use Rattle.halfedge_map.proofs.EulerLemmas.{euler_exact}
use Rattle.halfedge_map.proofs.surface.Surface.euler.Goals as goal

pub returns : goal.returns
unfolding euler_of
returns c = grind (arith, euler_exact)

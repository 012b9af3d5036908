use Rattle.connectivity.proofs.Common.{arith}
use Rattle.connectivity.proofs.EdgeLemmas.{used_below}
use Rattle.connectivity.proofs.vertices.least_used.Goals as goal

pub returns-clause-none : goal.returns-clause-none
returns-clause-none c = λ v used.
    c.loop-vertex.invariant v (omega (arith, used_below c.args.faces.now v c.count-vertex-end.ensures.valid used)) used

use Rattle.halfedge_map.proofs.Common.{arith}
use Rattle.halfedge_map.proofs.DartLemmas.{next_within}
use Rattle.halfedge_map.proofs.StoringLemmas.{read_next}
use Rattle.halfedge_map.proofs.surface.Surface.next.Goals as goal

pub returns-clause-next : goal.returns-clause-next
returns-clause-next c = grind (arith, read_next)

pub returns-clause-within : goal.returns-clause-within
returns-clause-within c = grind (arith, returns-clause-next, next_within)

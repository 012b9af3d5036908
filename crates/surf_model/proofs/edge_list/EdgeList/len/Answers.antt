use Rattle.surf_model.proofs.Common.{arith}
use Rattle.surf_model.proofs.EdgeListLemmas.{length-edges}
use Rattle.surf_model.proofs.edge_list.EdgeList.len.Goals as goal

pub returns : goal.returns
returns c = grind (arith, length-edges)

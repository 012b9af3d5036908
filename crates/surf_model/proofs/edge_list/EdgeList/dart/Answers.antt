use Rattle.surf_model.proofs.Common.{arith}
use Rattle.surf_model.proofs.EdgeListLemmas.{lies_as_edge}
use Rattle.surf_model.proofs.edge_list.EdgeList.dart.Goals as goal

pub start_of-requires : goal.start_of-requires
start_of-requires c = rw c.deref.ensures.value (lies_as_edge _ _ _ c.args.self.now c.args.edge c.self.invariant c.self.view_is
    c.requires.edge).few

pub overflow_add-start_of : goal.overflow_add-start_of
overflow_add-start_of c = grind (arith, lies_as_edge)

pub index-requires : goal.index-requires
index-requires c = grind (arith, lies_as_edge)

pub returns : goal.returns
returns c = grind (arith, lies_as_edge)

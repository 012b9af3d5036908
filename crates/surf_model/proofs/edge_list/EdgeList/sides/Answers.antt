use Rattle.surf_model.proofs.Common.{◌≡◌, ◌+◌, length, arith, common_steps, dart_edge_in}
use Rattle.surf_model.proofs.EdgeListLemmas.{lies_as_edge}
use Rattle.surf_model.proofs.edge_list.EdgeList.sides.Goals as goal
use Rattle.surf_model.proofs.edge_list.EdgeList.sides.Goals.{After-start_of}

pub index-requires : goal.index-requires
index-requires c = omega (
  arith,
  (lies_as_edge _ _ _ c.args.self.now c.args.edge c.self.invariant c.self.view_is c.requires).few,
  c.self.inside.stops.ok.0,
)

pub start_of-requires : goal.start_of-requires
start_of-requires c = rw c.deref.ensures.value (lies_as_edge _ _ _ c.args.self.now c.args.edge c.self.invariant c.self.view_is
    c.requires).few

-- the sides of the edge lie from the start on, up to what was read
reach : (c : After-start_of) → c.index.result.now ≡ c.start_of.result + length (dart_edge_in c.args.self.now c.args.edge).darts
reach c = grind (arith, common_steps, lies_as_edge)

pub overflow_sub-result : goal.overflow_sub-result
overflow_sub-result c = omega (arith, reach (goal.at.overflow_sub-result c).After-start_of)

pub returns : goal.returns
returns c = omega (arith, reach (goal.at.returns c).After-start_of)

use Rattle.surf_model.proofs.Common.{sym, ap, ◌∙◌, arith, EdgeEnds}
use Rattle.surf_model.proofs.EdgeListLemmas.{lies_as_edge}
use Rattle.surf_model.proofs.edge_list.EdgeList.ends.Goals as goal

pub index-requires : goal.index-requires
index-requires c = omega (
  arith,
  (lies_as_edge _ _ _ c.args.self.now c.args.edge c.self.invariant c.self.view_is c.requires).paired,
  c.self.inside.pairs.ok.0,
)

pub returns-clause-low : goal.returns-clause-low
returns-clause-low c = ap (λ (e : EdgeEnds). e.low.0) c.index.ensures
    ∙ sym ((lies_as_edge _ _ _ c.args.self.now c.args.edge c.self.invariant c.self.view_is c.requires).low c.index.result.now)

pub returns-clause-high : goal.returns-clause-high
returns-clause-high c = ap (λ (e : EdgeEnds). e.high.0) c.index.ensures
    ∙ sym ((lies_as_edge _ _ _ c.args.self.now c.args.edge c.self.invariant c.self.view_is c.requires).high c.index.result.now)

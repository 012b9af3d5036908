use Rattle.surf_model.proofs.Common.{◌≡◌, ◌<◌, inl, inr, length, get_or, sym, ◌∙◌, subst, arith, cases_lt, dart_edge_in, IsLinked}
use Rattle.surf_model.proofs.linking.link_sides.Goals as goal

pub loop-edge-preserved : goal.loop-edge-preserved
loop-edge-preserved c = record {
  within = omega (arith, c.loop-edge-test.true, c.len-edge-end.ensures);
  each = c.link_edge.ensures.each ∙ c.loop-edge.invariant.each;
  linked = λ k t l b. elim (cases_lt k c.loop-edge.edge) [
    | inl less ↦ c.link_edge.ensures.kept (get_or (dart_edge_in c.args.edges.now k).darts t 0) (c.loop-edge.invariant.linked k t less b)
    | inr le ↦
        (let same : c.loop-edge.edge ≡ k = omega (arith, le, l) in
        subst (λ e. IsLinked c.args.edges.now c.link_edge.new.links.items (get_or (dart_edge_in c.args.edges.now e).darts t 0)) same
        (c.link_edge.ensures.linked t (subst (λ e. t < length (dart_edge_in c.args.edges.now e).darts) (sym same) b)))
  ];
}

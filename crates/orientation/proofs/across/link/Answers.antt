use Rattle.orientation.proofs.Common.{IsAlong, sym, subst, edge_in}
use Rattle.orientation.proofs.AcrossLemmas.{along_edge, has_numbered}
use Rattle.orientation.proofs.across.link.Goals as goal

pub returns-clause-edge : goal.returns-clause-edge
returns-clause-edge c =
    let along : IsAlong c.args.faces.now c.args.side (edge_in c.args.sides.now c.edge_of.result.0).low
    (edge_in c.args.sides.now c.edge_of.result.0).high =
    along_edge c.edge_of.result.0 c.args.side c.requires.table c.edge_of.ensures.found
    (has_numbered c.edge_of.result.0 c.dart.result.0 c.requires.table
    c.edge_of.ensures.found c.requires.side c.dart.ensures.number (c.edge_of.ensures.dart c.args.faces.now c.requires.table)) in
    subst (λ low. IsAlong c.args.faces.now c.args.side low c.ends.result.1.0) (sym c.ends.ensures.low)
    (subst (IsAlong c.args.faces.now c.args.side (edge_in c.args.sides.now c.edge_of.result.0).low) (sym c.ends.ensures.high) along)

use Rattle.move_lifting.proofs.Common.{IsCutSurface, free_walk_below, HasQuads, arith, sym, subst}
use Rattle.move_lifting.proofs.PathLemmas.{has_quads}
use Rattle.move_lifting.proofs.reducing.Reduction.of.Goals as goal

pub reduce_spokes-requires-clause-quads : goal.reduce_spokes-requires-clause-quads
reduce_spokes-requires-clause-quads c =
    let cut = c.requires.cut in
    let is_cut : IsCutSurface c.args.surface.now cut.0 c.args.polygon.now = record {
      valid = c.faces.ensures.valid;
      tree = cut.1;
      cut = cut.2;
      some = c.requires.some;
    } in
    subst HasQuads (sym c.in_ok-wheel.ensures) (has_quads is_cut)

pub reduce_spokes-requires-clause-below : goal.reduce_spokes-requires-clause-below
reduce_spokes-requires-clause-below c = grind (arith, free_walk_below)

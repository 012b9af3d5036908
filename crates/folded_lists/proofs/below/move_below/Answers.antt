use Rattle.folded_lists.proofs.Common.{◌∷◌, subst, Replaces, Move}
use Rattle.folded_lists.proofs.MovesOnMesh.{spur_comes_below, spur_goes_below}
use Rattle.folded_lists.proofs.below.move_below.Goals as goal

pub returns-else-eq : goal.returns-else-eq
returns-else-eq c = λ rest others h.
    spur_comes_below c.args.faces.now c.args.double.now c.requires.double c.count-count.ensures.valid c.count-count.result c.args.place
    c.args.here.0 c.fold.result.0 c.in-Insert.via c.fold-via.result c.count-count.ensures.count c.fold-via.ensures c.fold.ensures
    c.eq.result c.eq.ensures c.if-eq.false c.in-Insert.at rest others
    (subst (λ (m : Move). Replaces c.args.double.now m (c.args.here.0 ∷ rest) (c.args.here.0 ∷ others)) c.in-Insert.is h)

pub returns-else-eq-2 : goal.returns-else-eq-2
returns-else-eq-2 c = λ rest others h.
    spur_goes_below c.args.faces.now c.args.double.now c.requires.double c.count-count.ensures.valid c.count-count.result c.args.place
    c.args.here.0 c.fold-in-Remove.result.0 c.in-Remove.via c.fold-via-in-Remove.result c.count-count.ensures.count
    c.fold-via-in-Remove.ensures c.fold-in-Remove.ensures
    c.eq-in-Remove.result c.eq-in-Remove.ensures c.if-eq-2.false c.in-Remove.at rest others
    (subst (λ (m : Move). Replaces c.args.double.now m (c.args.here.0 ∷ rest) (c.args.here.0 ∷ others)) c.in-Remove.is h)

pub returns-in-Across : goal.returns-in-Across
returns-in-Across c = λ rest others h.
    c.across_below.ensures c.in-Across.at (c.args.here.0 ∷ rest) (c.args.here.0 ∷ others)
    (subst (λ (m : Move). Replaces c.args.double.now m (c.args.here.0 ∷ rest) (c.args.here.0 ∷ others)) c.in-Across.is h)

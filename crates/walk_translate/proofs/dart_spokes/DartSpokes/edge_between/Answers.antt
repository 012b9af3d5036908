use Rattle.walk_translate.proofs.Common.{refl, sym}
use Rattle.walk_translate.proofs.SpokedLemmas.{joined}
use Rattle.walk_translate.proofs.dart_spokes.DartSpokes.edge_between.Goals as goal

pub returns-then-is_between-clause-edge : goal.returns-then-is_between-clause-edge
returns-then-is_between-clause-edge c = λ mesh table.
    sym (joined mesh c.args.sides.now c.guess-guess.result.0 c.args.from.0 c.args.to.0 table (c.if-is_between.ensures.within refl)
    (c.if-is_between.ensures.ends refl))

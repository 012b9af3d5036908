use Rattle.orientation.proofs.Common.{sym, ◌∙◌, eqb-true, both_ways, eq-eqb}
use Rattle.orientation.proofs.AcrossLemmas.{alone, has_other, other_below, other_across}
use Rattle.orientation.proofs.across.across.Goals as goal

pub returns-then-eq : goal.returns-then-eq
returns-then-eq c =
    alone c.requires.table c.requires.two c.requires.side c.dart-dart.ensures.number
    (c.other-other.ensures c.args.faces.now c.requires.table)
    (eqb-true c.other-other.result.0 c.dart-dart.result.0 (sym c.eq.ensures ∙ c.if-eq.true))

pub side_at-requires : goal.side_at-requires
side_at-requires c =
    other_below (has_other c.requires.table c.requires.two c.requires.side c.dart-dart.ensures.number
    (c.other-other.ensures c.args.faces.now c.requires.table)
    (λ same. both_ways _ (sym c.eq.ensures ∙ c.if-eq.false) (eq-eqb c.other-other.result.0 c.dart-dart.result.0 same)))

pub returns-else-eq : goal.returns-else-eq
returns-else-eq c =
    other_across c.requires.two (has_other c.requires.table c.requires.two c.requires.side c.dart-dart.ensures.number
    (c.other-other.ensures c.args.faces.now c.requires.table)
    (λ same. both_ways _ (sym c.eq.ensures ∙ c.if-eq.false) (eq-eqb c.other-other.result.0 c.dart-dart.result.0 same)))
    c.side_at.ensures.side c.side_at.ensures.number

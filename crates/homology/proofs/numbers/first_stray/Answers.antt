use Rattle.homology.proofs.Common.{HasEdge, false, sym, ◌∙◌, arith, get_or_from_slice_get}
use Rattle.homology.proofs.NumbersLemmas.{all_more}
use Rattle.homology.proofs.numbers.first_stray.Goals as goal

pub returns-then-not-form_edge-clause-some : goal.returns-then-not-form_edge-clause-some
returns-then-not-form_edge-clause-some c = grind (arith, get_or_from_slice_get)

pub loop-k-preserved : goal.loop-k-preserved
loop-k-preserved c =
    all_more (HasEdge c.args.faces.now) c.args.numbers.now c.loop-k.k c.at-line.result c.loop-k.invariant c.at-line.ensures
    (sym c.form_edge.ensures ∙ c.if-not-form_edge.false)

pub returns-clause-none : goal.returns-clause-none
returns-clause-none c = λ j d l. c.loop-k.invariant j d (omega (arith, l))

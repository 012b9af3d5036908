use Rattle.text_scan.proofs.Common.{arith, ◌∙◌, sym}
use Rattle.text_scan.proofs.StepLemmas.{natural_value, natural_place, no_natural, no_natural_here}
use Rattle.text_scan.proofs.steps.natural_at.Goals as goal

pub returns-then-begins_word-clause-value : goal.returns-then-begins_word-clause-value
returns-then-begins_word-clause-value c =
    no_natural c.args.rest.now c.digits-value.result.0 c.digits-value.result.1.now c.digits-value.ensures.digits c.digits-value.ensures.stop
    (sym c.begins_word.ensures ∙ c.if-begins_word.true)

pub returns-then-after-rest-clause-value : goal.returns-then-after-rest-clause-value
returns-then-after-rest-clause-value c =
    no_natural_here c.args.rest.now c.digits-value.result.0 c.digits-value.result.1.now c.digits-value.ensures.digits
    c.digits-value.ensures.stop c.requires (omega (arith, c.if-after-rest.true))

pub returns-clause-value : goal.returns-clause-value
returns-clause-value c =
    natural_value c.args.rest.now c.digits-value.result.0 c.digits-value.result.1.now c.digits-value.ensures.digits c.if-after-rest.false
    (sym c.begins_word.ensures ∙ c.if-begins_word.false)

pub returns-clause-place : goal.returns-clause-place
returns-clause-place c =
    natural_place c.args.rest.now c.digits-value.result.0 c.digits-value.result.1.now c.digits-value.ensures.digits c.if-after-rest.false
    (sym c.begins_word.ensures ∙ c.if-begins_word.false)

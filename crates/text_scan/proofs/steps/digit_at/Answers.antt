use Rattle.text_scan.proofs.Common.{arith, sym, ◌∙◌}
use Rattle.text_scan.proofs.StepLemmas.{digit_value, digit_place}
use Rattle.text_scan.proofs.steps.digit_at.Goals as goal

pub returns-clause-value : goal.returns-clause-value
returns-clause-value c = grind (arith, digit_value)

pub returns-clause-place : goal.returns-clause-place
returns-clause-place c =
    digit_place c.args.rest.now c.in-len3-up.len_at_least c.if-before-ne32.false
    (grind (arith, c.if-not-is_ascii_digit.ensures.value, c.if-not-is_ascii_digit.false))
    (sym c.ends_word.ensures ∙ c.if-not-ends_word.false)

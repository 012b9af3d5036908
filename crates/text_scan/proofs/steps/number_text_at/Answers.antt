use Rattle.text_scan.proofs.Common.{arith, is_some}
use Rattle.text_scan.proofs.TextLemmas.{text_first, no_text, past_text}
use Rattle.text_scan.proofs.steps.number_text_at.Goals as goal

pub returns-in_err-word-clause-answer : goal.returns-in_err-word-clause-answer
returns-in_err-word-clause-answer c = grind (arith, is_some, no_text)

pub returns-then-is_number_text-clause-answer : goal.returns-then-is_number_text-clause-answer
returns-then-is_number_text-clause-answer c = grind (arith, text_first)

pub returns-then-is_number_text-clause-place : goal.returns-then-is_number_text-clause-place
returns-then-is_number_text-clause-place c = past_text c.args.rest.now c.in_ok-word.after.now c.in_ok-word.ensures.some.0
    c.in_ok-word.ensures.some.2

pub returns-else-is_number_text-clause-answer : goal.returns-else-is_number_text-clause-answer
returns-else-is_number_text-clause-answer c = grind (arith, text_first)

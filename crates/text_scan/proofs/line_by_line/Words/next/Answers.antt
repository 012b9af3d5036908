use Rattle.text_scan.proofs.Common.{arith, next_word}
use Rattle.text_scan.proofs.TextLemmas.{past_text}
use Rattle.text_scan.proofs.ViewLemmas.{none_in_line, first_in_line, others_in_line}
use Rattle.text_scan.proofs.line_by_line.Words.next.Goals as goal

pub returns-in_err-word-clause-word : goal.returns-in_err-word-clause-word
returns-in_err-word-clause-word c = grind (arith, none_in_line, next_word)

pub returns-in_err-word-clause-place : goal.returns-in_err-word-clause-place
returns-in_err-word-clause-place c = grind (arith, none_in_line)

pub returns-clause-word : goal.returns-clause-word
returns-clause-word c =
    first_in_line c.self.inside.rest.now c.after_blanks.result.now c.in_ok-word.word.now c.args.self.now c.self.view_is
    c.after_blanks.ensures.place c.in_ok-word.ensures.some.0 c.in_ok-word.ensures.some.1

pub returns-clause-place : goal.returns-clause-place
returns-clause-place c = grind (arith, others_in_line, past_text)

use Rattle.text_scan.proofs.Common.{arith, next_word}
use Rattle.text_scan.proofs.ViewLemmas.{no_word_left, word_left, nothing_past, moved_past}
use Rattle.text_scan.proofs.TextLemmas.{past_text}
use Rattle.text_scan.proofs.cursor.Cursor.word.Goals as goal

pub returns-in_err-word-clause-word : goal.returns-in_err-word-clause-word
returns-in_err-word-clause-word c = grind (arith, no_word_left, next_word)

pub returns-in_err-word-clause-place : goal.returns-in_err-word-clause-place
returns-in_err-word-clause-place c = grind (arith, no_word_left, nothing_past)

pub returns-clause-word : goal.returns-clause-word
returns-clause-word c =
    word_left c.self.inside.text.now c.self.inside.line c.self.inside.rest.now c.after_blanks.result.now c.in_ok-word.word.now
    c.args.self.now c.self.view_is c.after_blanks.ensures.place
    c.in_ok-word.ensures.some.0 c.in_ok-word.ensures.some.1

pub returns-clause-place : goal.returns-clause-place
returns-clause-place c = grind (arith, moved_past, past_text)

use Rattle.homology_files.proofs.Common.{true, false}
use Rattle.homology_files.proofs.AnswerLemmas.{yes-line, other-line}
use Rattle.homology_files.proofs.head.pass_answer.Goals as goal

pub returns-then-pass_words-clause-answer : goal.returns-then-pass_words-clause-answer
returns-then-pass_words-clause-answer c = yes-line c.args.cursor.now.words c.if-pass_words.ensures.answer

pub returns-then-pass_words-2-clause-answer : goal.returns-then-pass_words-2-clause-answer
returns-then-pass_words-2-clause-answer c =
    other-line c.args.cursor.now c.pass_words.new.self true c.if-pass_words.ensures.answer c.if-pass_words.ensures.place
    c.if-pass_words-2.ensures.answer

pub returns-else-pass_words-2-clause-answer : goal.returns-else-pass_words-2-clause-answer
returns-else-pass_words-2-clause-answer c =
    other-line c.args.cursor.now c.pass_words.new.self false c.if-pass_words.ensures.answer c.if-pass_words.ensures.place
    c.if-pass_words-2.ensures.answer

use Rattle.program.proofs.Common.{runs_refused, wrong_words, texts, row_of}
use Rattle.program.proofs.Outcomes.{row_runs, wrong_stops}
use Rattle.program.proofs.top.find_answer.Goals as goal

pub returns-in_default : goal.returns-in_default
returns-in_default g c =
    let words = texts c.args.words.now.items in
    runs_refused wrong_words
    (wrong_stops (g.S.Shelf.held c.args.shelf.now) words c.refused.result c.in_default.ensures.none c.refused.ensures) c.refused.ensures

pub returns : goal.returns
returns g c =
    row_runs g.S.Shelf.held g.S.Shelf.faults c.args.shelf.now c.answer.new.shelf (texts c.args.words.now.items) (row_of c.in-Some.command)
    c.answer.result c.in-Some.ensures.row c.answer.ensures

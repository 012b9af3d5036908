use Rattle.walk_files.proofs.Common.{refl, Ok, Err, file_of, words_here}
use Rattle.walk_files.proofs.StreamLemmas.{next_answered, next_leaves, answers_refused}
use Rattle.walk_files.proofs.WholeLineLemmas.{move_answered}
use Rattle.walk_files.proofs.stream_lines.read_next_move.Goals as goal

pub returns-in-Some-clause-answer : goal.returns-in-Some-clause-answer
returns-in-Some-clause-answer g c =
    move_answered (file_of (g.S.Shelf.held c.args.shelf.now) c.args.name.now) c.args.lines.now c.pass_line.new.self c.kept.result.now
    c.in-Some.found.len c.in-Some.found.mv c.args.to_come c.if-to_come-gt0.true c.in-Some.ensures c.kept.ensures c.pass_line.ensures.line

pub returns-in-Ok-clause-answer : goal.returns-in-Ok-clause-answer
returns-in-Ok-clause-answer g c =
    next_answered (file_of (g.S.Shelf.held c.args.shelf.now) c.args.name.now) c.args.lines.now c.next_line.new.self c.in_ok-found.found
    (words_here c.next_line.new.line.done) c.args.to_come c.read_found.result (Ok c.in-Ok.mv) c.number.result c.number.ensures.number
    c.in_ok-found.ensures.line c.read_found.ensures.answer c.in-Ok.is

pub returns-in-Ok-clause-left : goal.returns-in-Ok-clause-left
returns-in-Ok-clause-left g c =
    next_leaves (file_of (g.S.Shelf.held c.args.shelf.now) c.args.name.now) c.args.lines.now c.next_line.new.self c.in_ok-found.found
    (words_here c.next_line.new.line.done) c.in_ok-found.ensures.line

pub returns-in-Err-clause-answer : goal.returns-in-Err-clause-answer
returns-in-Err-clause-answer g c =
    next_answered (file_of (g.S.Shelf.held c.args.shelf.now) c.args.name.now) c.args.lines.now c.next_line.new.self c.in_ok-found.found
    (words_here c.next_line.new.line.done) c.args.to_come c.read_found.result (Err c.refuse.result) c.number.result c.number.ensures.number
    c.in_ok-found.ensures.line c.read_found.ensures.answer
    (answers_refused c.refuse.result c.in-Err.fault c.read_found.result c.read_found.result c.refuse.ensures.«end» c.in-Err.is refl)

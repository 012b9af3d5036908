use Rattle.walk_files.proofs.Common.{refl, ap, Err, Files, file_of, words_here}
use Rattle.std.proofs.Common.{Option}
use Rattle.walk_files.proofs.StreamLemmas.{first_answered, second_answered, answers_refused}
use Rattle.walk_files.proofs.stream_lines.read_stream_head.Goals as goal

pub returns-in-Err-clause-answer : goal.returns-in-Err-clause-answer
returns-in-Err-clause-answer g c =
    first_answered (file_of (g.S.Shelf.held c.args.shelf.now) c.args.name.now) c.args.lines.now c.first_line.new.self c.in_ok-first.first
    (words_here c.first_line.new.line.done) c.head_found.result (Err c.refuse.result) c.answer_found.result c.in_ok-first.ensures.line
    c.head_found.ensures.head c.in_default.is c.answer_found.ensures
    (answers_refused c.refuse.result c.in-Err.fault c.head_found.result c.head_found.result c.refuse.ensures.«end» c.in-Err.is refl)

pub returns-in-Err-head_found-clause-answer : goal.returns-in-Err-head_found-clause-answer
returns-in-Err-head_found-clause-answer g c =
    second_answered (file_of (g.S.Shelf.held c.args.shelf.now) c.args.name.now)
    (file_of (g.S.Shelf.held c.first_line.new.shelf) c.args.name.now) c.args.lines.now c.first_line.new.self c.next_line.new.self
    c.in_ok-first.first c.in_ok-second.second (words_here c.first_line.new.line.done) (words_here c.next_line.new.line.done)
    c.head_found-2.result (Err c.refuse-in-Err-head_found.result) c.in-Some.answer c.answer_found.result c.number.result
    (ap (λ (h : Option Files). file_of h c.args.name.now) c.first_line.ensures.only_reads.same_files) c.number.ensures.number c.in-Some.is
    c.in_ok-first.ensures.line c.in_ok-first.ensures.reads c.answer_found.ensures c.in_ok-second.ensures.line c.head_found-2.ensures.head
    (answers_refused c.refuse-in-Err-head_found.result c.in-Err-head_found.fault c.head_found-2.result c.head_found-2.result
    c.refuse-in-Err-head_found.ensures.«end» c.in-Err-head_found.is refl)

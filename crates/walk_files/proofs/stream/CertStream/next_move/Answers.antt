use Rattle.walk_files.proofs.Common.{Reads, ◌≡◌, ◌-◌, ℕ, List, true, sym, ap, subst, ◌∙◌, Some, None, Result, Ok, Err, IfSome, OnOk, file_of, Move, count_in, Streamed, streams_list, after_move, StreamEnd}
use Rattle.std.proofs.Common.{Option}
use Rattle.walk_files.specs.declared.stream.CertStream.TheInside.{Inside}
use Rattle.walk_files.proofs.StreamLemmas.{ReadsNext, LeavesLines, Answers, gives_answer}
use Rattle.walk_files.proofs.stream.CertStream.next_move.Goals as goal
use Rattle.walk_files.proofs.stream.CertStream.next_move.Goals.{After-read_next_move}

-- what a caller sees of a stream
abbrev seen : Inside → Streamed
seen a = record { lines = a.lines; head = a.head; given = a.given; denied = a.denied; refusal = a.refusal }

-- what the lines gave is the answer
answered : (g : _) (c : After-read_next_move g) (result : Result (Option Move) StreamEnd) → c.read_next_move.result ≡ result
    → IfSome (file_of (g.S.Shelf.held c.args.shelf.now) c.args.name.now)
    (Answers c.args.self.now (record (after_move (seen c.self.inside) result) { lines = c.read_next_move.new.lines }) result)
answered g c result is =
    let old : Streamed = seen c.self.inside in
    let file : Option (List ℕ) = file_of (g.S.Shelf.held c.args.shelf.now) c.args.name.now in
    let to_come : ℕ = c.saturating_sub-to_come.result in
    let count : to_come ≡ count_in old.head - old.given =
    c.saturating_sub-to_come.ensures ∙ ap (λ n. n - old.given) c.count.ensures in
    let moves : streams_list old ≡ true = subst (λ (s : Streamed). streams_list s ≡ true) (sym c.self.view_is) c.requires in
    let Says : Result (Option Move) StreamEnd → Type 0 = λ r. IfSome file (ReadsNext old c.read_next_move.new.lines to_come r)
    × OnOk r (IfSome file (λ (f : List ℕ). Reads old.lines.reading f → Reads c.read_next_move.new.lines.reading f))
    × OnOk r (IfSome file (LeavesLines old.lines c.read_next_move.new.lines)) in
    let says : Says result =
    subst Says is (c.read_next_move.ensures.answer, c.read_next_move.ensures.reads, c.read_next_move.ensures.left) in
    subst (λ (s : Streamed). IfSome file (Answers s (record (after_move old result) { lines = c.read_next_move.new.lines }) result))
    c.self.view_is
    (gives_answer file old c.read_next_move.new.lines to_come result moves count says.0 says.1 says.2)

pub returns-in-Ok-Some-clause-answer : goal.returns-in-Ok-Some-clause-answer
returns-in-Ok-Some-clause-answer g c = λ unrefused.
    let at = goal.at.returns-in-Ok-Some-clause-answer g c in
    answered g at.After-read_next_move (Ok (Some c.in-Ok-Some.mv)) (c.in-Ok-Some.is ∙ ap Ok c.in-Ok-Some.field-0-is)

pub returns-in-Ok-None-clause-answer : goal.returns-in-Ok-None-clause-answer
returns-in-Ok-None-clause-answer g c = λ unrefused.
    let at = goal.at.returns-in-Ok-None-clause-answer g c in
    answered g at.After-read_next_move (Ok None) (c.in-Ok-None.is ∙ ap Ok c.in-Ok-None.field-0-is)

pub returns-in-Err-clause-answer : goal.returns-in-Err-clause-answer
returns-in-Err-clause-answer g c = λ unrefused.
    let at = goal.at.returns-in-Err-clause-answer g c in
    answered g at.After-read_next_move (Err c.in-Err.«end») c.in-Err.is

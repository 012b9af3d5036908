use Rattle.walk_files.proofs.Common.{◌<◌, ◌^◌, ℕ, List, length, sym, ap, ◌∙◌, subst, err_from_is_err_and, Ok, Err, file_of, full_lines, end_line, lines_left, AreFew, denial_in, unlabelled, end_of_text}
use Rattle.walk_files.proofs.FewLemmas.{full_lines-few}
use Rattle.walk_files.proofs.StreamDenials.{denial_answered, answers_denial, answers_wrong, end_of_text-no_want}
use Rattle.walk_files.proofs.stream_denial.read_stream_denial.Goals as goal

pub read_denial-requires : goal.read_denial-requires
read_denial-requires g c =
    let short : length c.deref.result.now < 2 ^ 32 =
    subst (λ (t : List ℕ). length t < 2 ^ 32) (sym c.deref.ensures.value) c.in_ok-text.ensures.short in
    subst AreFew (sym c.new-cursor.ensures.lines) (full_lines-few c.deref.result.now short)

pub returns-in_err-read_denial-clause-answer : goal.returns-in_err-read_denial-clause-answer
returns-in_err-read_denial-clause-answer g c =
    let fault = c.in_err-read_denial.field-0.0 in
    let lines = lines_left c.new-cursor.result in
    let whole = denial_in c.new-cursor.result.end_line (unlabelled c.args.degree) lines in
    let p = err_from_is_err_and c.from_residual-in_err-read_denial.result c.from_residual-in_err-read_denial.ensures.1 in
    rw (p.1, p.2)
    (denial_answered (file_of (g.S.Shelf.held c.args.shelf.now) c.args.name.now) c.args.lines.now c.gather_lines.new.lines c.args.degree
    c.new-cursor.result.end_line lines c.in_ok-text.text.items (Err (end_of_text fault)) c.in_ok-text.ensures.text
    (c.new-cursor.ensures.lines ∙ ap full_lines c.deref.ensures.value) (c.new-cursor.ensures.«end» ∙ ap end_line c.deref.ensures.value)
    (answers_wrong fault whole c.in_err-read_denial.ensures.denial))

pub returns-in_err-read_denial-clause-no_want : goal.returns-in_err-read_denial-clause-no_want
returns-in_err-read_denial-clause-no_want g c =
    let p = err_from_is_err_and c.from_residual-in_err-read_denial.result c.from_residual-in_err-read_denial.ensures.1 in
    rw (p.1, p.2) (λ e. end_of_text-no_want c.in_err-read_denial.field-0.0 cc)

pub returns-clause-answer : goal.returns-clause-answer
returns-clause-answer g c =
    let denial = c.in_ok-read_denial.field-0 in
    let lines = lines_left c.new-cursor.result in
    denial_answered (file_of (g.S.Shelf.held c.args.shelf.now) c.args.name.now) c.args.lines.now c.gather_lines.new.lines c.args.degree
    c.new-cursor.result.end_line lines c.in_ok-text.text.items (Ok denial) c.in_ok-text.ensures.text
    (c.new-cursor.ensures.lines ∙ ap full_lines c.deref.ensures.value) (c.new-cursor.ensures.«end» ∙ ap end_line c.deref.ensures.value)
    (answers_denial denial (denial_in c.new-cursor.result.end_line (unlabelled c.args.degree) lines) c.in_ok-read_denial.ensures.denial)

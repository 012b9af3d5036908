use Rattle.homotopy_arrays.proofs.Common.{sym, err_from_is_err_and}
use Rattle.walk_files.specs.declared.certificate.CertHead.TheVariants as heads
use Rattle.homotopy_arrays.proofs.CertificateLemmas.{head_within}
use Rattle.homotopy_arrays.proofs.JudgementLemmas.{denial_judged, denial_wrong, head_faulty, head_is, moves_faulty, moves_judged}
use Rattle.homotopy_arrays.proofs.verify.judge_text.Goals as goal

pub returns-in_err-reader : goal.returns-in_err-reader
returns-in_err-reader c =
    let p = err_from_is_err_and c.from_residual.result c.from_residual.ensures.1 in
    rw p.1 (head_faulty c.args.certificate.now c.in_err-reader.field-0.0 p.0 c.in_err-reader.ensures.started p.2)

pub judge_moves-requires-clause-peak : goal.judge_moves-requires-clause-peak
judge_moves-requires-clause-peak c =
    let text = c.args.certificate.now in
    let reader = c.in_ok-reader.reader in
    head_within text c.in-Moves.count c.in-Moves.peak
    (head_is text reader (heads.Moves c.in-Moves.count c.in-Moves.peak) c.in_ok-reader.ensures.started (sym c.in-Moves.ensures))

pub returns-in_err-verdict-in-Moves : goal.returns-in_err-verdict-in-Moves
returns-in_err-verdict-in-Moves c =
    let text = c.args.certificate.now in
    let reader = c.in_ok-reader.reader in
    let p = err_from_is_err_and c.from_residual-in_err-verdict-in-Moves.result c.from_residual-in_err-verdict-in-Moves.ensures.1 in
    rw (p.1, p.2)
    (moves_faulty text reader c.in-Moves.count c.in-Moves.peak c.in_err-verdict-in-Moves.field-0.0 c.in_ok-reader.ensures.started
    (sym c.in-Moves.ensures) c.in_err-verdict-in-Moves.ensures)

pub returns-in_ok-verdict-in-Moves : goal.returns-in_ok-verdict-in-Moves
returns-in_ok-verdict-in-Moves c =
    moves_judged c.args.on.now.faces.now c.args.on.now.first.now c.args.on.now.second.now c.args.certificate.now c.in_ok-reader.reader
    c.in-Moves.count c.in-Moves.peak c.in_ok-verdict-in-Moves.verdict c.in_ok-reader.ensures.started (sym c.in-Moves.ensures)
    c.in_ok-verdict-in-Moves.ensures

pub returns-in_err-denial-in-Labels : goal.returns-in_err-denial-in-Labels
returns-in_err-denial-in-Labels c =
    let p = err_from_is_err_and c.from_residual-in_err-denial-in-Labels.result c.from_residual-in_err-denial-in-Labels.ensures.1 in
    rw p.1
    (denial_wrong c.args.certificate.now c.in_ok-reader.reader c.in-Labels.degree c.in_err-denial-in-Labels.field-0.0 p.0
    c.in_ok-reader.ensures.started (sym c.in-Labels.ensures) c.in_err-denial-in-Labels.ensures.answer p.2)

pub returns-in_ok-verdict-in-Labels : goal.returns-in_ok-verdict-in-Labels
returns-in_ok-verdict-in-Labels c =
    denial_judged c.args.on.now.faces.now c.args.on.now.first.now c.args.on.now.second.now c.args.certificate.now c.in_ok-reader.reader
    c.in-Labels.degree c.in_ok-denial-in-Labels.denial c.in_ok-verdict-in-Labels.verdict c.in_ok-reader.ensures.started
    (sym c.in-Labels.ensures) c.in_ok-denial-in-Labels.ensures.answer c.in_ok-verdict-in-Labels.ensures.verdict

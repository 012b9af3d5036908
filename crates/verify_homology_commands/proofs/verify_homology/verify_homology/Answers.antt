use Rattle.verify_homology_commands.proofs.Common.{judged_no_fault, only_then, runs_judged, runs_stopped, Passes, pair_in, Stops, ◌∙◌, subst, Option, Files, homology_certificate_in}
use Rattle.verify_homology_commands.proofs.Verifying.{walks_stop, certificate_stops, judged}
use Rattle.verify_homology_commands.proofs.verify_homology.verify_homology.Goals as goal

pub returns-in_err-pair : goal.returns-in_err-pair
returns-in_err-pair g c =
    let faces = c.in_ok-faces.faces in
    let stop = c.in_err-pair.field-0.0 in
    let stops = c.in_err-pair.ensures.reads.end faces c.in_ok-sides.ensures.table in
    runs_stopped (λ none. none.0.0) c.from_residual-in_err-pair.ensures.1 c.in_ok-faces.ensures.only_reads c.in_err-pair.ensures.reads
    (walks_stop (g.S.Shelf.held c.args.shelf.now) c.args.mesh.now c.args.walks.now c.args.certificate.now faces stop
    c.in_ok-faces.ensures.end
    (subst (λ (files : Option Files). Stops (pair_in files c.args.walks.now faces) stop) c.in_ok-faces.ensures.only_reads.same_files stops))

pub returns-in_err-shown : goal.returns-in_err-shown
returns-in_err-shown g c =
    let faces = c.in_ok-faces.faces in
    let pair = c.in_ok-pair.pair.walks in
    let stop = c.in_err-shown.field-0.0 in
    let same = c.in_ok-faces.ensures.only_reads.same_files in
    runs_stopped (λ none. none.0.0) c.from_residual-in_err-shown.ensures.1
    (only_then c.in_ok-faces.ensures.only_reads c.in_ok-pair.ensures.reads.only_reads) c.in_err-shown.ensures
    (certificate_stops (g.S.Shelf.held c.args.shelf.now) c.args.mesh.now c.args.walks.now c.args.certificate.now faces pair stop
    c.in_ok-faces.ensures.end
    (subst (λ (files : Option Files). Passes (pair_in files c.args.walks.now faces) pair) same
    (c.in_ok-pair.ensures.reads.end faces c.in_ok-sides.ensures.table))
    (subst (λ (files : Option Files). Stops (homology_certificate_in files c.args.certificate.now) stop)
    (c.in_ok-pair.ensures.reads.only_reads.same_files ∙ same) c.in_err-shown.ensures.end))

pub judge-requires-clause-pair : goal.judge-requires-clause-pair
judge-requires-clause-pair g c = c.in_ok-pair.ensures.pair c.in_ok-faces.faces c.in_ok-sides.ensures.table

pub returns : goal.returns
returns g c =
    let faces = c.in_ok-faces.faces in
    let pair = c.in_ok-pair.pair.walks in
    let shown = c.in_ok-shown.shown in
    let same = c.in_ok-faces.ensures.only_reads.same_files in
    runs_judged (λ none. none.0.0)
    (only_then (only_then c.in_ok-faces.ensures.only_reads c.in_ok-pair.ensures.reads.only_reads) c.in_ok-shown.ensures.only_reads)
    (judged_no_fault c.judge.result _ c.judge.ensures)
    (judged (g.S.Shelf.held c.args.shelf.now) c.args.mesh.now c.args.walks.now c.args.certificate.now faces pair shown c.judge.result
    c.in_ok-faces.ensures.end
    (subst (λ (files : Option Files). Passes (pair_in files c.args.walks.now faces) pair) same
    (c.in_ok-pair.ensures.reads.end faces c.in_ok-sides.ensures.table))
    (subst (λ (files : Option Files). Passes (homology_certificate_in files c.args.certificate.now) shown)
    (c.in_ok-pair.ensures.reads.only_reads.same_files ∙ same) c.in_ok-shown.ensures.end)
    c.judge.ensures)

use Rattle.verify_commands.proofs.Common.{stops_first, judged_no_fault, only_self, only_then, reads_ended, reads_made, reads_stopped, reads_then, certificate_in, certificate_of, Stops, Certificate, Denial, MOST_BYTES, ◌≡◌, ◌<◌, ◌≤◌, ℕ, List, length, sym, ap, subst, ◌∙◌, err_from_is_err_and, Option, Ok, Err, Files, file_of, IsVerdictOnFile, judgement, head_of_text, denial_left, Streamed, reader_at, IsIn, Belongs, IsStreamAnswer, IsWithin, CertHead, Labels, StreamEnd}
use Rattle.labellings.specs.declared.denial.Denial as denials
use Rattle.verify_commands.proofs.Streaming.{at_told, certificate_passed, certificate_stopped, denial_right, denial_start, denial_wrong, head_answered, told}
use Rattle.verify_commands.proofs.Verifying.{denial_judged, judged, moves_judged}
use Rattle.verify_commands.proofs.verify.judge.Goals as goal

pub returns-in_err-stream : goal.returns-in_err-stream
returns-in_err-stream g c =
    let end : StreamEnd = c.in_err-stream.field-0.0 in
    let name : List ℕ = c.args.certificate.now in
    let held : Option Files = g.S.Shelf.held c.args.shelf.now in
    let file : Option (List ℕ) = file_of held name in
    let p = err_from_is_err_and c.from_residual.result c.from_residual.ensures.1 in
    rw p.1
    (reads_stopped end p.0
    (only_self) c.in_err-stream.ensures.only_reads
    (λ e. c.in_err-stream.ensures.fault (ap (λ (x : StreamEnd). Err x) e)) p.2
    (stops_first (certificate_in held name) (judgement c.args.pair.now.faces.now c.args.pair.now.first.now c.args.pair.now.second.now) p.0
    (certificate_stopped held name end p.0 p.2
    (told (λ f. IsStreamAnswer {A = Certificate} (Err end) (certificate_of f)) file (λ f is.
    head_answered f end (at_told (λ g. IsStreamAnswer {A = CertHead} (Err end) (head_of_text g)) file f is c.in_err-stream.ensures.answer)))
    c.in_err-stream.ensures.within (λ e. c.in_err-stream.ensures.too_large (ap (λ (x : StreamEnd). Err x) e)))))

pub returns-in_err-verdict-in-Moves : goal.returns-in_err-verdict-in-Moves
returns-in_err-verdict-in-Moves g c =
    let stop = c.in_err-verdict-in-Moves.field-0.0 in
    let name : List ℕ = c.args.certificate.now in
    let held : Option Files = g.S.Shelf.held c.args.shelf.now in
    let only = c.in_ok-stream.ensures.only_reads in
    let p = err_from_is_err_and c.from_residual-in_err-verdict-in-Moves.result c.from_residual-in_err-verdict-in-Moves.ensures.1 in
    rw (p.1, p.2)
    (reads_then only c.in_err-verdict-in-Moves.ensures
    (stops_first (certificate_in held name) (judgement c.args.pair.now.faces.now c.args.pair.now.first.now c.args.pair.now.second.now) stop
    (subst (λ (files : Option Files). Stops (certificate_in files name) stop) only.same_files c.in_err-verdict-in-Moves.ensures.end)))

pub returns-in_ok-verdict-in-Moves : goal.returns-in_ok-verdict-in-Moves
returns-in_ok-verdict-in-Moves g c =
    let name : List ℕ = c.args.certificate.now in
    let faces = c.args.pair.now.faces.now in
    let first : List ℕ = c.args.pair.now.first.now in
    let second : List ℕ = c.args.pair.now.second.now in
    let verdict = c.in_ok-verdict-in-Moves.verdict in
    let only = c.in_ok-stream.ensures.only_reads in
    reads_made (only_then only c.in_ok-verdict-in-Moves.ensures.only_reads)
    (moves_judged (g.S.Shelf.held c.args.shelf.now) name faces first second verdict c.reply_on_moves.result
    (subst (λ (files : Option Files). IsVerdictOnFile files name faces first second verdict) only.same_files
    c.in_ok-verdict-in-Moves.ensures.end)
    c.reply_on_moves.ensures)

pub returns-in_err-denial-in-Labels : goal.returns-in_err-denial-in-Labels
returns-in_err-denial-in-Labels g c =
    let end : StreamEnd = c.in_err-denial-in-Labels.field-0.0 in
    let name : List ℕ = c.args.certificate.now in
    let stream : Streamed = c.in_ok-stream.stream in
    let held : Option Files = g.S.Shelf.held c.args.shelf.now in
    let file : Option (List ℕ) = file_of held name in
    let now : Option (List ℕ) = file_of (g.S.Shelf.held c.start.new.shelf) name in
    let only = c.in_ok-stream.ensures.only_reads in
    let same : now ≡ file = ap (λ (h : Option Files). file_of h name) only.same_files in
    let fresh = c.in_ok-stream.ensures.fresh in
    let head : stream.head ≡ Labels c.in-Labels.degree = sym c.in-Labels.ensures in
    let Told : List ℕ → Type 0 = λ f. IsIn stream f
    → IsStreamAnswer {A = denials.Denial} (Err end) (denial_left (reader_at stream f)) × Belongs c.denial.new.self f in
    let Within : List ℕ → Type 0 = λ f. IsIn stream f → IsWithin end (length f) stream.lines.reading.limit in
    let Large : List ℕ → Type 0 = λ f. IsIn stream f → stream.lines.reading.limit < length f in
    let p = err_from_is_err_and c.from_residual-in_err-denial-in-Labels.result c.from_residual-in_err-denial-in-Labels.ensures.1 in
    rw p.1
    (reads_stopped end p.0 only
    c.in_err-denial-in-Labels.ensures.only_reads
    (λ e. c.in_err-denial-in-Labels.ensures.fault fresh.2 (ap (λ (x : StreamEnd). Err x) e)) p.2
    (stops_first (certificate_in held name) (judgement c.args.pair.now.faces.now c.args.pair.now.first.now c.args.pair.now.second.now) p.0
    (certificate_stopped held name end p.0 p.2
    (told (λ f. IsStreamAnswer {A = Certificate} (Err end) (certificate_of f)) file (λ f is.
    let in_file : IsIn stream f = at_told (IsIn stream) file f is c.in_ok-stream.ensures.answer in
    denial_wrong f c.in-Labels.degree end (in_file.head ∙ ap (λ (h : CertHead). Ok h) head)
    (subst (IsStreamAnswer {A = denials.Denial} (Err end)) (denial_start stream f c.in-Labels.degree head fresh.0)
    (at_told Told now f (same ∙ is) (c.in_err-denial-in-Labels.ensures.answer fresh.2) in_file).0)))
    (told (λ f. IsWithin end (length f) MOST_BYTES) file (λ f is.
    subst (λ n. IsWithin end (length f) n) fresh.3
    (at_told Within now f (same ∙ is) (c.in_err-denial-in-Labels.ensures.within fresh.2)
    (at_told (IsIn stream) file f is c.in_ok-stream.ensures.answer))))
    (λ e. told (λ f. MOST_BYTES < length f) file (λ f is.
    subst (λ n. n < length f) fresh.3
    (at_told Large now f (same ∙ is) (c.in_err-denial-in-Labels.ensures.too_large fresh.2 (ap (λ (x : StreamEnd). Err x) e))
    (at_told (IsIn stream) file f is c.in_ok-stream.ensures.answer)))))))

pub returns-in_ok-verdict-in-Labels : goal.returns-in_ok-verdict-in-Labels
returns-in_ok-verdict-in-Labels g c =
    let name : List ℕ = c.args.certificate.now in
    let faces = c.args.pair.now.faces.now in
    let first : List ℕ = c.args.pair.now.first.now in
    let second : List ℕ = c.args.pair.now.second.now in
    let stream : Streamed = c.in_ok-stream.stream in
    let denial = c.in_ok-denial-in-Labels.denial in
    let held : Option Files = g.S.Shelf.held c.args.shelf.now in
    let file : Option (List ℕ) = file_of held name in
    let now : Option (List ℕ) = file_of (g.S.Shelf.held c.start.new.shelf) name in
    let only = c.in_ok-stream.ensures.only_reads in
    let same : now ≡ file = ap (λ (h : Option Files). file_of h name) only.same_files in
    let fresh = c.in_ok-stream.ensures.fresh in
    let head : stream.head ≡ Labels c.in-Labels.degree = sym c.in-Labels.ensures in
    let Told : List ℕ → Type 0 = λ f. IsIn stream f
    → (denial_left (reader_at stream f) ≡ Ok denial) × Belongs c.denial.new.self f in
    let Within : List ℕ → Type 0 = λ f. IsIn stream f → length f ≤ stream.lines.reading.limit in
    reads_ended
    (only_then only
    c.in_ok-denial-in-Labels.ensures.only_reads) (judged_no_fault c.reply_on_denial.result _ c.reply_on_denial.ensures)
    (judged held name faces first second (Denial denial) c.reply_on_denial.result
    (certificate_passed held name (Denial denial)
    (told (λ f. (certificate_of f ≡ Ok (Denial denial)) × (length f ≤ MOST_BYTES)) file (λ f is.
    let in_file : IsIn stream f = at_told (IsIn stream) file f is c.in_ok-stream.ensures.answer in (
      denial_right f c.in-Labels.degree denial (in_file.head ∙ ap (λ (h : CertHead). Ok h) head)
          (sym (denial_start stream f c.in-Labels.degree head fresh.0)
          ∙ (at_told Told now f (same ∙ is) (c.in_ok-denial-in-Labels.ensures.answer fresh.2) in_file).0),
      subst (λ n. length f ≤ n) fresh.3 (at_told Within now f (same ∙ is) (c.in_ok-denial-in-Labels.ensures.within fresh.2) in_file),
    ))))
    (denial_judged faces first second denial c.in_ok-verdict-in-Labels.verdict c.reply_on_denial.result
    c.in_ok-verdict-in-Labels.ensures.verdict c.reply_on_denial.ensures))

use Rattle.verify_commands.proofs.Common.{verdict_over_peak, verdict_start, verdict_from, ◌≤◌, ℕ, List, inl, inr, sym, ap, ◌∙◌, cases_lt, Err, PeakedMoves, darts}
use Rattle.verify_commands.proofs.progress.Progress.start.Goals as goal

pub returns-in-Ok : goal.returns-in-Ok
returns-in-Ok c = λ mesh second moves.
    let tape = c.in-Ok.tape in
    let list : PeakedMoves = record { moves = moves; peak = c.args.peak } in
    let within : darts c.args.first.now ≤ c.args.peak =
    elim (cases_lt c.args.peak (darts c.args.first.now)) [ inl lt ↦ let over = c.in-Ok.ensures.over.1 lt in cc | inr le ↦ le ] in
    ap (λ (p : ℕ). verdict_from mesh p second 1 tape.walk moves) c.in-Ok.ensures.peak
    ∙ ap (λ (w : List ℕ). verdict_from mesh c.args.peak second 1 w moves) c.in-Ok.ensures.walk
    ∙ sym (verdict_start mesh c.args.first.now second list within)

pub returns-in-Err-OverPeak : goal.returns-in-Err-OverPeak
returns-in-Err-OverPeak c = λ mesh second moves.
    let list : PeakedMoves = record { moves = moves; peak = c.args.peak } in
    sym (verdict_over_peak mesh c.args.first.now second list
    (c.in-Err-OverPeak.ensures.over.0 (ap (λ e. Err e) c.in-Err-OverPeak.field-0-is)))

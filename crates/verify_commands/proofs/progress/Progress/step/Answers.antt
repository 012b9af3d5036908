use Rattle.verify_commands.proofs.Common.{verdict_more, verdict_refused, verdict_from, ℕ, ◌+◌, sym, ap, ◌∙◌}
use Rattle.verify_commands.proofs.progress.Progress.step.Goals as goal

pub returns-in-Err : goal.returns-in-Err
returns-in-Err c =
    let tape = c.in-Going.tape in
    rw c.in-Going.is
    (λ second moves.
    verdict_refused c.args.pair.now.faces.now tape.peak second (c.args.done + 1) tape.walk c.args.mv moves c.in-Err.fault
    c.in-Err.ensures.step)

pub returns-in_default-step : goal.returns-in_default-step
returns-in_default-step c =
    let tape = c.in-Going.tape in
    let next = c.step.new.self in
    rw c.in-Going.is
    (λ second moves.
    verdict_more c.args.pair.now.faces.now tape.peak second (c.args.done + 1) tape.walk next.walk c.args.mv moves
    c.in_default-step.ensures.step
    ∙ ap (λ (p : ℕ). verdict_from c.args.pair.now.faces.now p second (c.args.done + 1 + 1) next.walk moves) (sym c.step.ensures.peak))

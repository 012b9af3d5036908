use Rattle.verify_commands.proofs.Common.{verdict_accepted, verdict_end, ◌+◌, refl, sym}
use Rattle.verify_commands.proofs.progress.Progress.verdict.Goals as goal

pub returns-in-Going : goal.returns-in-Going
returns-in-Going c =
    let tape = c.in-Going.tape in
    rw c.in-Going.is
    (λ mesh done. sym (verdict_accepted mesh tape.peak c.args.second.now (done + 1) tape.walk (c.if-equals.ensures.0 refl)))

pub returns-in-Going-2 : goal.returns-in-Going-2
returns-in-Going-2 c =
    let tape = c.in-Going.tape in
    rw c.in-Going.is
    (λ mesh done.
    sym (verdict_end mesh tape.peak c.args.second.now (done + 1) tape.walk (λ same. let t = c.if-equals.ensures.1 same in cc)))

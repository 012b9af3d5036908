use Rattle.trial_commands.proofs.Common.{read_passes, Passes, meant, off_line, meaning_of, OutOfMemory, List, ℕ, subst, chain_text}
use Rattle.trial_commands.proofs.Trying.{spelled_end}
use Rattle.trial_commands.proofs.trial.chain_surface.Goals as goal

pub returns-clause-end : goal.returns-clause-end
returns-clause-end c =
    let text = chain_text c.args.genus c.args.grid in
    let read : Passes (meant off_line (meaning_of c.in_ok-text.text.items)) c.in_ok-faces.faces =
    read_passes off_line (meaning_of c.in_ok-text.text.items) c.in_ok-faces.faces OutOfMemory
    (rw c.deref.ensures.value at c.in_ok-faces.ensures) in
    spelled_end text c.in_ok-faces.faces c.surface_of.result
    (subst (λ (bytes : List ℕ). Passes (meant off_line (meaning_of bytes)) c.in_ok-faces.faces) c.in_ok-text.ensures read)
    c.surface_of.ensures.mesh c.surface_of.ensures.end

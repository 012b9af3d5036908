use Rattle.closed_walks.proofs.FreeStepLemmas.{steps_keep}
use Rattle.closed_walks.proofs.laws.free_steps_keep_closed_walks.Goals as goal

pub returns : goal.returns
returns c = λ mesh walk next steps. steps_keep mesh steps walk next

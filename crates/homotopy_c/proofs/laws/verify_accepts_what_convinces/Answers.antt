use Rattle.homotopy_c.proofs.ShowingLemmas.{accepted_convinces, convinces_accepted}
use Rattle.homotopy_c.proofs.laws.verify_accepts_what_convinces.Goals as goal

pub returns-clause-convinces : goal.returns-clause-convinces
returns-clause-convinces c = accepted_convinces

pub returns-clause-accepted : goal.returns-clause-accepted
returns-clause-accepted c = convinces_accepted

use Rattle.homotopy_c.proofs.ShowingLemmas.{certify_different, certify_homotopic, certify_nothing}
use Rattle.homotopy_c.proofs.laws.certify_shows_what_is_homotopic.Goals as goal

pub returns-clause-homotopic : goal.returns-clause-homotopic
returns-clause-homotopic c = certify_homotopic

pub returns-clause-different : goal.returns-clause-different
returns-clause-different c = certify_different

pub returns-clause-else_nothing : goal.returns-clause-else_nothing
returns-clause-else_nothing c = certify_nothing

use Rattle.homotopy_c.proofs.Common.{IsDecideFault, IsAnswer, Different, DoesAnswer, byte_of, IsOrientableSurface}
use Rattle.homotopy_c.proofs.TellingLemmas.{answers_mean, byte_means, else_same}
use Rattle.homotopy_c.proofs.laws.decide_tells_what_is_homotopic.Goals as goal

pub returns-clause-answers : goal.returns-clause-answers
returns-clause-answers c = answers_mean IsOrientableSurface IsDecideFault IsAnswer byte_of DoesAnswer byte_means Different

pub returns-clause-else_nothing : goal.returns-clause-else_nothing
returns-clause-else_nothing c = λ mesh sizes vertices old answers outcome. else_same byte_of _ sizes old answers outcome

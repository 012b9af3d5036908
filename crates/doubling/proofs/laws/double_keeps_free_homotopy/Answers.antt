use Rattle.doubling.proofs.KeptClasses.{keeps_free_homotopy}
use Rattle.doubling.proofs.laws.double_keeps_free_homotopy.Goals as goal

pub returns : goal.returns
returns c = keeps_free_homotopy

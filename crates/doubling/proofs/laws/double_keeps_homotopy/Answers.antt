use Rattle.doubling.proofs.KeptClasses.{keeps_homotopy}
use Rattle.doubling.proofs.laws.double_keeps_homotopy.Goals as goal

pub returns : goal.returns
returns c = keeps_homotopy

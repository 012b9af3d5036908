use Rattle.doubling.proofs.KeptClasses.{keeps_homology}
use Rattle.doubling.proofs.laws.double_keeps_homology.Goals as goal

pub returns : goal.returns
returns c = keeps_homology

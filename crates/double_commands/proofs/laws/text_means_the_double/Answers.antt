use Rattle.double_commands.proofs.DoubleChecks.{means_double}
use Rattle.double_commands.proofs.laws.text_means_the_double.Goals as goal

pub returns : goal.returns
returns c = means_double

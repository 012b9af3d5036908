use Rattle.double_commands.proofs.DoubleChecks.{means_closed}
use Rattle.double_commands.proofs.laws.text_means_a_closed_surface.Goals as goal

pub returns : goal.returns
returns c = means_closed

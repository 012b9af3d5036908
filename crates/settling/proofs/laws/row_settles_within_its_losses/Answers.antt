use Rattle.settling.proofs.Law.{settles_within}
use Rattle.settling.proofs.laws.row_settles_within_its_losses.Goals as goal

pub returns : goal.returns
returns c = settles_within

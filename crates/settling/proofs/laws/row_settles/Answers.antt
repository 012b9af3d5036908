use Rattle.settling.proofs.Law.{settles}
use Rattle.settling.proofs.laws.row_settles.Goals as goal

pub returns : goal.returns
returns c = settles

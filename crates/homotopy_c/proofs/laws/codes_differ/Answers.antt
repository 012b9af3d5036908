use Rattle.homotopy_c.proofs.Common.{refl}
use Rattle.homotopy_c.proofs.laws.codes_differ.Goals as goal

pub returns : goal.returns
returns c = refl

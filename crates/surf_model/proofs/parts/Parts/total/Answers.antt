use Rattle.surf_model.proofs.Common.{arith}
use Rattle.surf_model.proofs.JoinedPartsLemmas.{last_end-joined}
use Rattle.surf_model.proofs.parts.Parts.total.Goals as goal

pub returns : goal.returns
returns c = grind (arith, last_end-joined)

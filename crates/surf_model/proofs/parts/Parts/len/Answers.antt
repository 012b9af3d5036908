use Rattle.surf_model.proofs.Common.{arith}
use Rattle.surf_model.proofs.JoinedPartsLemmas.{length-joined}
use Rattle.surf_model.proofs.parts.Parts.len.Goals as goal

pub returns : goal.returns
returns c = grind (arith, length-joined)

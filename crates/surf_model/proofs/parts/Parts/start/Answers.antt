use Rattle.surf_model.proofs.Common.{◌-◌, arith}
use Rattle.surf_model.proofs.JoinedPartsLemmas.{listed_below, start-first, start-behind}
use Rattle.surf_model.proofs.parts.Parts.start.Goals as goal

pub end-requires : goal.end-requires
end-requires c = grind (arith, listed_below)

pub returns-then-part-self : goal.returns-then-part-self
returns-then-part-self c = grind (arith, start-first)

pub returns-else-part-self : goal.returns-else-part-self
returns-else-part-self c = grind (arith, listed_below, start-behind)

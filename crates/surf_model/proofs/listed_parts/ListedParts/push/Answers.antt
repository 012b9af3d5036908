use Rattle.surf_model.proofs.Common.{arith}
use Rattle.surf_model.proofs.PartsLemmas.{part_list-push}
use Rattle.surf_model.proofs.listed_parts.ListedParts.push.Goals as goal

pub invariant_of-self-2 : goal.invariant_of-self-2
invariant_of-self-2 c = grind (arith, part_list-push)

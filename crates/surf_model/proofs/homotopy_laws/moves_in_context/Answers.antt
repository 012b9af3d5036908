use Rattle.surf_model.proofs.Common.{arith}
use Rattle.surf_model.proofs.ContextLemmas.{in_context, list_in_context}
use Rattle.surf_model.proofs.homotopy_laws.moves_in_context.Goals as goal

pub returns : goal.returns
returns c = grind (arith, in_context, list_in_context)

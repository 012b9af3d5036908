use Rattle.surf_model.proofs.ReplacementLemmas.{by_replacing}
use Rattle.surf_model.proofs.laws.move_is_a_replacement.Goals as goal

pub returns : goal.returns
returns c = by_replacing

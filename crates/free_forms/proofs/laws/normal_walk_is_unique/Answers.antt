use Rattle.free_forms.proofs.NormalLemmas.{one_normal}
use Rattle.free_forms.proofs.laws.normal_walk_is_unique.Goals as goal

pub returns : goal.returns
returns c = one_normal

use Rattle.free_forms.proofs.NormalLemmas.{by_normal_walks}
use Rattle.free_forms.proofs.laws.homotopic_by_normal_walks.Goals as goal

pub returns : goal.returns
returns c = by_normal_walks

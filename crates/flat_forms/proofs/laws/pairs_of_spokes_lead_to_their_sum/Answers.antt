use Rattle.flat_forms.proofs.SumsOfPairs.{leads-to-sum}
use Rattle.flat_forms.proofs.laws.pairs_of_spokes_lead_to_their_sum.Goals as goal

pub returns : goal.returns
returns c = leads-to-sum

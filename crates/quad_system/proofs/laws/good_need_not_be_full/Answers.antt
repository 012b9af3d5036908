use Rattle.quad_system.proofs.ZeroLabelLemmas.{zero_good, zero_not_full}
use Rattle.quad_system.proofs.laws.good_need_not_be_full.Goals as goal

pub returns : goal.returns
returns c = record { good = zero_good; not_full = zero_not_full }

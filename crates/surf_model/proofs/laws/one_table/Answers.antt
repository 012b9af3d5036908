use Rattle.surf_model.proofs.OneTableLemmas.{one_table}
use Rattle.surf_model.proofs.laws.one_table.Goals as goal

pub returns : goal.returns
returns c = one_table

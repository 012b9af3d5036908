use Rattle.surf_model.proofs.OneTableLemmas.{sides_in_table}
use Rattle.surf_model.proofs.laws.sides_in_table.Goals as goal

pub returns : goal.returns
returns c = sides_in_table

use Rattle.surf_model.proofs.EdgeTables.{some_table}
use Rattle.surf_model.proofs.laws.each_mesh_has_a_table.Goals as goal

pub returns : goal.returns
returns c = some_table

use Rattle.renaming.proofs.RenamedSides.{valid_renamed, total_renamed, used_renamed, edge_renamed}
use Rattle.renaming.proofs.laws.renamed_mesh_is_a_mesh.Goals as goal

pub returns-clause-valid : goal.returns-clause-valid
returns-clause-valid c = valid_renamed

pub returns-clause-sides : goal.returns-clause-sides
returns-clause-sides c = total_renamed

pub returns-clause-used : goal.returns-clause-used
returns-clause-used c = used_renamed

pub returns-clause-edge : goal.returns-clause-edge
returns-clause-edge c = edge_renamed

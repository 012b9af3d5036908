use Rattle.homotopy_c.proofs.TellingLemmas.{any_kept_else_same, any_kept_surface, any_kept_told}
use Rattle.homotopy_c.proofs.laws.any_mesh_is_told_as_its_arrays.Goals as goal

pub returns-clause-answers : goal.returns-clause-answers
returns-clause-answers c = any_kept_told

pub returns-clause-surface : goal.returns-clause-surface
returns-clause-surface c = any_kept_surface

pub returns-clause-else_same : goal.returns-clause-else_same
returns-clause-else_same c = any_kept_else_same

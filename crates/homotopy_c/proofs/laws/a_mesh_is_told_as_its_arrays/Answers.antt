use Rattle.homotopy_c.proofs.TellingLemmas.{kept_else_same, kept_surface, kept_told}
use Rattle.homotopy_c.proofs.laws.a_mesh_is_told_as_its_arrays.Goals as goal

pub returns-clause-answers : goal.returns-clause-answers
returns-clause-answers c = kept_told

pub returns-clause-surface : goal.returns-clause-surface
returns-clause-surface c = kept_surface

pub returns-clause-else_same : goal.returns-clause-else_same
returns-clause-else_same c = kept_else_same

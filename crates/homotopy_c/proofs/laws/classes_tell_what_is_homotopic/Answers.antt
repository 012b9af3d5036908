use Rattle.homotopy_c.proofs.ClassTellings.{classes_alike, classes_else_same, classes_mean}
use Rattle.homotopy_c.proofs.laws.classes_tell_what_is_homotopic.Goals as goal

pub returns-clause-answers : goal.returns-clause-answers
returns-clause-answers c = classes_mean

pub returns-clause-alike : goal.returns-clause-alike
returns-clause-alike c = classes_alike

pub returns-clause-else_nothing : goal.returns-clause-else_nothing
returns-clause-else_nothing c = classes_else_same

use Rattle.homotopy_c.proofs.TellingLemmas.{surface_means}
use Rattle.homotopy_c.proofs.laws.surface_tells_the_numbers.Goals as goal

pub returns-clause-answers : goal.returns-clause-answers
returns-clause-answers c = λ mesh before numbers old genera outcome h e. (surface_means mesh before numbers old genera outcome h).0 e

pub returns-clause-else_nothing : goal.returns-clause-else_nothing
returns-clause-else_nothing c = λ mesh before numbers old genera outcome h e. (surface_means mesh before numbers old genera outcome h).1 e

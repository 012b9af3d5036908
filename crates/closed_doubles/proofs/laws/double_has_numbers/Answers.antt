use Rattle.closed_doubles.proofs.DoubleNumbers.{double_numbers, double_genus}
use Rattle.closed_doubles.proofs.laws.double_has_numbers.Goals as goal

pub returns-clause-numbers : goal.returns-clause-numbers
returns-clause-numbers c = double_numbers

pub returns-clause-genus : goal.returns-clause-genus
returns-clause-genus c = double_genus

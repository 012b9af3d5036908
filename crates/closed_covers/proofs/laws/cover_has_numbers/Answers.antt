use Rattle.closed_covers.proofs.CoverNumbers.{cover_numbers, cover_genus}
use Rattle.closed_covers.proofs.laws.cover_has_numbers.Goals as goal

pub returns-clause-numbers : goal.returns-clause-numbers
returns-clause-numbers c = cover_numbers

pub returns-clause-genus : goal.returns-clause-genus
returns-clause-genus c = cover_genus

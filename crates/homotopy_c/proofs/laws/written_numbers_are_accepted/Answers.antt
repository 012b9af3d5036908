use Rattle.homotopy_c.proofs.NumberTellings.{written_told}
use Rattle.homotopy_c.proofs.laws.written_numbers_are_accepted.Goals as goal

pub returns : goal.returns
returns c = written_told

use Rattle.file_pieces.proofs.Common.{arith}
use Rattle.file_pieces.proofs.ShortLemmas.{goes_on}
use Rattle.file_pieces.proofs.short_line.ShortLine.push_in_word.Goals as goal

pub invariant_of-self : goal.invariant_of-self
invariant_of-self c = grind arith

pub returns-clause-same : goal.returns-clause-same
returns-clause-same c = grind (arith, goes_on)

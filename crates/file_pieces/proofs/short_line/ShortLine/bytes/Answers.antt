use Rattle.file_pieces.proofs.Common.{arith}
use Rattle.file_pieces.proofs.ShortLemmas.{own_line}
use Rattle.file_pieces.proofs.short_line.ShortLine.bytes.Goals as goal

pub returns-clause-line : goal.returns-clause-line
returns-clause-line c = grind (arith, own_line)

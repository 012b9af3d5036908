use Rattle.file_pieces.proofs.Common.{arith}
use Rattle.file_pieces.proofs.ReadingLemmas.{told, at_told, pass_kept-reads}
use Rattle.file_pieces.proofs.pieces.Pieces.pass_rest.Goals as goal

pub loop-self-init : goal.loop-self-init
loop-self-init g c = grind (arith, told)

pub loop-self-preserved : goal.loop-self-preserved
loop-self-preserved g c = grind (arith, told, at_told, pass_kept-reads)

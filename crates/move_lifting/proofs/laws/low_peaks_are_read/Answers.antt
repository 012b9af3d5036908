use Rattle.move_lifting.proofs.BoundLemmas.{low_most}
use Rattle.move_lifting.proofs.Common.{arith}
use Rattle.move_lifting.proofs.laws.low_peaks_are_read.Goals as goal

pub returns-clause-most : goal.returns-clause-most
returns-clause-most c = λ sides darts list few less low. low_most sides darts list.peak few less low

pub returns-clause-read : goal.returns-clause-read
returns-clause-read c = λ sides darts list few less low. omega (arith, low_most sides darts list.peak few less low)

use Rattle.double_covers.proofs.RingLemmas.{not_twisted}
use Rattle.double_covers.proofs.laws.no_corners_are_twisted.Goals as goal

pub returns : goal.returns
returns c = λ mesh corner valid few is twisted. not_twisted mesh valid few corner twisted

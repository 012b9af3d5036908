use Rattle.double_covers.proofs.LiftedMoves.{walk_lifted}
use Rattle.double_covers.proofs.LiftedWalks.{walk_under}
use Rattle.double_covers.proofs.laws.walks_are_lifted.Goals as goal

pub returns-clause-walk : goal.returns-clause-walk
returns-clause-walk c = λ mesh turns upper walk are w. walk_lifted mesh turns are upper walk w

pub returns-clause-lies_over : goal.returns-clause-lies_over
returns-clause-lies_over c = walk_under

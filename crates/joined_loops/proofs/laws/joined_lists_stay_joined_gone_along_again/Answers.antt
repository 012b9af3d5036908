use Rattle.joined_loops.proofs.Joining.{joined-again}
use Rattle.joined_loops.proofs.laws.joined_lists_stay_joined_gone_along_again.Goals as goal

pub returns : goal.returns
returns c = λ places first second joining count loop joined. joined-again places first second loop (joining, joined) count

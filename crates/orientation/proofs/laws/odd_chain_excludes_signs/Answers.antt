use Rattle.orientation.proofs.ChainLemmas.{odd_excludes}
use Rattle.orientation.proofs.laws.odd_chain_excludes_signs.Goals as goal

pub returns : goal.returns
returns c = odd_excludes

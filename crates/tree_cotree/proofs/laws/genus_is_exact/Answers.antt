use Rattle.tree_cotree.proofs.LawLemmas.{exact}
use Rattle.tree_cotree.proofs.laws.genus_is_exact.Goals as goal

pub returns : goal.returns
returns c = λ surface split o s. exact surface split s.trees split.genus s.genus

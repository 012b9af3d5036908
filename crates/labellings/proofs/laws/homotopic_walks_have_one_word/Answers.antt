use Rattle.labellings.proofs.WalkWordLemmas.{one_word_of_homotopic}
use Rattle.labellings.proofs.laws.homotopic_walks_have_one_word.Goals as goal

pub returns : goal.returns
returns c = one_word_of_homotopic

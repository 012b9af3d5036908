use Rattle.homotopy_c.proofs.ShowingLemmas.{written_accepted}
use Rattle.homotopy_c.proofs.laws.written_texts_are_accepted.Goals as goal

pub returns : goal.returns
returns c = written_accepted

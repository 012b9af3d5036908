use Rattle.settling.proofs.Law.{loses}
use Rattle.settling.proofs.laws.row_loses_at_most_the_word_before.Goals as goal

pub returns : goal.returns
returns c = loses

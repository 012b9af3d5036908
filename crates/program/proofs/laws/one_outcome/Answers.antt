use Rattle.program.proofs.Rows.{sound-words}
use Rattle.program.proofs.laws.one_outcome.Goals as goal

pub returns : goal.returns
returns c = λ held words first second told p q. (sound-words held words).one told first second p q

use Rattle.program.proofs.Rows.{sound-words}
use Rattle.program.proofs.laws.some_outcome.Goals as goal

pub returns : goal.returns
returns c = λ held words. (sound-words held words).some

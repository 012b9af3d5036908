use Rattle.orientation.proofs.ClassLemmas.{signs_unique}
use Rattle.orientation.proofs.laws.kept_signs_are_unique.Goals as goal

pub returns : goal.returns
returns c = λ mesh signs others is h keep k keeps. signs_unique is h k keep keeps

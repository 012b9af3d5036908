use Rattle.cover_answers.proofs.CoveredAnswers.{printed_so}
use Rattle.cover_answers.proofs.laws.written_files_are_such.Goals as goal

pub returns : goal.returns
returns c = printed_so

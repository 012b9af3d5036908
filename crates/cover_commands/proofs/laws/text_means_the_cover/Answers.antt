use Rattle.cover_commands.proofs.CoverAnswers.{means_cover}
use Rattle.cover_commands.proofs.laws.text_means_the_cover.Goals as goal

pub returns : goal.returns
returns c = means_cover

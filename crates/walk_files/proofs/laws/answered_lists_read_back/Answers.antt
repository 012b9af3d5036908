use Rattle.walk_files.proofs.RoundTrip.{list_of_text-answered}
use Rattle.walk_files.proofs.laws.answered_lists_read_back.Goals as goal

pub returns : goal.returns
returns c = list_of_text-answered

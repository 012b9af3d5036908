use Rattle.walk_files.proofs.DenialRoundTrip.{denial_of_text-answered}
use Rattle.walk_files.proofs.laws.answered_denials_read_back.Goals as goal

pub returns : goal.returns
returns c = denial_of_text-answered

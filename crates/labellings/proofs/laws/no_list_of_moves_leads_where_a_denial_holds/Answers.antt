use Rattle.labellings.proofs.WalkWordLemmas.{denial_excludes}
use Rattle.labellings.proofs.laws.no_list_of_moves_leads_where_a_denial_holds.Goals as goal

pub returns : goal.returns
returns c = denial_excludes

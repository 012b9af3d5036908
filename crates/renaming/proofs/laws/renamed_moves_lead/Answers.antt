use Rattle.renaming.proofs.RenamedMoves.{moves_renamed, greatest_renamed}
use Rattle.renaming.proofs.laws.renamed_moves_lead.Goals as goal

pub returns-clause-leads : goal.returns-clause-leads
returns-clause-leads c = moves_renamed

pub returns-clause-darts : goal.returns-clause-darts
returns-clause-darts c = greatest_renamed

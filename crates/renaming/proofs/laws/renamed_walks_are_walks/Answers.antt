use Rattle.renaming.proofs.RenamedWalks.{walk_renamed, restored, ends_renamed}
use Rattle.renaming.proofs.laws.renamed_walks_are_walks.Goals as goal

pub returns-clause-walk : goal.returns-clause-walk
returns-clause-walk c = walk_renamed

pub returns-clause-restored : goal.returns-clause-restored
returns-clause-restored c = restored

pub returns-clause-ends : goal.returns-clause-ends
returns-clause-ends c = ends_renamed

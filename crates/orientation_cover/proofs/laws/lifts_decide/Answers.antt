use Rattle.orientation_cover.proofs.LiftLemmas.{lift_is_walk, lifts_homotopic}
use Rattle.orientation_cover.proofs.laws.lifts_decide.Goals as goal

pub returns-clause-walk : goal.returns-clause-walk
returns-clause-walk c = lift_is_walk

pub returns-clause-homotopy : goal.returns-clause-homotopy
returns-clause-homotopy c = lifts_homotopic

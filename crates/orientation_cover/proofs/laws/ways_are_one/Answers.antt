use Rattle.orientation_cover.proofs.ClassLemmas.{one_ways}
use Rattle.orientation_cover.proofs.ExistingWays.{ways_exist}
use Rattle.orientation_cover.proofs.laws.ways_are_one.Goals as goal

pub returns-clause-some : goal.returns-clause-some
returns-clause-some c = ways_exist

pub returns-clause-one : goal.returns-clause-one
returns-clause-one c = one_ways

use Rattle.double_covers.proofs.WayLemmas.{lead_home, cover_orientable}
use Rattle.double_covers.proofs.laws.cover_by_ways_is_orientable.Goals as goal

pub returns-clause-turns : goal.returns-clause-turns
returns-clause-turns c = lead_home

pub returns-clause-orientable : goal.returns-clause-orientable
returns-clause-orientable c = cover_orientable

use Rattle.quad_system.proofs.PolygonLabelLemmas.{polygon_good}
use Rattle.quad_system.proofs.FullLemmas.{polygon_full}
use Rattle.quad_system.proofs.laws.polygon_labelling_is_good_and_full.Goals as goal

pub returns : goal.returns
returns c = record { good = polygon_good; full = polygon_full }

use Rattle.polygon_cut.proofs.LawLemmas.{labels_ride}
use Rattle.polygon_cut.proofs.laws.labels_ride_along_the_ring.Goals as goal

pub returns : goal.returns
returns c = labels_ride

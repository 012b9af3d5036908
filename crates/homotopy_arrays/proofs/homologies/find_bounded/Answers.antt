use Rattle.homotopy_arrays.proofs.HomologyLemmas.{walks_doubled}
use Rattle.homotopy_arrays.proofs.homologies.find_bounded.Goals as goal

pub find_closed-found-requires-clause-walks : goal.find_closed-found-requires-clause-walks
find_closed-found-requires-clause-walks c =
    walks_doubled c.args.surface.faces c.args.surface.double.faces c.args.first.now c.args.second.now c.requires.signed.double
    c.requires.walks

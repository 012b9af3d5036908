use Rattle.free_forms.proofs.SearchLemmas.{started_stay}
use Rattle.free_forms.proofs.ReachLemmas.{parents_found}
use Rattle.free_forms.proofs.Common.{length}
use Rattle.free_forms.proofs.search.parent_places.Goals as goal

pub returns : goal.returns
returns c =
    parents_found c.len-count.ensures.valid c.requires.table c.requires.surface c.in_ok-spread.ensures.search
    (started_stay c.args.sides.now (length c.args.sides.now) c.in_ok-spread.ensures.grows c.in_ok-start.ensures.started)
    c.in_ok-spread.ensures.closed

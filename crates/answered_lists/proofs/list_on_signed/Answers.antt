use Rattle.answered_lists.proofs.ListLemmas.{denied}
use Rattle.answered_lists.proofs.list_on_signed.Goals as goal

pub returns : goal.returns
returns c =
    denied c.args.mesh.faces c.args.first.now c.args.second.now c.in-Denial.field-0 c.requires.signed.valid c.requires.walks.first_walk
    (rw c.in-Denial.is at c.in_ok-list.ensures)

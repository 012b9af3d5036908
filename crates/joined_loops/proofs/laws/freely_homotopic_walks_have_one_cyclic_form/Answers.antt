use Rattle.joined_loops.proofs.FreeWalks.{one_cyclic_form}
use Rattle.joined_loops.proofs.laws.freely_homotopic_walks_have_one_cyclic_form.Goals as goal

pub returns : goal.returns
returns c = one_cyclic_form

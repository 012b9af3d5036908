use Rattle.free_loops.proofs.LawLemmas.{forms}
use Rattle.free_loops.proofs.laws.freely_homotopic_where_the_forms_are_rotations.Goals as goal

pub returns : goal.returns
returns c = forms

use Rattle.common_ends.proofs.TrimLemmas.{parted, homotopic_between, homotopic_around}
use Rattle.common_ends.proofs.laws.homotopic_where_the_parts_between_are.Goals as goal

pub returns : goal.returns
returns c = λ mesh first second common w z h.
    let p = parted mesh first second common w z h in
    (homotopic_between mesh first second common w p, homotopic_around mesh first second common p)

use Rattle.homology.proofs.Common.{HasFace, arith, get_or_from_slice_get}
use Rattle.homology.proofs.NumbersLemmas.{all_more}
use Rattle.homology.proofs.numbers.first_missing.Goals as goal

pub returns-then-line-len-clause-some : goal.returns-then-line-len-clause-some
returns-then-line-len-clause-some c = grind (arith, get_or_from_slice_get)

pub loop-k-preserved : goal.loop-k-preserved
loop-k-preserved c =
    all_more (HasFace c.args.faces.now) c.args.numbers.now c.loop-k.k c.at-line.result c.loop-k.invariant c.at-line.ensures (omega arith)

pub returns-clause-none : goal.returns-clause-none
returns-clause-none c = λ j d l. c.loop-k.invariant j d (omega (arith, l))

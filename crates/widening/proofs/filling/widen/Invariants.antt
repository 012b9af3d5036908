use Rattle.widening.proofs.Common.{component_at}
use Rattle.widening.proofs.WideningLemmas.{IsWidenedUpTo}
use Rattle.widening.proofs.filling.widen.Given as goal

abbrev pub invariant-loop-face : goal.invariant-loop-face
invariant-loop-face l = IsWidenedUpTo l.faces l.signs (component_at l.parts l.part) l.good l.face l.next l.wide

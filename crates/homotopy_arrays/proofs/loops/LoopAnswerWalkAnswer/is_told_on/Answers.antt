use Rattle.homotopy_arrays.proofs.loops.LoopAnswerWalkAnswer.is_told_on.Goals as goal

pub returns : goal.returns
returns c = (
  (λ is. record { compact = c.sides.ensures.compact; orientable = c.is_orientable.ensures.0 is }),
  (λ is. c.is_orientable.ensures.1 is.orientable),
)

use Rattle.homotopy_c.proofs.Common.{IsOrientableCompactSurface, IsAskedFault, IsLoopAnswer, DoesAnswerLoops, loop_byte}
use Rattle.homotopy_arrays.specs.declared.loops.LoopAnswer.TheVariants.{Freely}
use Rattle.homotopy_c.proofs.TellingLemmas.{answers_mean, held_else_same, loop_means, told_not_orientable}
use Rattle.homotopy_c.proofs.laws.loops_tell_what_is_freely_homotopic.Goals as goal

pub returns-clause-answers : goal.returns-clause-answers
returns-clause-answers c =
    answers_mean IsOrientableCompactSurface (IsAskedFault IsOrientableCompactSurface) IsLoopAnswer loop_byte DoesAnswerLoops loop_means
    Freely

pub returns-clause-refused : goal.returns-clause-refused
returns-clause-refused c = λ mesh sizes vertices old answers outcome compact h e is.
    told_not_orientable IsOrientableCompactSurface IsLoopAnswer loop_byte mesh sizes vertices old answers outcome h e
    (record { compact = compact; orientable = is })

pub returns-clause-else_nothing : goal.returns-clause-else_nothing
returns-clause-else_nothing c = held_else_same IsOrientableCompactSurface IsLoopAnswer loop_byte

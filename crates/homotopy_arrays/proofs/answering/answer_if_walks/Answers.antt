use Rattle.homotopy_arrays.proofs.Common.{sym, ◌∙◌}
use Rattle.homotopy_arrays.proofs.PairLemmas.{length_bad, length_good, told_of_vertices}
use Rattle.homotopy_arrays.proofs.answering.answer_if_walks.Goals as goal

pub returns-in-Some-clause-answer : goal.returns-in-Some-clause-answer
returns-in-Some-clause-answer c = λ are.
    length_bad 1 c.args.first.now c.in-Some._fault (sym c.length_fault.ensures ∙ c.in-Some.is) are.first_walk.starts are.few.0

pub returns-in-Some-length_fault-clause-answer : goal.returns-in-Some-length_fault-clause-answer
returns-in-Some-length_fault-clause-answer c = λ are.
    length_bad 2 c.args.second.now c.in-Some-length_fault._fault (sym c.length_fault-2.ensures ∙ c.in-Some-length_fault.is)
    are.second_walk.starts are.few.1

pub returns-clause-answer : goal.returns-clause-answer
returns-clause-answer c =
    told_of_vertices c.args.surface.now c.args.first.now c.args.second.now c.in_ok-one.one c.in_ok-other.other
    c.in_ok-found.found c.in_ok-one.ensures c.in_ok-other.ensures (
      (length_good 1 c.args.first.now (sym c.length_fault.ensures ∙ c.in_default.is)).1,
      (length_good 2 c.args.second.now (sym c.length_fault-2.ensures ∙ c.in_default-length_fault.is)).1,
    ) c.in_ok-found.ensures.answer

use Rattle.component_deciding.proofs.Common.{subst, sym, both_ways, FaceList, IsWalk}
use Rattle.component_deciding.specs.WordFinders.{mesh_of_finder}
use Rattle.component_deciding.proofs.word_finder.WordFinder.answer_if_pair.Goals as goal

pub returns-then-not-have_common_ends-clause-answer : goal.returns-then-not-have_common_ends-clause-answer
returns-then-not-have_common_ends-clause-answer c =
    λ are. both_ways c.have_common_ends.result c.if-not-have_common_ends.true (c.have_common_ends.ensures.1 are.ends)

pub returns-in_default-clause-answer : goal.returns-in_default-clause-answer
returns-in_default-clause-answer c = λ are. (rw c.in_default.is at c.in_ok-one.ensures.word) are.first_walk

pub returns-in_default-2-clause-answer : goal.returns-in_default-2-clause-answer
returns-in_default-2-clause-answer c =
    let none : IsWalk (mesh_of_finder c.word_if_walk.new.self) c.args.second.now → ⊥ =
    rw c.in_default-2.is at c.in_ok-other.ensures.word in
    λ are. none (subst (λ (m : FaceList). IsWalk m c.args.second.now) (sym c.in_ok-one.ensures.same) are.second_walk)

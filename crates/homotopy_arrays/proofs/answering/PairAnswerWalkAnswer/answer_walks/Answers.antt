use Rattle.homotopy_arrays.proofs.Common.{AreWalks, two_walks_fault, ◌≡◌, subst, sym, Some, FaceList}
use Rattle.homotopy_arrays.proofs.answering.PairAnswerWalkAnswer.answer_walks.Goals as goal
use Rattle.homotopy_arrays.proofs.answering.PairAnswerWalkAnswer.answer_walks.Goals.{In-None}

none : (c : In-None) → AreWalks c.args.surface.now c.args.first.now c.args.second.now → ⊥
none c = rw c.in-None.is at c.in_ok-answer_if_walks.ensures.answer

pub fault_of-requires : goal.fault_of-requires
fault_of-requires c =
    subst (λ (m : FaceList). AreWalks m c.args.first.now c.args.second.now → ⊥) (sym c.in_ok-answer_if_walks.ensures.same)
    (none (goal.at.fault_of-requires c).In-None)

pub returns-in_ok-fault_of-in-None-clause-answer : goal.returns-in_ok-fault_of-in-None-clause-answer
returns-in_ok-fault_of-in-None-clause-answer c = (
  subst (λ (m : FaceList). two_walks_fault m c.args.first.now c.args.second.now ≡ Some c.in_ok-fault_of-in-None.field-0)
      c.in_ok-answer_if_walks.ensures.same c.in_ok-fault_of-in-None.ensures,
  none (goal.at.returns-in_ok-fault_of-in-None-clause-answer c).In-None,
)

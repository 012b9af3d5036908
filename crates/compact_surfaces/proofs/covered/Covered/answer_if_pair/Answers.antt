use Rattle.compact_surfaces.proofs.FoundLemmas.{IsLift, lifts_part, lifts_tell}
use Rattle.compact_surfaces.proofs.covered.Covered.answer_if_pair.Goals as goal
use Rattle.compact_surfaces.proofs.covered.Covered.answer_if_pair.Goals.{In_ok-other}
use Rattle.compact_surfaces.proofs.Common.{mesh_of_finder, subst, Some, FaceList, Different, IsFoundOn}

lifted : (c : In_ok-other)
    → IsLift c.self.inside.faces (mesh_of_finder c.self.inside.finder) c.self.inside.ways c.args.first.now c.args.second.now
    c.in_ok-one.one c.in_ok-other.other
lifted c = record {
  valid = c.len.ensures.valid;
  ways = c.self.invariant.ways;
  pair = c.are_pair.ensures.0 c.if-not-are_pair.false;
  is_cover = c.self.invariant.is_cover;
  is_one = c.in_ok-one.ensures;
  is_two = c.in_ok-other.ensures;
}

pub returns-in-Some-clause-answer : goal.returns-in-Some-clause-answer
returns-in-Some-clause-answer c =
    subst (λ (m : FaceList). IsFoundOn m c.args.first.now c.args.second.now (Some c.in-Some.answer)) c.self.view_is
    (lifts_tell c.self.inside.faces (mesh_of_finder c.self.inside.finder) c.self.inside.ways c.args.first.now c.args.second.now
    c.in_ok-one.one c.in_ok-other.other (lifted (goal.at.returns-in-Some-clause-answer c).In_ok-other) c.in-Some.answer
    (rw c.in-Some.is at c.in_ok-answer.ensures.answer))

pub returns-clause-answer : goal.returns-clause-answer
returns-clause-answer c =
    subst (λ (m : FaceList). IsFoundOn m c.args.first.now c.args.second.now (Some Different)) c.self.view_is
    (lifts_part c.self.inside.faces (mesh_of_finder c.self.inside.finder) c.self.inside.ways c.args.first.now c.args.second.now
    c.in_ok-one.one c.in_ok-other.other (lifted (goal.at.returns-clause-answer c).In_ok-other)
    (rw c.in-None.is at c.in_ok-answer.ensures.answer))

use Rattle.component_deciding.proofs.Common.{IsApart, ◌≡◌, ◌<◌, ℕ, true, length, get_or, sym, ap, ◌∙◌, subst, arith, both_ways, IfOk-weaker, FaceList, is_used, AreWalkPair, IsFoundOn}
use Rattle.component_deciding.proofs.OwnSurfaces.{found_on}
use Rattle.component_deciding.proofs.several.Several.answer_if_pair.Goals as goal

pub returns-in_default-clause-answer : goal.returns-in_default-clause-answer
returns-in_default-clause-answer c =
    subst (λ (mesh : FaceList). AreWalkPair mesh c.args.first.now c.args.second.now → ⊥) c.self.view_is
    (λ walks. both_ways (is_used c.self.inside.apart.mesh.faces c.at.result.0) c.in_default.ensures
    (subst (λ (v : ℕ). is_used c.self.inside.apart.mesh.faces v ≡ true) (sym c.at.ensures)
    (walks.first_walk.used 0 0 walks.first_walk.starts)))

pub returns-in_default-2-clause-answer : goal.returns-in_default-2-clause-answer
returns-in_default-2-clause-answer c =
    let places = c.self.inside.apart.parts.places in
    let none = rw c.in_default-2.is at c.in_ok-one.ensures in
    subst (λ (mesh : FaceList). AreWalkPair mesh c.args.first.now c.args.second.now → ⊥) c.self.view_is
    (λ walks. none walks.first_walk (ap (λ (v : ℕ). get_or places v 0) (sym c.at.ensures) ∙ c.in-Some.ensures.1))

pub returns-in_default-3-clause-answer : goal.returns-in_default-3-clause-answer
returns-in_default-3-clause-answer c =
    let places = c.self.inside.apart.parts.places in
    let none = rw c.in_default-3.is at c.in_ok-other.ensures in
    subst (λ (mesh : FaceList). AreWalkPair mesh c.args.first.now c.args.second.now → ⊥) c.self.view_is
    (λ walks. none walks.second_walk
    (ap (λ (v : ℕ). get_or places v 0) (sym walks.ends.starts ∙ sym c.at.ensures) ∙ c.in-Some.ensures.1))

pub take_labelled-requires-clause-place : goal.take_labelled-requires-clause-place
take_labelled-requires-clause-place c =
    let is : IsApart c.self.inside.apart = c.self.invariant.0 in
    omega (arith, c.in-Some.ensures.1, is.parts.places.below c.at.result.0 c.in-Some.ensures.0)

pub returns-clause-answer : goal.returns-clause-answer
returns-clause-answer c =
    let apart = c.self.inside.apart in
    let first = c.args.first.now in
    let second = c.args.second.now in
    let place : ℕ = c.in-Some.place in
    let is : IsApart apart = c.self.invariant.0 in
    let within : place < length apart.parts.components =
    omega (arith, c.in-Some.ensures.1, is.parts.places.below c.at.result.0 c.in-Some.ensures.0) in
    let at : get_or apart.parts.places (get_or first 0 0) 0 ≡ place =
    ap (λ (v : ℕ). get_or apart.parts.places v 0) (sym c.at.ensures) ∙ c.in-Some.ensures.1 in
    let here = rw c.in-Some-2.is at c.in_ok-one.ensures in
    let there = rw c.in-Some-3.is at c.in_ok-other.ensures in
    IfOk-weaker c.answer_if_pair-found.result _ _
    (λ found told. subst (λ (mesh : FaceList). IsFoundOn mesh first second found) c.self.view_is
    (found_on apart place first second c.in-Some-2.one c.in-Some-3.other c.in_ok-decider.decider found is within at here there
    c.in_ok-decider.ensures.decider told)) c.answer_if_pair-found.ensures.answer

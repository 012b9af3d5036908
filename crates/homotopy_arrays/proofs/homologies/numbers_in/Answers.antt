use Rattle.homotopy_arrays.proofs.Common.{walk_there, DoShow, refl, subst, sym, IfOk, FaceList}
use Rattle.homology.specs.Verdicts.{IsVerdict}
use Rattle.homology.specs.declared.verdict.HomologyVerdict.TheVariants.{Accepted}
use Rattle.homotopy_arrays.proofs.HomologyLemmas.{shown}
use Rattle.homotopy_arrays.proofs.homologies.numbers_in.Goals as goal

pub certificate_on-requires-clause-component : goal.certificate_on-requires-clause-component
certificate_on-requires-clause-component c = let on = c.requires.walks in (on.0, _, on.1)

pub certificate_on-requires-clause-first : goal.certificate_on-requires-clause-first
certificate_on-requires-clause-first c =
    let on = c.requires.walks in walk_there on.0 _ c.args.component.now c.args.first.now on.1 on.2.first_walk refl

pub certificate_on-requires-clause-second : goal.certificate_on-requires-clause-second
certificate_on-requires-clause-second c =
    let on = c.requires.walks in
    walk_there on.0 _ c.args.component.now c.args.second.now on.1 on.2.second_walk (sym on.2.ends.starts)

pub certificate_on-requires-clause-ends : goal.certificate_on-requires-clause-ends
certificate_on-requires-clause-ends c = let on = c.requires.walks in on.2.ends

pub certificate_on-requires-clause-few : goal.certificate_on-requires-clause-few
certificate_on-requires-clause-few c = c.requires.few

pub whole_of-whole-requires : goal.whole_of-whole-requires
whole_of-whole-requires c = let on = c.requires.walks in (on.0, _, on.1)

pub numbers_of-numbers-requires-clause-table : goal.numbers_of-numbers-requires-clause-table
numbers_of-numbers-requires-clause-table c = c.whole_of-whole.ensures.table

pub numbers_of-numbers-requires-clause-holds : goal.numbers_of-numbers-requires-clause-holds
numbers_of-numbers-requires-clause-holds c =
    let first = c.args.first.now in
    let second = c.args.second.now in
    let on = c.requires.walks in (
      first,
      second,
      subst (λ (m : FaceList). IsVerdict m first second c.in_ok-shown.shown Accepted) (sym (c.whole_of-whole.ensures.faces on.0 _ on.1))
          (c.in_ok-shown.ensures on.0 on.1 on.2.first_walk on.2.second_walk).holds,
    )

pub returns : goal.returns
returns c = λ mesh component are.
    let first = c.args.first.now in
    let second = c.args.second.now in
    let same = c.whole_of-whole.ensures.faces mesh _ component in
    let holds = (c.in_ok-shown.ensures mesh component are.first_walk are.second_walk).holds in
    shown mesh first second c.numbers_of-numbers.result are c.requires.few
    (subst (λ (m : FaceList). IfOk c.numbers_of-numbers.result (DoShow m first second)) same
    (c.numbers_of-numbers.ensures.show first second
    (subst (λ (m : FaceList). IsVerdict m first second c.in_ok-shown.shown Accepted) (sym same) holds)))
    c.numbers_of-numbers.ensures.small

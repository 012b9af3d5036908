use Rattle.homology.proofs.Common.{number_at, IsLeft, arith, ℕ}
use Rattle.homology.proofs.ChainVerdictLemmas.{chain_holds, chain_fails}
use Rattle.homology.proofs.chain_check.judge_faces.Goals as goal
use Rattle.homology.proofs.chain_check.judge_faces.Goals.{After-deref}

left : (c : After-deref) → IsLeft c.args.walks.faces.now c.args.walks.sides.now (number_at c.args.of_face.now) c.args.walks.first.now
    c.args.walks.second.now c.deref.result.now
left c = grind (arith, number_at)

pub first_nonzero-requires : goal.first_nonzero-requires
first_nonzero-requires c = (left (goal.at.first_nonzero-requires c).After-deref).long

pub returns-in-Some : goal.returns-in-Some
returns-in-Some c = λ number same.
    let walks = c.args.walks in
    let e : ℕ = c.in-Some.edge.0 in
    let least = chain_fails walks.faces.now walks.sides.now (number_at c.args.of_face.now) number walks.first.now walks.second.now
    c.deref.result.now c.requires.table same (left (goal.at.returns-in-Some c).After-deref) e c.in-Some.ensures.found
    c.in-Some.ensures.nonzero c.in-Some.ensures.before in grind arith

pub returns : goal.returns
returns c = λ number same.
    let walks = c.args.walks in
    chain_holds walks.faces.now walks.sides.now (number_at c.args.of_face.now) number walks.first.now walks.second.now c.deref.result.now
    c.requires.table same (left (goal.at.returns c).After-deref) c.in_default.ensures.none

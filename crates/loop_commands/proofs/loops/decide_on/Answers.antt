use Rattle.loop_commands.proofs.Common.{IsClosedWalk, sym, subst, err_from_is_err_and, FaceList}
use Rattle.loop_commands.proofs.loops.decide_on.Goals as goal

pub decide_free-answer-requires-clause-first : goal.decide_free-answer-requires-clause-first
decide_free-answer-requires-clause-first c =
    subst (λ (m : FaceList). IsClosedWalk m c.args.first.now) (sym c.in_ok-finder.ensures) c.requires.first

pub decide_free-answer-requires-clause-second : goal.decide_free-answer-requires-clause-second
decide_free-answer-requires-clause-second c =
    subst (λ (m : FaceList). IsClosedWalk m c.args.second.now) (sym c.in_ok-finder.ensures) c.requires.second

pub returns-in_err-finder : goal.returns-in_err-finder
returns-in_err-finder c =
    let p = err_from_is_err_and c.from_residual.result c.from_residual.ensures.1 in rw p.1 tt

pub returns : goal.returns
returns c = rw c.in_ok-finder.ensures at c.decide_free-answer.ensures.answer

use Rattle.turn_words.proofs.Common.{arith, sym, subst, common_steps, TopDiffers, written}
use Rattle.turn_words.proofs.RunLists.{filled-front, apart-front, top-differs, written-push}
use Rattle.turn_words.proofs.run_stack.RunStack.take_run.Goals as goal

pub returns-then-top-value-clause-differs : goal.returns-then-top-value-clause-differs
returns-then-top-value-clause-differs g c =
    let top = c.in-Some.ensures.top in
    subst (TopDiffers c.args.value) (sym top.1) (top-differs c.args.value top.0 (c.in-Some.top, c.in-Some.field-0-1) c.if-top-value.true)

pub returns-in-Some-pop : goal.returns-in-Some-pop
returns-in-Some-pop g c = grind (arith, common_steps, apart-front, written, written-push, filled-front)

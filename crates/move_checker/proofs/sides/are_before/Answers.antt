use Rattle.move_checker.proofs.Common.{rest_left, first_left, ◌-◌, refl, sym, ◌∙◌, arith}
use Rattle.move_checker.proofs.SameWalks.{same_vertex, other_vertex}
use Rattle.move_checker.proofs.SideLemmas.{AreRead-more, AreRead-next, before_same, before_other}
use Rattle.move_checker.proofs.sides.are_before.Goals as goal

pub loop-k-preserved : goal.loop-k-preserved
loop-k-preserved c =
    AreRead-more c.args.entries c.loop-k.entries c.next.new.self c.args.walk.now
    (λ j. c.args.place - 1 - j) c.loop-k.k c.unwrap-value.result
    c.loop-k.invariant (rest_left c.next.result c.loop-k.entries c.next.new.self c.next.ensures.steps)
    (first_left c.next.result c.unwrap-value.result c.loop-k.entries c.next.new.self c.next.ensures.steps c.unwrap-value.ensures)
    (same_vertex _ _ (sym c.if-ne.ensures) ∙ c.at.ensures)

pub returns-then-ne : goal.returns-then-ne
returns-then-ne c = (
  λ t. absurd (cc),
  λ same. absurd (before_other c.args.entries c.args.walk.now c.args.place c.loop-k.k c.requires.len (omega (arith, c.len-k-end.ensures))
      (λ e. other_vertex _ _ (sym c.if-ne.ensures)
      (sym (AreRead-next c.args.entries c.loop-k.entries c.args.walk.now (λ j. c.args.place - 1 - j) c.loop-k.k c.unwrap-value.result
      c.loop-k.invariant
      (first_left c.next.result c.unwrap-value.result c.loop-k.entries c.next.new.self c.next.ensures.steps c.unwrap-value.ensures))
      ∙ e ∙ sym c.at.ensures)) same),
)

pub returns : goal.returns
returns c = (
  λ t. before_same c.args.entries c.loop-k.entries c.args.walk.now c.args.place c.loop-k.k c.requires.len c.requires.within
      c.loop-k.invariant (omega (arith, c.len-k-end.ensures)),
  λ e. refl,
)

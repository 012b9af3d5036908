use Rattle.move_lifting.proofs.Common.{spurs_of, ◌≡◌, ℕ, ◌/◌, ◌%◌, List, length, ap, ◌∙◌, arith, eq-eqb, eqb-true, nil_from_length}
use Rattle.move_lifting.proofs.ReductionLemmas.{steps_long}
use Rattle.move_lifting.proofs.reducing.Reduction.leaves_nothing.Goals as goal

pub returns-then-spokes-eq0 : goal.returns-then-spokes-eq0
returns-then-spokes-eq0 c = λ end leads.
    let long = steps_long c.args.self.now.wheel c.args.self.now.steps.items c.args.self.now.spokes.items end leads in
    let spurs : c.spurs_in.result ≡ spurs_of c.args.self.now.steps.items = c.spurs_in.ensures ∙ ap spurs_of c.deref.ensures.value in (
      (λ half.
          let same : c.spurs_in.result ≡ c.len-spokes.result / 2 = eqb-true c.spurs_in.result (c.len-spokes.result / 2) half in
          nil_from_length end (omega (arith, long, spurs, same, c.len-spokes.ensures, c.if-spokes-eq0.true))),
      (λ none.
          eq-eqb c.spurs_in.result (c.len-spokes.result / 2)
          (omega (arith, long, spurs, ap (λ (l : List ℕ). length l) none, c.len-spokes.ensures))),
    )

pub returns-else-spokes-eq0 : goal.returns-else-spokes-eq0
returns-else-spokes-eq0 c = λ end leads.
    let long = steps_long c.args.self.now.wheel c.args.self.now.steps.items c.args.self.now.spokes.items end leads in (
      (λ even. absurd (c.if-spokes-eq0.false (eqb-true (c.len-spokes.result % 2) 0 even))),
      (λ none. eq-eqb (c.len-spokes.result % 2) 0 (omega (arith, long, ap (λ (l : List ℕ). length l) none, c.len-spokes.ensures))),
    )

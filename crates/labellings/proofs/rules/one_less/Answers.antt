use Rattle.labellings.proofs.Common.{◌≡◌, ℕ, ◌-◌, ◌<◌, arith, nat_tests, add, minus}
use Rattle.labellings.proofs.rules.one_less.Goals as goal

wraps : (d n : ℕ) → n < d → n ≡ 0 → d - 1 ≡ add d n (minus d 1)
unfolding add minus
wraps d n below e = grind (arith, nat_tests)

falls : (d n : ℕ) → n < d → 0 < n → n - 1 ≡ add d n (minus d 1)
unfolding add minus
falls d n below e = grind (arith, nat_tests)

pub returns-then-number-eq0 : goal.returns-then-number-eq0
returns-then-number-eq0 c = wraps c.args.degree c.args.number c.requires c.if-number-eq0.true

pub returns-else-number-eq0 : goal.returns-else-number-eq0
returns-else-number-eq0 c = falls c.args.degree c.args.number c.requires (omega (arith, c.if-number-eq0.false))

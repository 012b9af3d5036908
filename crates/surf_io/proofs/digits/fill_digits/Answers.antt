use Rattle.surf_io.proofs.Common.{arith, ◌≤◌, ◌∙◌, length-set}
use Rattle.surf_io.proofs.Decimal.{room, more, last}
use Rattle.surf_io.proofs.digits.fill_digits.Goals as goal

pub overflow_sub-start : goal.overflow_sub-start
overflow_sub-start c =
    room c.loop-rest.text _ _ _ (omega arith) (omega arith) c.loop-rest.invariant.0 c.loop-rest.invariant.1 c.loop-rest.invariant.2

pub loop-rest-preserved : goal.loop-rest-preserved
loop-rest-preserved c =
    let some : 1 ≤ c.loop-rest.start = room c.loop-rest.text _ _ _ (omega arith) (omega arith) c.loop-rest.invariant.0
    c.loop-rest.invariant.1 c.loop-rest.invariant.2 in (
      length-set _ _ _ ∙ c.loop-rest.invariant.0,
      omega (arith, c.loop-rest.invariant.1),
      more c.loop-rest.text _ _ _ (omega arith) c.loop-rest.invariant.0 c.loop-rest.invariant.1 some c.loop-rest-test.true
          c.loop-rest.invariant.2,
    )

pub overflow_sub-start-2 : goal.overflow_sub-start-2
overflow_sub-start-2 c =
    room c.loop-rest.text _ _ _ (omega arith) (omega arith) c.loop-rest.invariant.0 c.loop-rest.invariant.1 c.loop-rest.invariant.2

pub returns-clause-digits : goal.returns-clause-digits
returns-clause-digits c =
    let some : 1 ≤ c.loop-rest.start = room c.loop-rest.text _ _ _ (omega arith) (omega arith) c.loop-rest.invariant.0
    c.loop-rest.invariant.1 c.loop-rest.invariant.2 in
    last c.loop-rest.text _ _ _ c.loop-rest.invariant.0 c.loop-rest.invariant.1 some (omega arith) c.loop-rest.invariant.2

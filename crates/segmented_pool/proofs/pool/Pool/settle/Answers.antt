use Rattle.segmented_pool.proofs.Common.{◌≡◌, ◌+◌, ◌-◌, arith}
use Rattle.segmented_pool.proofs.Kept.{kept_same}
use Rattle.segmented_pool.proofs.Marks.{neighbours, before_start, mark_before}
use Rattle.segmented_pool.proofs.pool.Pool.settle.Goals as goal

pub overflow_add-before : goal.overflow_add-before
overflow_add-before c = grind (arith, neighbours)

pub overflow_sub-self-then-len-eq0 : goal.overflow_sub-self-then-len-eq0
overflow_sub-self-then-len-eq0 c = grind (arith, before_start)

pub overflow_add-len : goal.overflow_add-len
overflow_add-len c = grind (arith, neighbours)

pub invariant_of-self : goal.invariant_of-self
invariant_of-self c =
    let mark = c.self.inside.mark in
    let parts = c.self.inside.segments.parts in
    let before : mark.index - 1 + 1 ≡ mark.index = omega (arith, c.if-index-gt0.true) in
    kept_same c.self.inside.segments c.join.new.self _ c.self.inside.len c.self.inside.spare
    (mark_before parts mark _ c.self.invariant.marked before
    (omega (arith, c.len-before.ensures, before_start parts mark (mark.index - 1) c.self.invariant.marked before)))
    c.self.invariant.counted c.self.invariant.fits c.join.ensures.joined c.join.ensures.before c.join.ensures.count
    (omega (arith, c.join.ensures.spare, c.self.invariant.kept_back))

use Rattle.chain_pool.proofs.Common.{◌<◌, arith}
use Rattle.chain_pool.proofs.Going.{IsGoing-start, going_on, going_back, gone, right_top, left_top, both_now, few_now}
use Rattle.chain_pool.proofs.Writes.{once_written}
use Rattle.chain_pool.proofs.cells.Cells.travel.Goals as goal
use Rattle.chain_pool.proofs.cells.Cells.travel.Goals.{At-on}

pub on-init : goal.on-init
on-init c =
    IsGoing-start c.args.self.now c.self.inside.slots.slots c.self.inside.slots.capacity c.self.inside.free c.self.inside.spare
    c.args.chain.0
    c.head.result.0 c.head.result.1 c.self.invariant c.self.view_is c.head.ensures c.requires.live

-- while the place is too low, an entry is behind it
behind : (c : At-on) → c.on.left.len < c.args.place → 0 < c.on.right.len
behind c low =
    omega (
      arith,
      low,
      c.requires.place,
      both_now c.args.self.now c.on.self-inside.slots.slots
          c.on.self-inside.slots.capacity c.on.self-inside.free c.on.self-inside.spare
          c.args.chain.0 c.on.left c.on.right c.on.invariant,
    )

pub relink-next-requires : goal.relink-next-requires
relink-next-requires c =
    right_top c.args.self.now c.on.self-inside.slots.slots c.on.self-inside.slots.capacity c.on.self-inside.free c.on.self-inside.spare
    c.args.chain.0 c.on.left c.on.right c.on.invariant
    (behind (goal.at.relink-next-requires c).At-on c.on-test.true)

pub with_top-left-requires : goal.with_top-left-requires
with_top-left-requires c = grind arith

pub without_top-right-requires : goal.without_top-right-requires
without_top-right-requires c = omega (arith, behind (goal.at.without_top-right-requires c).At-on c.on-test.true)

pub on-preserved : goal.on-preserved
on-preserved c =
    let written = once_written c.on.self-inside.slots c.relink-next.new.slots _ _ c.relink-next.ensures.2 in
    rw (written.slots, written.capacity, c.with_top-left.ensures, c.without_top-right.ensures)
    (going_on c.args.self.now c.on.self-inside.slots.slots c.on.self-inside.slots.capacity c.on.self-inside.free c.on.self-inside.spare
    c.args.chain.0 c.on.left c.on.right c.on.invariant
    c.relink-next.result c.relink-next.ensures.0 c.relink-next.ensures.1
    (behind (goal.at.on-preserved c).At-on c.on-test.true))

pub relink-next-requires-in-back : goal.relink-next-requires-in-back
relink-next-requires-in-back c =
    left_top c.args.self.now c.back.self-inside.slots.slots c.back.self-inside.slots.capacity c.back.self-inside.free
    c.back.self-inside.spare
    c.args.chain.0 c.back.left c.back.right c.back.invariant.0
    (omega (arith, c.back-test.true))

pub with_top-right-requires : goal.with_top-right-requires
with_top-right-requires c = omega (
  arith,
  few_now c.args.self.now c.back.self-inside.slots.slots c.back.self-inside.slots.capacity c.back.self-inside.free
      c.back.self-inside.spare
      c.args.chain.0 c.back.left c.back.right c.back.invariant.0,
)

pub back-preserved : goal.back-preserved
back-preserved c =
    let written = once_written c.back.self-inside.slots c.relink-next-in-back.new.slots _ _ c.relink-next-in-back.ensures.2 in (
      rw (written.slots, written.capacity, c.with_top-right.ensures, c.without_top-left.ensures)
          (going_back c.args.self.now c.back.self-inside.slots.slots c.back.self-inside.slots.capacity c.back.self-inside.free
          c.back.self-inside.spare
          c.args.chain.0 c.back.left c.back.right c.back.invariant.0
          c.relink-next-in-back.result c.relink-next-in-back.ensures.0 c.relink-next-in-back.ensures.1
          (omega (arith, c.back-test.true))),
      rw c.without_top-left.ensures (omega (arith, c.back-test.true)),
    )

pub invariant_of-self : goal.invariant_of-self
invariant_of-self c = grind (arith, once_written)

pub returns-clause-chain : goal.returns-clause-chain
returns-clause-chain c =
    let written = once_written c.back.self-inside.slots c.write.new.slots _ _ c.write.ensures in
    rw written.slots (gone c.args.self.now c.back.self-inside.slots.slots c.back.self-inside.slots.capacity c.back.self-inside.free
    c.back.self-inside.spare
    c.args.chain.0 c.back.left c.back.right c.back.invariant.0
    c.args.place (omega (arith, c.back.invariant.1, c.back-test.false)))

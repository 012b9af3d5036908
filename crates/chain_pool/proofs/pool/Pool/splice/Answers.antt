use Rattle.chain_pool.proofs.Common.{Chains, list_under, Parted, ◌≤◌, length, is_some, Option, ap, arith, common_steps}
use Rattle.chain_pool.proofs.Splices.{IsSplicedTo-none, IsSplicedTo-more, IsSplicedTo-left, IsSplicedTo-total, IsSplicedTo-empty, IsSplicedTo-done, IsSplicedTo-others}
use Rattle.chain_pool.proofs.pool.Pool.splice.Goals as goal
use Rattle.chain_pool.proofs.pool.Pool.splice.Goals.{After-loop-i}

pub loop-i-init : goal.loop-i-init
loop-i-init c =
    let start = IsSplicedTo-none c.args.self.now c.self.inside.cells c.go_to.new.self c.go_to-2.new.self c.args.chain.0 c.args.place
    c.args.other.0 c.requires.differ (ap (λ (v : Chains). v.lists) c.self.view_is) (ap (λ (v : Chains). v.spare) c.self.view_is)
    c.go_to.ensures.chain c.go_to-2.ensures.chain c.go_to.ensures.spare c.go_to-2.ensures.spare in grind (arith, IsSplicedTo-total)

pub next-moved-requires-clause-live : goal.next-moved-requires-clause-live
next-moved-requires-clause-live c = ap (λ (o : Option Parted). is_some o) c.loop-i.invariant.0.there

pub next-moved-requires-clause-behind : goal.next-moved-requires-clause-behind
next-moved-requires-clause-behind c = grind (arith, common_steps, IsSplicedTo-left)

pub push-requires-clause-live : goal.push-requires-clause-live
push-requires-clause-live c = grind (arith, is_some)

pub loop-i-preserved : goal.loop-i-preserved
loop-i-preserved c = (
  IsSplicedTo-more c.args.self.now c.loop-i.self-inside.cells c.cut.new.self c.push.new.self c.args.chain.0 c.args.place c.args.other.0
      c.loop-i._i c.next-moved.result c.requires.differ c.loop-i.invariant.0 (omega (arith, c.loop-i.invariant.1, c.loop-i-test.true))
      c.next-moved.ensures c.cut.ensures.chain c.push.ensures.chain
      (omega (arith, c.cut.ensures.spare, c.push.ensures.spare)),
  c.loop-i.invariant.1,
)

all : (c : After-loop-i) → c.len-len.result ≤ c.loop-i._i → length (list_under c.args.self.now.lists c.args.other.0) ≤ c.loop-i._i
all c le = omega (arith, le, c.loop-i.invariant.1)

pub drop_head-requires-clause-live : goal.drop_head-requires-clause-live
drop_head-requires-clause-live c = ap (λ (o : Option Parted). is_some o) c.loop-i.invariant.0.there

pub drop_head-requires-clause-empty : goal.drop_head-requires-clause-empty
drop_head-requires-clause-empty c = grind (arith, IsSplicedTo-empty, all)

pub returns-clause-list : goal.returns-clause-list
returns-clause-list c = grind (arith, IsSplicedTo-done, all)

pub returns-clause-others : goal.returns-clause-others
returns-clause-others c = grind (arith, IsSplicedTo-others)

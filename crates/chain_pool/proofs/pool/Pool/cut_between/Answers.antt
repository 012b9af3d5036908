use Rattle.chain_pool.proofs.Common.{Chains, Parted, ◌≡◌, ℕ, Option, is_some, ap, subst, sym, arith, common_steps}
use Rattle.chain_pool.proofs.Lists.{IsCutTo, IsCutTo-none, IsCutTo-more, IsCutTo-done, IsCutTo-behind, IsCutTo-nothing}
use Rattle.chain_pool.proofs.pool.Pool.cut_between.Goals as goal
use Rattle.chain_pool.proofs.pool.Pool.cut_between.Goals.{After-loop-i}

pub loop-i-init : goal.loop-i-init
loop-i-init c =
    IsCutTo-none c.args.self.now c.self.inside.cells c.go_to.new.self c.args.chain.0 c.args.from
    (ap (λ (v : Chains). v.lists) c.self.view_is) (ap (λ (v : Chains). v.spare) c.self.view_is)
    c.go_to.ensures.chain c.go_to.ensures.names c.go_to.ensures.spare

pub cut-requires-clause-live : goal.cut-requires-clause-live
cut-requires-clause-live c = ap (λ (o : Option Parted). is_some o) c.loop-i.invariant.here

pub cut-requires-clause-behind : goal.cut-requires-clause-behind
cut-requires-clause-behind c = grind (arith, common_steps, IsCutTo-behind)

pub loop-i-preserved : goal.loop-i-preserved
loop-i-preserved c =
    IsCutTo-more c.args.self.now c.loop-i.self-inside.cells c.cut.new.self c.args.chain.0 c.args.from c.loop-i._i c.loop-i.invariant
    c.cut.ensures.chain c.cut.ensures.names c.cut.ensures.spare

all_cut : (c : After-loop-i) → c.args.to ≡ c.loop-i._i
    → IsCutTo c.args.self.now c.loop-i.self-inside.cells c.args.chain.0 c.args.from c.args.to
all_cut c e = subst (λ (n : ℕ). IsCutTo c.args.self.now c.loop-i.self-inside.cells c.args.chain.0 c.args.from n) (sym e) c.loop-i.invariant

pub returns-clause-list : goal.returns-clause-list
returns-clause-list c = grind (arith, IsCutTo-done, all_cut)

pub returns-clause-nothing : goal.returns-clause-nothing
returns-clause-nothing c = grind (arith, IsCutTo-nothing, all_cut)

use Rattle.chain_pool.proofs.Common.{Chains, [], refl, ap}
use Rattle.chain_pool.proofs.Lists.{seen_edit, alike_then_edit}
use Rattle.chain_pool.proofs.pool.Pool.start_chain.Goals as goal

pub returns-clause-list : goal.returns-clause-list
returns-clause-list c =
    seen_edit c.self.inside.cells.chains c.start.new.self.chains c.args.self.now.lists c.start.result.0
    (record { before = []; behind = [] }) [] (ap (λ (v : Chains). v.lists) c.self.view_is)
    (alike_then_edit c.self.inside.cells.chains c.make_ready.new.self.chains c.start.new.self.chains c.start.result.0 _
    c.make_ready.ensures.chains c.start.ensures.chain) refl

use Rattle.chain_pool.proofs.Common.{Chains, list_under, arith, ap, sym, ◌∙◌}
use Rattle.chain_pool.proofs.Lists.{list_in, list_under-is, edit_twice}
use Rattle.chain_pool.proofs.Soundness.{IsEdit-joined}
use Rattle.chain_pool.proofs.Splices.{joined-none, cut-all}
use Rattle.chain_pool.proofs.pool.Pool.give_back.Goals as goal

pub drop_head-requires-clause-empty : goal.drop_head-requires-clause-empty
drop_head-requires-clause-empty c =
    let name = c.args.chain.0 in
    joined-none _
    (sym (list_in c.self.inside.cells.chains c.cut_between.new.self.lists name (ap (λ (v : Chains). v.lists) c.self.view_is))
    ∙ list_under-is c.cut_between.new.self.lists name _ c.cut_between.ensures.list.here
    ∙ cut-all (list_under c.args.self.now.lists name) c.len-len.result c.len-len.ensures)

pub returns-clause-gone : goal.returns-clause-gone
returns-clause-gone c = grind (arith, edit_twice, IsEdit-joined)

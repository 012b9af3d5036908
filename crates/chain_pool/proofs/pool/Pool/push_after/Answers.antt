use Rattle.chain_pool.proofs.Common.{Chains, inserted, list_under, Parted, joined, parted_under, pushed_before, ℕ, List, ap, sym, ◌∙◌}
use Rattle.chain_pool.proofs.Lists.{list_in, seen_edit, edit_then_alike, edit_twice, joined-pushed}
use Rattle.chain_pool.proofs.Soundness.{parted_under-is}
use Rattle.chain_pool.proofs.pool.Pool.push_after.Goals as goal

pub returns-clause-list : goal.returns-clause-list
returns-clause-list c =
    let name = c.args.chain.0 in
    let seen = ap (λ (v : Chains). v.lists) c.self.view_is in
    let list : List ℕ = joined (parted_under c.self.inside.cells.chains name) in
    let ready = edit_then_alike c.self.inside.cells.chains c.go_to.new.self.chains c.make_ready.new.self.chains name _
    c.go_to.ensures.chain c.make_ready.ensures.chains in
    let whole = edit_twice c.self.inside.cells.chains c.make_ready.new.self.chains c.push.new.self.chains name _ _ ready
    c.push.ensures.chain in
    seen_edit c.self.inside.cells.chains c.push.new.self.chains c.args.self.now.lists name
    (pushed_before (parted_under c.make_ready.new.self.chains name) c.args.value)
    (inserted (list_under c.args.self.now.lists name) c.args.place c.args.value) seen whole
    (ap (λ (p : Parted). joined (pushed_before p c.args.value)) (parted_under-is c.make_ready.new.self.chains name _ ready.here)
    ∙ joined-pushed list c.args.place c.args.value
    ∙ ap (λ (l : List ℕ). inserted l c.args.place c.args.value)
    (sym (list_in c.self.inside.cells.chains c.args.self.now.lists name seen)))

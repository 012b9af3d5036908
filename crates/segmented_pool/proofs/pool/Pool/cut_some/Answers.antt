use Rattle.segmented_pool.proofs.Common.{Chains, cut, part, ◌≡◌, ◌+◌, ◌-◌, List, ℕ, set, refl, ap, sym, ◌∙◌, arith, concat}
use Rattle.segmented_pool.proofs.Kept.{kept_cut, list_cut}
use Rattle.segmented_pool.proofs.Only.{only_list, only_edit}
use Rattle.segmented_pool.proofs.pool.Pool.cut_some.Goals as goal

pub invariant_of-self : goal.invariant_of-self
invariant_of-self c =
    let mark = c.find-mark.result in
    let gone = c.min-gone.result in
    let from = c.args.from in
    let here = c.find-mark.ensures.here in
    let until : from - mark.start + gone ≡ from + gone - mark.start = omega (arith, here.from) in
    kept_cut c.self.inside.segments c.cut_between.new.self c.self.inside.mark mark c.self.inside.len c.self.inside.spare
    c.self.invariant c.find-mark.ensures.mark from (from + gone) gone here.from refl
    (omega (arith, here.from, here.to, c.min-gone.ensures, c.len.ensures))
    (c.cut_between.ensures.parts
    ∙ ap (λ (k : ℕ). set c.self.inside.segments.parts mark.index (cut (part c.self.inside.segments.parts mark.index)
    (from - mark.start) k)) until)
    (omega (arith, c.cut_between.ensures.spare))

pub returns-clause-list : goal.returns-clause-list
returns-clause-list c =
    let mark = c.find-mark.result in
    let gone = c.min-gone.result in
    let from = c.args.from in
    let here = c.find-mark.ensures.here in
    let until : from - mark.start + gone ≡ from + gone - mark.start = omega (arith, here.from) in
    let view = ap (λ (v : Chains). v.lists) c.self.view_is in
    let list = only_list c.args.self.now.lists (concat c.self.inside.segments.parts) c.args.chain.0 view c.requires.live in
    only_edit c.args.self.now.lists c.settle.new.self.lists (concat c.self.inside.segments.parts) (concat c.cut_between.new.self.parts) _
    c.args.chain.0 view c.requires.live (sym (ap (λ (v : Chains). v.lists) c.settle.ensures))
    (list_cut c.self.inside.segments c.cut_between.new.self c.self.inside.mark mark c.self.inside.len c.self.inside.spare
    c.self.invariant c.find-mark.ensures.mark from (from + gone) here.from (omega arith)
    (omega (arith, here.from, here.to, c.min-gone.ensures, c.len.ensures))
    (c.cut_between.ensures.parts
    ∙ ap (λ (k : ℕ). set c.self.inside.segments.parts mark.index (cut (part c.self.inside.segments.parts mark.index)
    (from - mark.start) k)) until)
    ∙ ap (λ (l : List ℕ). cut l from (from + gone)) (sym list))

use Rattle.segmented_pool.proofs.Common.{Chains, inserted, List, ℕ, ap, sym, ◌∙◌, arith, concat}
use Rattle.segmented_pool.proofs.Kept.{kept_pushed, list_pushed}
use Rattle.segmented_pool.proofs.Marks.{end_within}
use Rattle.segmented_pool.proofs.Only.{only_list, only_edit}
use Rattle.segmented_pool.proofs.pool.Pool.push_after.Goals as goal

pub push_after-requires-clause-few : goal.push_after-requires-clause-few
push_after-requires-clause-few c =
    omega (
      arith,
      end_within c.self.inside.segments.parts c.find-mark.result c.find-mark.ensures.mark,
      c.self.invariant.counted,
      c.self.invariant.fits,
      c.requires.spare,
      ap (λ (v : Chains). v.spare) c.self.view_is,
    )

pub invariant_of-self : goal.invariant_of-self
invariant_of-self c =
    kept_pushed c.self.inside.segments c.push_after.new.self c.self.inside.mark c.find-mark.result c.self.inside.len c.self.inside.spare
    c.self.invariant c.find-mark.ensures.mark c.args.place c.args.value c.find-mark.ensures.here
    (omega (arith, c.requires.spare, ap (λ (v : Chains). v.spare) c.self.view_is)) c.push_after.ensures.parts c.push_after.ensures.spare

pub returns-clause-list : goal.returns-clause-list
returns-clause-list c =
    let view = ap (λ (v : Chains). v.lists) c.self.view_is in
    let list = only_list c.args.self.now.lists (concat c.self.inside.segments.parts) c.args.chain.0 view c.requires.live in
    only_edit c.args.self.now.lists c.split.new.self.lists (concat c.self.inside.segments.parts) (concat c.push_after.new.self.parts) _
    c.args.chain.0 view c.requires.live (sym (ap (λ (v : Chains). v.lists) c.split.ensures))
    (list_pushed c.self.inside.segments c.push_after.new.self c.self.inside.mark c.find-mark.result c.self.inside.len c.self.inside.spare
    c.self.invariant c.find-mark.ensures.mark c.args.place c.args.value c.find-mark.ensures.here c.push_after.ensures.parts
    ∙ ap (λ (l : List ℕ). inserted l c.args.place c.args.value) (sym list))

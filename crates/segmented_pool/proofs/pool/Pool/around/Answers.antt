use Rattle.segmented_pool.proofs.Common.{Chains, part, ◌≡◌, ◌+◌, List, ℕ, length, take, drop, ap, sym, ◌∙◌, arith, common_steps, concat}
use Rattle.segmented_pool.proofs.Marks.{end_within, part_at}
use Rattle.segmented_pool.proofs.Only.{only_list}
use Rattle.segmented_pool.proofs.pool.Pool.around.Goals as goal

-- both sides together have the entries of the segment
sides : (c : goal.After-halves)
    → length c.halves.result.before + length c.halves.result.behind ≡ length (part c.self.inside.segments.parts c.find-mark.result.index)
sides c = grind (arith, common_steps)

pub returns-clause-list : goal.returns-clause-list
returns-clause-list c =
    let parts = c.self.inside.segments.parts in
    let mark = c.find-mark.result in
    let list = only_list c.args.self.now.lists (concat parts) c.args.chain.0 (ap
    (λ (v : Chains). v.lists) c.self.view_is) c.requires.live in
    c.halves.ensures ∙ sym (part_at parts mark c.find-mark.ensures.mark)
    ∙ ap (λ (k : ℕ). take k (drop mark.start (concat parts))) (sym (sides c))
    ∙ ap (λ (l : List ℕ). take (length c.halves.result.before + length c.halves.result.behind) (drop mark.start l)) (sym list)

pub returns-clause-within : goal.returns-clause-within
returns-clause-within c =
    let parts = c.self.inside.segments.parts in
    let list = only_list c.args.self.now.lists (concat parts) c.args.chain.0 (ap
    (λ (v : Chains). v.lists) c.self.view_is) c.requires.live in
    omega (
      arith,
      sides c,
      end_within parts c.find-mark.result c.find-mark.ensures.mark,
      ap (λ (l : List ℕ). length l) list,
    )

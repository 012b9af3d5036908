use Rattle.segmented_pool.proofs.Common.{cut, Parts, part, AreSegments, Segment, List, ℕ, ◌-◌, set, ap, arith}
use Rattle.segmented_pool.proofs.Rows.{parts_are}
use Rattle.segmented_pool.proofs.RowEdits.{here, live, changed, sound}
use Rattle.segmented_pool.proofs.Lists.{length-cut}
use Rattle.segmented_pool.proofs.segments.Segments.cut_between.Goals as goal

pub cut_between-requires-clause-live : goal.cut_between-requires-clause-live
cut_between-requires-clause-live c =
    live _ _ _ c.self.invariant (ap (λ (v : Parts). v.parts) c.self.view_is) c.args.index _ c.requires.index
    c.index_mut-segment.ensures.value

pub overflow_sub-segment-2 : goal.overflow_sub-segment-2
overflow_sub-segment-2 c = grind (arith, here)

-- the row and its lists after the edit
abbrev row : goal.After-self-1 → List Segment
row c = set c.self.inside.row.items c.args.index (record {
  chain = c.index_mut-segment.result.now.chain;
  len = c.index_mut-segment.result.now.len -
      (c.args.to - c.args.from);
})

abbrev parts : goal.After-self-1 → List (List ℕ)
parts c = set c.args.self.now.parts c.args.index (cut (part c.args.self.now.parts c.args.index) c.args.from c.args.to)

edited : (c : goal.After-self-1) → AreSegments c.cut_between.new.self.lists (row c) (parts c)
edited c =
    let list : List ℕ = part c.args.self.now.parts c.args.index in
    changed _ _ _ c.self.invariant (ap (λ (v : Parts). v.parts) c.self.view_is) c.args.index _ c.requires.index
    c.index_mut-segment.ensures.value
    c.cut_between.new.self.lists _ (λ (l : List ℕ). cut l c.args.from c.args.to) c.cut_between.ensures.list.here
    (λ counted. omega (arith, counted, length-cut list c.args.from c.args.to c.requires.order c.requires.place))
    c.cut_between.ensures.list.others

pub invariant_of-self : goal.invariant_of-self
invariant_of-self c = sound c.cut_between.new.self.lists (row c) (parts c) (edited c)

pub returns-clause-parts : goal.returns-clause-parts
returns-clause-parts c = parts_are c.cut_between.new.self.lists (row c) (parts c) (edited c)

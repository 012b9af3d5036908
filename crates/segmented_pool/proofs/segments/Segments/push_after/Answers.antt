use Rattle.segmented_pool.proofs.Common.{inserted, Parts, part, AreSegments, Segment, List, ℕ, ◌+◌, set, ap, arith}
use Rattle.segmented_pool.proofs.Rows.{parts_are}
use Rattle.segmented_pool.proofs.RowEdits.{here, live, changed, sound}
use Rattle.segmented_pool.proofs.Lists.{length-inserted}
use Rattle.segmented_pool.proofs.segments.Segments.push_after.Goals as goal

pub push_after-requires-clause-live : goal.push_after-requires-clause-live
push_after-requires-clause-live c =
    live _ _ _ c.self.invariant (ap (λ (v : Parts). v.parts) c.self.view_is) c.args.index _ c.requires.index
    c.index_mut-segment.ensures.value

pub overflow_add-segment : goal.overflow_add-segment
overflow_add-segment c = grind (arith, here)

-- the row and its lists after the edit
abbrev row : goal.After-self-1 → List Segment
row c = set c.self.inside.row.items c.args.index
    (record { chain = c.index_mut-segment.result.now.chain; len = c.index_mut-segment.result.now.len + 1 })

abbrev parts : goal.After-self-1 → List (List ℕ)
parts c = set c.args.self.now.parts c.args.index (inserted (part c.args.self.now.parts c.args.index) c.args.place c.args.value)

edited : (c : goal.After-self-1) → AreSegments c.push_after.new.self.lists (row c) (parts c)
edited c =
    let list : List ℕ = part c.args.self.now.parts c.args.index in
    changed _ _ _ c.self.invariant (ap (λ (v : Parts). v.parts) c.self.view_is) c.args.index _ c.requires.index
    c.index_mut-segment.ensures.value
    c.push_after.new.self.lists _ (λ (l : List ℕ). inserted l c.args.place c.args.value) c.push_after.ensures.list.here
    (λ counted. omega (arith, counted, length-inserted list c.args.place c.args.value)) c.push_after.ensures.list.others

pub invariant_of-self : goal.invariant_of-self
invariant_of-self c = sound c.push_after.new.self.lists (row c) (parts c) (edited c)

pub returns-clause-parts : goal.returns-clause-parts
returns-clause-parts c = parts_are c.push_after.new.self.lists (row c) (parts c) (edited c)

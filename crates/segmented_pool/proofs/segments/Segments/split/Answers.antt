use Rattle.segmented_pool.proofs.Common.{Parts, lists_of, AreSegments, ◌≡◌, ◌-◌, ap, arith, add-one, insert}
use Rattle.segmented_pool.proofs.Rows.{parts_are}
use Rattle.segmented_pool.proofs.RowEdits.{here, live, listed, parted, sound}
use Rattle.segmented_pool.proofs.Joined.{split_at, split_joined, split_before, split_count}
use Rattle.segmented_pool.proofs.segments.Segments.split.Goals as goal

pub take_off-chain-requires-clause-live : goal.take_off-chain-requires-clause-live
take_off-chain-requires-clause-live c =
    live _ _ _ c.self.invariant (ap (λ (v : Parts). v.parts) c.self.view_is) c.args.index _ c.requires.index c.index-segment.ensures

pub overflow_sub-other : goal.overflow_sub-other
overflow_sub-other c = grind (arith, here)

row_after : (c : goal.After-insert)
    → AreSegments c.take_off-chain.new.pool.lists c.insert.new.self.items (split_at c.args.self.now.parts c.args.index c.args.place)
row_after c = grind (arith, add-one, listed, parted, here)

pub invariant_of-self : goal.invariant_of-self
invariant_of-self c =
    sound c.take_off-chain.new.pool.lists c.insert.new.self.items (split_at c.args.self.now.parts c.args.index c.args.place) (row_after c)

seen_after : (c : goal.After-insert)
    → lists_of c.take_off-chain.new.pool.lists c.insert.new.self.items ≡ split_at c.args.self.now.parts c.args.index c.args.place
seen_after c =
    parts_are c.take_off-chain.new.pool.lists c.insert.new.self.items (split_at c.args.self.now.parts c.args.index c.args.place)
    (row_after c)

pub returns-clause-joined : goal.returns-clause-joined
returns-clause-joined c = grind (arith, seen_after, split_joined)

pub returns-clause-before : goal.returns-clause-before
returns-clause-before c = grind (arith, seen_after, split_before)

pub returns-clause-count : goal.returns-clause-count
returns-clause-count c = grind (arith, seen_after, split_count)

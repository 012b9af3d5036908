use Rattle.segmented_pool.proofs.Common.{Parts, AreSegments, Segment, suc, ◌+◌, ◌≡◌, List, ℕ, take, set, refl, get_or, ap, sym, subst, ◌∙◌, arith, add-one, common_steps, concat, remove}
use Rattle.segmented_pool.proofs.Rows.{parts_are}
use Rattle.segmented_pool.proofs.RowEdits.{here, live, listed, differ, united, sound}
use Rattle.segmented_pool.proofs.Joined.{joined_at, join_joined, join_before}
use Rattle.segmented_pool.proofs.segments.Segments.join.Goals as goal

pub splice-requires-clause-live : goal.splice-requires-clause-live
splice-requires-clause-live c =
    live _ _ _ c.self.invariant (ap (λ (v : Parts). v.parts) c.self.view_is)
    c.args.index _ (omega (arith, c.requires.index)) c.index-segment.ensures

pub splice-requires-clause-other_live : goal.splice-requires-clause-other_live
splice-requires-clause-other_live c =
    live _ _ _ c.self.invariant (ap (λ (v : Parts). v.parts) c.self.view_is) (suc c.args.index) _ (omega (arith, c.requires.index))
    (subst (λ (k : ℕ). c.remove-other.result ≡ get_or c.self.inside.row.items k c.remove-other.result)
    (add-one c.args.index) c.remove-other.ensures.value)

pub splice-requires-clause-differ : goal.splice-requires-clause-differ
splice-requires-clause-differ c = grind (arith, common_steps, differ, add-one)

pub splice-requires-clause-place : goal.splice-requires-clause-place
splice-requires-clause-place c = grind (arith, here, listed)

pub overflow_add-segment : goal.overflow_add-segment
overflow_add-segment c = grind (arith, add-one, here)

-- the row after the edit
abbrev row : goal.After-self-1 → List Segment
row c =
    set c.remove-other.new.self.items c.args.index
    (record { chain = c.index-segment.result.now.chain; len = c.index-segment.result.now.len + c.remove-other.result.len })

edited : (c : goal.After-self-1) → AreSegments c.splice.new.self.lists (row c) (joined_at c.args.self.now.parts c.args.index)
edited c =
    let segment : Segment =
    record { chain = c.index-segment.result.now.chain; len = c.index-segment.result.now.len + c.remove-other.result.len } in
    let items : c.remove-other.new.self.items ≡ remove c.self.inside.row.items (suc c.args.index) = grind (arith, add-one) in
    subst (λ (l : List Segment). AreSegments c.splice.new.self.lists (set l c.args.index segment)
    (joined_at c.args.self.now.parts c.args.index))
    (sym items)
    (united _ _ _ c.self.invariant (ap (λ (v : Parts). v.parts) c.self.view_is)
    c.args.index _ (omega (arith, c.requires.index)) c.index-segment.ensures _ (omega (arith, c.requires.index))
    (subst (λ (k : ℕ). c.remove-other.result ≡ get_or c.self.inside.row.items k c.remove-other.result) (add-one c.args.index)
    c.remove-other.ensures.value)
    c.splice.new.self.lists _ c.splice.ensures.list refl
    (here _ _ _ c.self.invariant (ap (λ (v : Parts). v.parts) c.self.view_is) (suc c.args.index) _ (omega (arith, c.requires.index))
    (subst (λ (k : ℕ). c.remove-other.result ≡ get_or c.self.inside.row.items k c.remove-other.result)
    (add-one c.args.index) c.remove-other.ensures.value))
    c.splice.ensures.others)

pub invariant_of-self : goal.invariant_of-self
invariant_of-self c = sound c.splice.new.self.lists (row c) (joined_at c.args.self.now.parts c.args.index) (edited c)

pub returns-clause-joined : goal.returns-clause-joined
returns-clause-joined c =
    ap (λ (l : List (List ℕ)). concat l)
    (parts_are c.splice.new.self.lists (row c) (joined_at c.args.self.now.parts c.args.index) (edited c))
    ∙ join_joined c.args.self.now.parts c.args.index (omega (arith, c.requires.index))

pub returns-clause-before : goal.returns-clause-before
returns-clause-before c =
    ap (λ (l : List (List ℕ)). take c.args.index l)
    (parts_are c.splice.new.self.lists (row c) (joined_at c.args.self.now.parts c.args.index) (edited c))
    ∙ join_before c.args.self.now.parts c.args.index (omega (arith, c.requires.index))

use Rattle.walk_files.proofs.Common.{◌≡◌, ℕ, ◌+◌, ◌<◌, true, false, length, sym, ap, ◌∙◌, below_more, arith, not, slice_index, option_map, is_used, NoVertex}
use Rattle.walk_files.proofs.EntryLemmas.{first_below-some, first_below-none}
use Rattle.walk_files.proofs.entries.check_vertices.Goals as goal

pub returns-then-not-used : goal.returns-then-not-used
returns-then-not-used c = λ mesh table.
    let walk = c.args.walk.now in
    let unused : is_used mesh (slice_index walk c.loop-place.place) ≡ false =
    ap (is_used mesh) (sym c.at.ensures) ∙ sym (c.used.ensures.mesh mesh table) ∙ c.if-not-used.true in
    sym
    (ap (option_map (NoVertex c.args.number))
    (first_below-some (λ k. not (is_used mesh (slice_index walk k))) (length walk) c.loop-place.place (omega arith) (ap not unused)
    (λ k less. ap not (c.loop-place.invariant mesh table k less))))

pub returns-else-not-used : goal.returns-else-not-used
returns-else-not-used c = λ mesh table.
    let walk = c.args.walk.now in
    let used : is_used mesh (slice_index walk c.loop-place.place) ≡ true =
    ap (is_used mesh) (sym c.at.ensures) ∙ sym (c.used.ensures.mesh mesh table) ∙ c.if-not-used.false in
    let all_used : (k : ℕ) → k < c.loop-place.place + 1 → is_used mesh (slice_index walk k) ≡ true =
    below_more (λ k. is_used mesh (slice_index walk k) ≡ true) c.loop-place.place (c.loop-place.invariant mesh table) used in
    sym
    (ap (option_map (NoVertex c.args.number))
    (first_below-none (λ k. not (is_used mesh (slice_index walk k))) (length walk) (λ k less. ap not (all_used k (omega arith)))))

use Rattle.walk_files.proofs.Common.{◌≡◌, ◌+◌, false, sym, ap, ◌∙◌, arith, not, slice_index, is_some, option_map, is_edge, darts, NoEdge}
use Rattle.walk_files.proofs.EntryLemmas.{first_below-some, first_below-none}
use Rattle.walk_files.proofs.entries.check_edges.Goals as goal

pub returns-then-is_none : goal.returns-then-is_none
returns-then-is_none c = λ mesh table.
    let walk = c.args.walk.now in
    let here = c.loop-place.place in
    let none : is_some c.between.result ≡ false = c.is_none.ensures ∙ ap not c.if-is_none.true in
    let no_edge : is_edge mesh (slice_index walk here) (slice_index walk (here + 1)) ≡ false =
    ap (λ v. is_edge mesh v (slice_index walk (here + 1))) (sym c.at.ensures)
    ∙ ap (is_edge mesh c.at.result.0) (sym c.at-in-loop-place.ensures)
    ∙ sym (c.between.ensures.edge mesh table) ∙ none in
    sym
    (ap (option_map (NoEdge c.args.number))
    (first_below-some (λ k. not (is_edge mesh (slice_index walk k) (slice_index walk (k + 1)))) (darts walk) here (omega arith)
    (ap not no_edge)
    (λ k less. ap not (c.loop-place.invariant mesh table k less))))

pub returns : goal.returns
returns c = λ mesh table.
    let walk = c.args.walk.now in
    sym
    (ap (option_map (NoEdge c.args.number))
    (first_below-none (λ k. not (is_edge mesh (slice_index walk k) (slice_index walk (k + 1)))) (darts walk)
    (λ k less. ap not (c.loop-place.invariant mesh table k (omega arith)))))

use Rattle.compact_surfaces.proofs.Common.{◌≡◌, ◌<◌, ℕ, List, [], ◌∙◌, sym, subst, inl, inr, arith, both_ways, cases_lt, get_or_default, All, walk_at}
use Rattle.compact_surfaces.proofs.surface.count_below.Goals as goal

pub loop-place-preserved : goal.loop-place-preserved
loop-place-preserved c = λ i l.
    let walks : List (List ℕ) = c.args.walks.now in
    let place : ℕ = c.loop-place.place in
    let read : c.index-walks-place.result ≡ walk_at walks place =
    c.index-walks-place.is ∙ get_or_default walks place c.index-walks-place.result [] c.loop-place-test.true in
    elim (cases_lt i place) [
      | inl before ↦ c.loop-place.invariant i before
      | inr last ↦
          (let here : place ≡ i = omega (arith, l, last) in
          subst (λ (k : ℕ). All (λ (v : ℕ). v < c.args.count) (walk_at walks k)) here
          (subst (λ (w : List ℕ). All (λ (v : ℕ). v < c.args.count) w) read (c.lies_below.ensures.0 c.if-not-lies_below.false)))
    ]

pub returns-then-not-lies_below-clause-not_next : goal.returns-then-not-lies_below-clause-not_next
returns-then-not-lies_below-clause-not_next c = λ l all.
    let walks : List (List ℕ) = c.args.walks.now in
    let read : c.index-walks-place.result ≡ walk_at walks c.loop-place.place =
    c.index-walks-place.is ∙ get_or_default walks c.loop-place.place c.index-walks-place.result [] c.loop-place-test.true in
    both_ways c.lies_below.result c.if-not-lies_below.true
    (c.lies_below.ensures.1 (subst (λ (w : List ℕ). All (λ (v : ℕ). v < c.args.count) w) (sym read) all))

use Rattle.compact_surfaces.proofs.Common.{◌≡◌, ℕ, List, [], ◌∙◌, sym, subst, inl, inr, arith, both_ways, cases_lt, get_or_default, IsWalk, walk_at}
use Rattle.compact_surfaces.proofs.covered.first_no_walk.Goals as goal

pub loop-place-preserved : goal.loop-place-preserved
loop-place-preserved c = λ i l.
    let walks : List (List ℕ) = c.args.walks.now in
    let place : ℕ = c.loop-place.place in
    let read : c.index-walks-place.result ≡ walk_at walks place =
    c.index-walks-place.is ∙ get_or_default walks place c.index-walks-place.result [] c.loop-place-test.true in
    elim (cases_lt i place) [
      | inl before ↦ c.loop-place.invariant i before
      | inr last ↦
          (let here : place ≡ i = omega (arith, l, last) in
          subst (λ (k : ℕ). IsWalk c.args.faces.now (walk_at walks k)) here
          (subst (IsWalk c.args.faces.now) read (c.is_walk.ensures.0 c.if-not-is_walk.false)))
    ]

pub returns-then-not-is_walk : goal.returns-then-not-is_walk
returns-then-not-is_walk c =
    let walks : List (List ℕ) = c.args.walks.now in
    let place : ℕ = c.loop-place.place in
    let read : c.index-walks-place.result ≡ walk_at walks place =
    c.index-walks-place.is ∙ get_or_default walks place c.index-walks-place.result [] c.loop-place-test.true in
    record {
      within = c.loop-place-test.true;
      no_walk = λ w.
          both_ways c.is_walk.result c.if-not-is_walk.true (c.is_walk.ensures.1 (subst (IsWalk c.args.faces.now) (sym read) w));
      before = c.loop-place.invariant;
    }

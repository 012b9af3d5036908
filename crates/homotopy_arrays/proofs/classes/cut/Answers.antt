use Rattle.homotopy_arrays.proofs.Common.{length_fault, walk_in_arrays, ◌≡◌, ◌<◌, inl, inr, ℕ, List, length, sym, subst, ◌∙◌, arith, cases_lt, none-some, None, Some}
use Rattle.homotopy_arrays.proofs.ClassLemmas.{cut_at, cut_more}
use Rattle.homotopy_arrays.proofs.PairLemmas.{next_place, place_within, walk_cut}
use Rattle.homotopy_arrays.proofs.classes.cut.Goals as goal

pub slice_bounds-list-end : goal.slice_bounds-list-end
slice_bounds-list-end c =
    omega (
      arith,
      place_within c.args.sizes.now c.loop-place.place c.loop-place.at (length c.args.vertices.now) c.loop-place.invariant.start
          (omega (arith, c.loop-place-test.true)) c.requires,
    )

pub loop-place-preserved : goal.loop-place-preserved
loop-place-preserved c =
    let sizes : List ℕ = c.args.sizes.now in
    let vertices : List ℕ = c.args.vertices.now in
    let k : ℕ = c.loop-place.place in
    let few : k < length sizes = omega (arith, c.loop-place-test.true) in
    let list = walk_cut sizes vertices k c.loop-place.at c.loop-place.invariant.start in
    let good : length_fault 1 (walk_in_arrays sizes vertices k) ≡ None =
    subst (λ (w : List ℕ). length_fault 1 w ≡ None) list (sym c.length_fault.ensures ∙ c.in_default.is) in
    record {
      start = next_place sizes k c.loop-place.at c.loop-place.invariant.start few;
      walks =
          cut_more sizes vertices c.loop-place.walks.items c.push.new.self.items k c.in_ok-walk.walk c.in_ok-push.ensures.items
          c.loop-place.invariant.walks (c.in_ok-walk.ensures ∙ list);
      good = λ j l.
          elim (cases_lt j k) [
            | inl before ↦ c.loop-place.invariant.good j before
            | inr last ↦
                (let here : k ≡ j = omega (arith, l, last) in
                subst (λ (n : ℕ). length_fault 1 (walk_in_arrays sizes vertices n) ≡ None) here good)
          ];
    }

pub returns-in-Some : goal.returns-in-Some
returns-in-Some c =
    let sizes : List ℕ = c.args.sizes.now in
    let vertices : List ℕ = c.args.vertices.now in
    let k : ℕ = c.loop-place.place in
    let list = walk_cut sizes vertices k c.loop-place.at c.loop-place.invariant.start in
    let bad : length_fault 1 (walk_in_arrays sizes vertices k) ≡ Some c.in-Some._fault =
    subst (λ (w : List ℕ). length_fault 1 w ≡ Some c.in-Some._fault) list (sym c.length_fault.ensures ∙ c.in-Some.is) in
    cut_at sizes vertices c.loop-place.walks.items k c.loop-place.invariant.walks (omega (arith, c.loop-place-test.true))
    c.loop-place.invariant.good (λ _ good. none-some c.in-Some._fault (sym good ∙ bad))

pub returns : goal.returns
returns c =
    cut_at c.args.sizes.now c.args.vertices.now c.loop-place.walks.items c.loop-place.place c.loop-place.invariant.walks
    (omega (arith, c.loop-place.auto.place-end)) c.loop-place.invariant.good
    (λ l. absurd (omega (arith, l, c.loop-place-test.false)))

use Rattle.homotopy_arrays.proofs.Common.{◌≡◌, ℕ, List, ap, sum, take, ◌∙◌, arith}
use Rattle.homotopy_arrays.proofs.PairLemmas.{next_place, place_within, walk_cut}
use Rattle.homotopy_arrays.proofs.pair.slice_at.Goals as goal

pub loop-before-preserved : goal.loop-before-preserved
loop-before-preserved c =
    next_place c.args.sizes.now c.loop-before.before c.loop-before.at c.loop-before.invariant
    (omega (arith, c.loop-before-test.true, c.requires.place))

pub slice_bounds-result-end : goal.slice_bounds-result-end
slice_bounds-result-end c =
    let sizes : List ℕ = c.args.sizes.now in
    let here : c.loop-before.at ≡ sum (take c.args.place sizes) =
    c.loop-before.invariant
    ∙ ap (λ (n : ℕ). sum (take n sizes)) (omega (arith, c.loop-before-test.false, c.loop-before.auto.before-end)) in
    omega (arith, place_within sizes c.args.place c.loop-before.at _ here c.requires.place c.requires.sizes)

pub returns : goal.returns
returns c =
    let sizes : List ℕ = c.args.sizes.now in
    let here : c.loop-before.at ≡ sum (take c.args.place sizes) =
    c.loop-before.invariant
    ∙ ap (λ (n : ℕ). sum (take n sizes)) (omega (arith, c.loop-before-test.false, c.loop-before.auto.before-end)) in
    walk_cut sizes c.args.vertices.now c.args.place c.loop-before.at here

use Rattle.move_lifting.proofs.Common.{Pooled, Bool, true, false, not, refl, ◌≡◌, ℕ, ◌<◌, List, length, get_or, ap, sym, ◌∙◌, arith, eqb-true, get_or-map, take_more_same, numbers, VertexName}
use Rattle.move_lifting.proofs.ExpandLemmas.{length-numbers}
use Rattle.move_lifting.proofs.inserting.common_start.Goals as goal

pub loop-place-preserved : goal.loop-place-preserved
loop-place-preserved c =
    let approach : List ℕ = numbers c.args.approach.now in
    let walk : List ℕ = c.args.walk.now.walk in
    let k : ℕ = c.loop-place.place in
    let in_approach : k < length c.args.approach.now = omega (arith, c.loop-place-test.true, c.min-most.ensures) in
    let in_walk : k < length walk = omega (arith, c.loop-place-test.true, c.min-most.ensures, c.len.ensures.count) in
    let equal = eqb-true _ _ (not_false _ (sym c.ne.ensures ∙ c.if-ne.false)) in
    let same : get_or approach k 0 ≡ get_or walk k 0 =
    get_or-map (λ (x : VertexName). x.0) c.args.approach.now k (record { 0 = 0 }) 0 in_approach ∙ equal ∙ c.read.ensures.value
    ∙ ap (λ (p : Pooled). get_or p.walk k 0) c.loop-place.invariant.kept in
    record {
      within = omega (arith, c.loop-place-test.true);
      kept = c.read.ensures.same ∙ c.loop-place.invariant.kept;
      same = take_more_same approach walk k 0 (omega (arith, in_approach, length-numbers c.args.approach.now)) in_walk
          c.loop-place.invariant.same same;
    }
  where
    not_false : (b : Bool) → not b ≡ false → b ≡ true
    not_false true e = refl
    not_false false e = sym e

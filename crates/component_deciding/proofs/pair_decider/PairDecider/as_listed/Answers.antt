use Rattle.component_deciding.proofs.Common.{Placed, ◌≡◌, ◌++◌, ◌∷◌, [], ℕ, List, length, sym, ap, ◌∙◌, subst, arith, map-append, IsPermutation-refl, range_with_len}
use Rattle.connectivity.proofs.Forests.{range_more}
use Rattle.std.specs.List.Sorted.{IsPermutation}
use Rattle.component_deciding.proofs.OrderLemmas.{pairs_of}
use Rattle.component_deciding.proofs.pair_decider.PairDecider.as_listed.Goals as goal

pub loop-pair-preserved : goal.loop-pair-preserved
loop-pair-preserved c =
    let k : ℕ = c.loop-pair.pair in
    let entry : Placed = record { place = c.turn_of-place.result; pair = k } in
    ap pairs_of c.in_ok-push.ensures.items ∙ map-append (λ (e : Placed). e.pair) c.loop-pair.order.items (entry ∷ [])
    ∙ ap (λ (ks : List ℕ). ks ++ k ∷ []) c.loop-pair.invariant ∙ sym (range_more k)

pub returns : goal.returns
returns c =
    let all : c.loop-pair.pair ≡ length c.args.starts.now = omega (arith, c.loop-pair-test.false, c.loop-pair.auto.pair-end) in
    let listed : pairs_of c.loop-pair.order.items ≡ range_with_len 0 (length c.args.starts.now) =
    c.loop-pair.invariant ∙ ap (range_with_len 0) all in
    subst (IsPermutation (range_with_len 0 (length c.args.starts.now))) (sym listed) (IsPermutation-refl _)

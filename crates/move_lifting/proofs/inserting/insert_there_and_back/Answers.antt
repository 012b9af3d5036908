use Rattle.move_lifting.proofs.Common.{LeadsAtPeak, last_of, backward, ◌≡◌, ℕ, ◌-◌, ◌+◌, ◌++◌, List, length, take, drop, ap, sym, subst, arith, get_or-map, take_all, PeakedMoves, numbers, VertexName}
use Rattle.move_lifting.proofs.ExpandLemmas.{length-numbers}
use Rattle.move_lifting.proofs.TurnLemmas.{out_more}
use Rattle.move_lifting.proofs.inserting.insert_there_and_back.Goals as goal

pub loop-place-preserved : goal.loop-place-preserved
loop-place-preserved c =
    let walk : List ℕ = numbers c.args.approach.now in
    let n : ℕ = c.args.common in
    let k : ℕ = c.loop-place.place in
    let long : length walk ≡ length c.args.approach.now = length-numbers c.args.approach.now in
    let le = c.loop-place.auto.place in
    record {
      count = omega (arith, c.loop-place.invariant.count);
      peak = omega (
        arith,
        ap (λ (l : PeakedMoves). l.peak) c.in_ok-push.ensures.ok,
        c.loop-place.invariant.peak,
        c.loop-place.invariant.count,
        le,
        c.requires.some,
      );
      leads = λ mesh first rest w counted h.
          let count : k - 1 + 2 + c.loop-place.behind ≡ k + 1 + (k - n + length rest) =
          omega (arith, c.loop-place.invariant.count, counted, le, c.requires.some) in
          out_more mesh first walk rest n k (k - 1 + 2 + c.loop-place.behind) _ c.loop-place.moves c.push.new.self w c.requires.some le
          (omega (arith, c.loop-place-test.true))
          (sym (get_or-map (λ (x : VertexName). x.0) c.args.approach.now k _ 0 c.loop-place-test.true))
          c.in_ok-push.ensures.ok count
          (c.loop-place.invariant.leads mesh first rest w counted h);
    }

pub returns-clause-peak : goal.returns-clause-peak
returns-clause-peak c = omega (arith, c.loop-place.invariant.peak, c.loop-place-test.false, c.loop-place.auto.place-end c.requires.within)

pub returns-clause-leads : goal.returns-clause-leads
returns-clause-leads c mesh first rest w counted h =
    let walk : List ℕ = numbers c.args.approach.now in
    let all : take c.loop-place.place walk ≡ walk =
    take_all c.loop-place.place walk (omega (arith, c.loop-place-test.false, length-numbers c.args.approach.now)) in
    subst (λ (l : List ℕ). LeadsAtPeak mesh first c.loop-place.moves
    (l ++ (backward (last_of (take c.args.common walk)) (drop c.args.common l) ++ rest))) all
    (c.loop-place.invariant.leads mesh first rest w counted h)

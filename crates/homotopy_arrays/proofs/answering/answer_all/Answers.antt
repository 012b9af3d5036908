use Rattle.homotopy_arrays.proofs.Common.{◌+◌, ◌*◌, ◌<◌, ◌%◌, eqb, List, ℕ, length, sum, ap, sym, subst, ◌∙◌, arith, and_parts, eqb-true, length_push}
use Rattle.homotopy_arrays.proofs.PairLemmas.{more_answers, next_place, pair_end, place_within}
use Rattle.homotopy_arrays.proofs.answering.answer_all.Goals as goal

pub slice_bounds-first-end : goal.slice_bounds-first-end
slice_bounds-first-end g c =
    let sizes : List ℕ = c.args.sizes.now in
    let k : ℕ = c.loop-pair.pair in
    let all = and_parts (eqb (sum sizes) (length c.args.vertices.now)) (eqb (length sizes % 2) 0) c.requires.pairs in
    omega (
      arith,
      place_within sizes (2 * k) c.loop-pair.at (length c.args.vertices.now) c.loop-pair.invariant.place
          (omega (arith, c.loop-pair-test.true)) (eqb-true _ _ all.0),
    )

pub slice_bounds-second-end : goal.slice_bounds-second-end
slice_bounds-second-end g c =
    let sizes : List ℕ = c.args.sizes.now in
    let k : ℕ = c.loop-pair.pair in
    let few : 2 * k + 1 < length sizes = omega (arith, c.loop-pair-test.true) in
    let all = and_parts (eqb (sum sizes) (length c.args.vertices.now)) (eqb (length sizes % 2) 0) c.requires.pairs in
    omega (
      arith,
      place_within sizes (2 * k + 1) _ (length c.args.vertices.now)
          (next_place sizes (2 * k) c.loop-pair.at c.loop-pair.invariant.place (omega (arith, few))) few (eqb-true _ _ all.0),
    )

pub loop-pair-preserved : goal.loop-pair-preserved
loop-pair-preserved g c =
    let sizes : List ℕ = c.args.sizes.now in
    let k : ℕ = c.loop-pair.pair in
    let few : 2 * k + 1 < length sizes = omega (arith, c.loop-pair-test.true) in
    record {
      same = c.in_ok-answer.ensures.same ∙ c.loop-pair.invariant.same;
      place = pair_end sizes k c.loop-pair.at c.loop-pair.invariant.place few;
      each = ap (λ xs. length xs) c.in_ok-push.ensures.items ∙ length_push c.loop-pair.answers.items c.in_ok-answer.answer
          ∙ omega (arith, c.loop-pair.invariant.each);
      answered =
          more_answers g.A.WalkAnswer.Is c.loop-pair.surface c.args.surface.now sizes c.args.vertices.now
          c.loop-pair.answers.items c.push.new.self.items k c.loop-pair.at c.in_ok-answer.answer c.in_ok-push.ensures.items
          c.loop-pair.invariant.each c.loop-pair.invariant.place few c.loop-pair.invariant.same c.in_ok-answer.ensures.answer
          c.loop-pair.invariant.answered;
    }

pub returns-clause-answers : goal.returns-clause-answers
returns-clause-answers g c =
    let sizes : List ℕ = c.args.sizes.now in
    let all = and_parts (eqb (sum sizes) (length c.args.vertices.now)) (eqb (length sizes % 2) 0) c.requires.pairs in
    record {
      each_pair =
          omega (arith, eqb-true _ _ all.1, c.loop-pair.invariant.each, c.loop-pair-test.false, c.loop-pair.auto.pair-end);
      answer = c.loop-pair.invariant.answered;
    }

pub answer_walks-requires : goal.answer_walks-requires
answer_walks-requires g c = subst g.A.WalkAnswer.On (sym c.loop-pair.invariant.same) c.requires.on

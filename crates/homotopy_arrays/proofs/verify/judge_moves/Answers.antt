use Rattle.homotopy_arrays.proofs.Common.{verdict_of, ◌≡◌, ◌++◌, List, [], ◌∷◌, append_assoc, append-nil, ◌∙◌, refl, sym, ap, subst, arith, Option, Some, None, Ok, Move, none_more, one_more, Certificate, after_answer, answer_first, count_in, moves_left, next_answer}
use Rattle.homotopy_arrays.proofs.JudgementLemmas.{none_yet, promised}
use Rattle.homotopy_arrays.proofs.verify.judge_moves.Goals as goal

pub moves-init : goal.moves-init
moves-init c = record {
  so_far = (
    [],
    λ rest. c.in_ok-progress.ensures c.args.on.now.faces.now c.args.on.now.second.now rest,
    none_yet (moves_left c.args.reader),
  );
  head = refl;
  refusal = c.requires.fresh.1;
  count = sym c.requires.fresh.0;
}

pub step-requires-clause-few : goal.step-requires-clause-few
step-requires-clause-few c =
    let i = c.moves.invariant in
    let gives : next_answer c.moves.reader ≡ Ok (Some c.in-Some.mv) =
    subst (λ (o : Option Move). next_answer c.moves.reader ≡ Ok o) c.in-Some.is (sym c.in_ok-mv.ensures.answer) in
    let few = promised c.moves.reader c.in-Some.mv i.refusal gives in
    omega (arith, few, i.count, ap count_in i.head, c.requires.count)

pub moves-preserved : goal.moves-preserved
moves-preserved c =
    let i = c.moves.invariant in
    let moves : List Move = i.so_far.0 in
    let reader = c.moves.reader in
    let next = c.next_move.new.self in
    let mv : Move = c.in-Some.mv in
    let pair = c.args.on.now in
    let after : next ≡ after_answer reader (Ok (Some mv)) =
    subst (λ (o : Option Move). next ≡ after_answer reader (Ok o)) c.in-Some.is c.in_ok-mv.ensures.after in
    let left : moves_left reader ≡ answer_first (Ok (Some mv)) (moves_left next) =
    subst (λ (o : Option Move). moves_left reader ≡ answer_first (Ok o) (moves_left next)) c.in-Some.is c.in_ok-mv.ensures.left in
    record {
      so_far = (
        moves ++ mv ∷ [],
        λ rest. sym (c.step.ensures pair.second.now rest) ∙ i.so_far.1 (mv ∷ rest)
            ∙ ap (λ (ms : List Move). verdict_of pair.faces.now pair.first.now pair.second.now (record { moves = ms; peak = c.args.peak }))
            (sym (append_assoc moves (mv ∷ []) rest)),
        one_more _ _ _ moves mv i.so_far.2 left,
      );
      head = ap (λ (r : Certificate). r.head) after ∙ i.head;
      refusal = ap (λ (r : Certificate). r.refusal) after ∙ i.refusal;
      count = omega (arith, i.count, ap (λ (r : Certificate). r.given) after);
    }

pub returns : goal.returns
returns c =
    let i = c.moves.invariant in
    let moves : List Move = i.so_far.0 in
    let pair = c.args.on.now in
    let left : moves_left c.moves.reader ≡ answer_first (Ok None) (moves_left c.next_move.new.self) =
    subst (λ (o : Option Move). moves_left c.moves.reader ≡ answer_first (Ok o) (moves_left c.next_move.new.self)) c.in_default.is
    c.in_ok-mv.ensures.left in (
      moves,
      none_more _ _ moves i.so_far.2 left,
      c.verdict.ensures pair.faces.now c.moves.done ∙ i.so_far.1 []
          ∙ ap (λ (ms : List Move). verdict_of pair.faces.now pair.first.now pair.second.now (record { moves = ms; peak = c.args.peak }))
          (append-nil moves),
    )

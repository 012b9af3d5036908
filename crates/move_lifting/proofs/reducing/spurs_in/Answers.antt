use Rattle.move_lifting.proofs.Common.{spurs_of, PathStep, Spur, ◌≡◌, ℕ, suc, ◌+◌, List, [], ◌∷◌, take, ap, ◌∙◌, arith, common_steps}
use Rattle.move_lifting.proofs.ReductionLemmas.{few_spurs, spurs_next}
use Rattle.move_lifting.proofs.reducing.spurs_in.Goals as goal
use Rattle.move_lifting.proofs.reducing.spurs_in.Goals.{in-Spur, in_default}

pub overflow_add-spurs : goal.overflow_add-spurs
overflow_add-spurs c = grind (arith, common_steps, few_spurs)

pub loop-step-preserved : goal.loop-step-preserved
loop-step-preserved c =
    let n : ℕ = c.loop-step.step-index in
    let steps : List PathStep = c.args.steps.now in
    let more = spurs_next steps n (Spur 0) c.loop-step-test.true in
    let up_one : suc n ≡ n + 1 = omega arith in
    elim c.match-step.branch [
      | in-Spur w ↦
          w.spurs-is
          ∙ omega (
            arith,
            c.loop-step.invariant,
            more,
            ap (λ (x : PathStep). spurs_of (x ∷ [])) w.in-Spur.is,
            ap (λ (k : ℕ). spurs_of (take k steps)) up_one,
          )
      | in_default w ↦
          w.spurs-is
          ∙ omega (
            arith,
            c.loop-step.invariant,
            more,
            ap (λ (x : PathStep). spurs_of (x ∷ [])) w.in_default.is,
            ap (λ (k : ℕ). spurs_of (take k steps)) up_one,
          )
    ]

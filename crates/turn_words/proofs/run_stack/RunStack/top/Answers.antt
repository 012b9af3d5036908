use Rattle.turn_words.proofs.Common.{arith, ◌-◌, ◌<◌, ◌∙◌, sym, ap, length, take, RunStackView}
use Rattle.turn_words.proofs.RunLists.{last-run}
use Rattle.turn_words.proofs.run_stack.RunStack.top.Goals as goal

pub returns-clause-top : goal.returns-clause-top
returns-clause-top c =
    let runs = c.as_slice-runs.result.now in
    let some : 0 < length runs = grind (arith, c.is_empty.ensures, c.if-is_empty.false) in (
      take (length runs - 1) runs,
      sym (ap (λ (v : RunStackView). v.runs) c.self.view_is) ∙ sym c.as_slice-runs.ensures.value
          ∙ last-run runs some,
    )

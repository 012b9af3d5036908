use Rattle.trial_commands.proofs.Common.{failed_end, yes_with, refl, trial_text}
use Rattle.trial_commands.proofs.Trying.{surface_stops, few_stop, decisions_stop, trial_answered}
use Rattle.trial_commands.proofs.trial.trial.Goals as goal

pub returns-in_err-chain-clause-end : goal.returns-in_err-chain-clause-end
returns-in_err-chain-clause-end c =
    failed_end _ _ _ _ c.from_residual-in_err-chain.ensures.1
    (surface_stops c.args.genus c.args.grid c.in_err-chain.field-0.0 c.in_ok-check_sizes.ensures.end c.in_err-chain.ensures.end)

pub returns-in_err-measured-clause-end : goal.returns-in_err-measured-clause-end
returns-in_err-measured-clause-end c =
    failed_end _ _ _ _ c.from_residual-in_err-measured.ensures.1
    (few_stop c.args.genus c.args.grid c.in_ok-chain.chain.faces c.in_err-measured.field-0.0 c.in_ok-check_sizes.ensures.end
    c.in_ok-chain.ensures.end c.in_err-measured.ensures.end)

pub returns-in_err-decisions-clause-end : goal.returns-in_err-decisions-clause-end
returns-in_err-decisions-clause-end c =
    failed_end _ _ _ _ c.from_residual-in_err-decisions.ensures.1
    (decisions_stop c.args.genus c.args.grid c.in_ok-chain.chain.faces c.in_ok-measured.measured.numbers
    c.in_ok-measured.measured.genera.items c.in_err-decisions.field-0.0
    (record {
      in_bounds = c.in_ok-check_sizes.ensures.end;
      spelled = c.in_ok-chain.ensures.end;
      few = c.in_ok-measured.ensures.end;
      are = c.in_ok-measured.ensures.numbers;
      each = c.in_ok-measured.ensures.genera;
    })
    c.in_err-decisions.ensures.end)

pub returns-in_err-lines-clause-end : goal.returns-in_err-lines-clause-end
returns-in_err-lines-clause-end c =
    failed_end _ _ _ _ c.from_residual-in_err-lines.ensures.1 tt

pub returns-clause-end : goal.returns-clause-end
returns-clause-end c =
    let numbers = c.in_ok-measured.measured.numbers in
    let genera = c.in_ok-measured.measured.genera.items in
    let decisions = c.in_ok-decisions.decisions in
    record {
      answer = yes_with (trial_text c.args.genus c.args.grid numbers genera decisions);
      passes =
          trial_answered c.args.genus c.args.grid c.in_ok-chain.chain.faces numbers genera decisions
          (record {
            in_bounds = c.in_ok-check_sizes.ensures.end;
            spelled = c.in_ok-chain.ensures.end;
            few = c.in_ok-measured.ensures.end;
            are = c.in_ok-measured.ensures.numbers;
            each = c.in_ok-measured.ensures.genera;
          })
          c.in_ok-decisions.ensures.end;
      is_answer = record { status_is = refl; text_is = c.in_ok-lines.ensures };
    }

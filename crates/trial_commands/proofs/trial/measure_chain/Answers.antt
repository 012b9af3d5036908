use Rattle.trial_commands.proofs.Common.{few_joined}
use Rattle.trial_commands.proofs.trial.measure_chain.Goals as goal

pub returns-clause-joined : goal.returns-clause-joined
returns-clause-joined c = few_joined c.args.chain.now.faces c.in_ok-parts.parts c.in_ok-parts.ensures.parts c.in_ok-parts.ensures.few

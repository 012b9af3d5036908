use Rattle.trial_commands.proofs.Common.{Ends, subst, ◌∙◌, FaceList, pairs_decided}
use Rattle.trial_commands.proofs.trial.decide_on.Goals as goal

pub connected-requires-clause-signed : goal.connected-requires-clause-signed
connected-requires-clause-signed c = c.requires.signed

pub connected-requires-clause-joined : goal.connected-requires-clause-joined
connected-requires-clause-joined c = c.requires.joined

pub decide_pairs-decisions-requires : goal.decide_pairs-decisions-requires
decide_pairs-decisions-requires c = c.requires.sizes

pub returns-clause-end : goal.returns-clause-end
returns-clause-end c =
    subst (λ (m : FaceList). Ends (pairs_decided m c.args.grid) c.decide_pairs-decisions.result)
    (c.in_ok-decider.ensures ∙ c.in_ok-surface.ensures) c.decide_pairs-decisions.ensures.end

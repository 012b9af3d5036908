use Rattle.surf_model.proofs.Common.{arith, common_steps, joined_ends}
use Rattle.surf_model.proofs.PartsLemmas.{last_end-push}
use Rattle.surf_model.proofs.JoinedPartsLemmas.{last_end-joined, joined-push, equal-push}
use Rattle.surf_model.proofs.parts.Parts.push.Goals as goal

pub push-requires-clause-room : goal.push-requires-clause-room
push-requires-clause-room c = grind (arith, last_end-joined)

pub invariant_of-self-in-Continue-1 : goal.invariant_of-self-in-Continue-1
invariant_of-self-in-Continue-1 c = grind (arith, common_steps, last_end-push, last_end-joined)

pub returns-then-size-self-clause-ok : goal.returns-then-size-self-clause-ok
returns-then-size-self-clause-ok c = grind (arith, joined_ends, equal-push)

pub returns-in_ok-push-clause-ok : goal.returns-in_ok-push-clause-ok
returns-in_ok-push-clause-ok c = grind (arith, joined_ends, joined-push)

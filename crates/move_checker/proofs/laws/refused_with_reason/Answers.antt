use Rattle.move_checker.proofs.Common.{MoveFault, List, ℕ, rules, Option, IsSome, IsNone}
use Rattle.std.proofs.Common.{◌↔◌}
use Rattle.move_checker.proofs.Steps.{Judged, is_refused, is_allowed, judged}
use Rattle.move_checker.proofs.laws.refused_with_reason.Goals as goal

both : (refusal : Option MoveFault) (given : Option (List ℕ)) → Judged refusal given → IsNone refusal ↔ IsSome given
both refusal given (is_refused fault r g ne) = rw (r, g) (search rules)
both refusal given (is_allowed next r g) = rw (r, g) (search rules)

pub returns : goal.returns
returns c = λ mesh walk move. both _ _ (judged mesh walk move)

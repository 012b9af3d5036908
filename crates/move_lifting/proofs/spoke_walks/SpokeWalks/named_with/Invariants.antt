use Rattle.move_lifting.proofs.Common.{◌≡◌, true, false, length, take, get_or, All}
use Rattle.move_lifting.proofs.spoke_walks.SpokeWalks.named_with.Given as goal

abbrev pub invariant-loop-spoke : goal.invariant-loop-spoke
invariant-loop-spoke l = length l.named.items ≡ l.spoke

abbrev pub invariant-loop-spoke-2 : goal.invariant-loop-spoke-2
invariant-loop-spoke-2 l = record {
  long : length l.named.items ≡ l.degree;
  marked : All (λ spoke. get_or l.named.items spoke false ≡ true) (take l.spoke-index l.front);
}

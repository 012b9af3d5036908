use Rattle.spoke_paths.proofs.Common.{LeadsOn, ◌<◌, All, length, if◌then◌else◌, minus}
use Rattle.spoke_paths.proofs.Closing.{Closing}
use Rattle.spoke_paths.proofs.reduce.close.Given as goal

abbrev pub invariant-loop-at : goal.invariant-loop-at
invariant-loop-at l = record {
  below : All (λ spoke. spoke < length l.wheel) l.front.items;
  closing : Closing l.wheel l.start (if l.up then minus (length l.wheel) 1 else 1) (if l.up then 1 else minus (length l.wheel) 1)
      (if l.up then 2 else minus (length l.wheel) 2) l.fn.front.items l.front.items l.at;
  leads : LeadsOn l.wheel l.fn.steps.items l.fn.front.items l.steps.items l.front.items;
}

abbrev pub decreases-loop-at : goal.decreases-loop-at
decreases-loop-at l = l.at

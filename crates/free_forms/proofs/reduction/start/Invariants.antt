use Rattle.free_forms.proofs.Common.{◌≡◌, ◌+◌, ◌-◌, drop, reverse, numbers, darts}
use Rattle.free_forms.proofs.reduction.start.Given as goal

abbrev pub invariant-loop-back : goal.invariant-loop-back
invariant-loop-back l = reverse (numbers l.pending.items) ≡ drop (darts l.walk - l.back + 1) l.walk

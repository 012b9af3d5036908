use Rattle.free_forms.proofs.Common.{◌≡◌, take, numbers}
use Rattle.free_forms.proofs.reduction.Reduction.into_parts.Given as goal

abbrev pub invariant-loop-place : goal.invariant-loop-place
invariant-loop-place l = l.walk ≡ take l.place (numbers l.earlier.items)

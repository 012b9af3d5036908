use Rattle.move_lifting.proofs.Common.{side_at, arith, ◌≡◌, ◌-◌, Bool, true, false, not, refl, common_steps}
use Rattle.move_lifting.proofs.ReductionLemmas.{none_of_dart}
use Rattle.move_lifting.proofs.reducing.push_spokes.Goals as goal

not_false : (b : Bool) → not b ≡ false → b ≡ true
not_false true e = refl
not_false false e = cc

pub returns-else-ne : goal.returns-else-ne
returns-else-ne c = grind (arith, common_steps, side_at, not_false, none_of_dart)

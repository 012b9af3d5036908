use Rattle.surf_model.proofs.Common.{◌<◌, ◌≤◌, ◌-◌, ◌∷◌, length, get_or}
use Rattle.surf_model.proofs.listed_parts.ListedParts.part_at.Given as goal

abbrev pub invariant-loop-self : goal.invariant-loop-self
invariant-loop-self l = record { there : l.part < length l.self; from : get_or (0 ∷ l.self) l.part 0 ≤ l.place }

abbrev pub decreases-loop-self : goal.decreases-loop-self
decreases-loop-self l = length l.self - l.part

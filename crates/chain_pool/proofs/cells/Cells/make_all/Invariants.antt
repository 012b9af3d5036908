use Rattle.chain_pool.proofs.Common.{IsAlike, ◌≡◌, ◌-◌}
use Rattle.chain_pool.proofs.cells.Cells.make_all.Given as goal

abbrev pub invariant-loop-self : goal.invariant-loop-self
invariant-loop-self l = IsAlike l.fn.self.chains l.self.chains × (l.self.spare ≡ l.fn.self.spare)

abbrev pub decreases-loop-self : goal.decreases-loop-self
decreases-loop-self l = l.self.spare - l.self.free

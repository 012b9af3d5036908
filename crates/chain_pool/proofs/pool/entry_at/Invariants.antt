use Rattle.chain_pool.proofs.Common.{◌≡◌, drop}
use Rattle.chain_pool.proofs.pool.entry_at.Given as goal

abbrev pub invariant-loop-i : goal.invariant-loop-i
invariant-loop-i l = l.entries ≡ drop l._i l.fn.entries

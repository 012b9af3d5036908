use Rattle.chain_pool.proofs.Common.{IsSound, Free, Left, Right, Owners, no_cells, AreOwned, memory_of, ℕ, [], arith}
use Rattle.chain_pool.proofs.Stacks.{IsOwned-none}
use Rattle.chain_pool.proofs.cells.Cells.new.Goals as goal

nobody : Owners
nobody = λ k. (Free, 0)

no_stacks : AreOwned (memory_of []) no_cells nobody
no_stacks Free = IsOwned-none _ _ _ _
no_stacks (Left c) = IsOwned-none _ _ _ _
no_stacks (Right c) = IsOwned-none _ _ _ _

none_sound : (capacity : ℕ) → IsSound [] capacity no_cells 0
none_sound capacity = record {
  owners = nobody;
  stacks = no_stacks;
  made = omega arith;
  room = omega arith;
  keys = λ lt. absurd (omega arith);
  fits = omega arith;
}

pub invariant_of-result : goal.invariant_of-result
invariant_of-result c = rw c.new.ensures.empty (none_sound c.new.result.capacity)

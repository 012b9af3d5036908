use Rattle.chain_pool.proofs.Common.{arith}
use Rattle.chain_pool.proofs.Reading.{first_entry, rest_stack, values-first}
use Rattle.chain_pool.proofs.Stacks.{values-none}
use Rattle.chain_pool.proofs.entries.EntriesIterator.next.Goals as goal

pub returns-then-self-eq0-clause-steps : goal.returns-then-self-eq0-clause-steps
returns-then-self-eq0-clause-steps c = grind (arith, values-none)

pub entry-next-requires : goal.entry-next-requires
entry-next-requires c = grind (arith, first_entry)

pub invariant_of-self : goal.invariant_of-self
invariant_of-self c = grind (arith, rest_stack)

pub returns-clause-steps : goal.returns-clause-steps
returns-clause-steps c = grind (arith, values-first)

pub returns-clause-goes : goal.returns-clause-goes
returns-clause-goes c = grind (arith, values-first)

use Rattle.walk_files.proofs.Common.{◌≡◌, ◌++◌, times}
use Rattle.walk_files.proofs.groups.put_times.Given as goal

abbrev pub invariant-loop : goal.invariant-loop
invariant-loop l = l.walk ≡ l.fn.walk ++ times l.counter l.numbers

use Rattle.walk_files.proofs.Common.{◌≡◌, ◌++◌, take}
use Rattle.walk_files.proofs.groups.put_all.Given as goal

abbrev pub invariant-loop-number : goal.invariant-loop-number
invariant-loop-number l = l.walk ≡ l.fn.walk ++ take l.number-index l.numbers

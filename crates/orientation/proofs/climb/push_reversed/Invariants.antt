use Rattle.orientation.proofs.Common.{◌≡◌, ◌++◌, length, reverse}
use Rattle.orientation.proofs.climb.push_reversed.Given as goal

abbrev pub invariant-loop-last : goal.invariant-loop-last
invariant-loop-last l = l.chain ++ reverse l.links.items ≡ l.initial.chain ++ reverse l.initial.links.items

abbrev pub decreases-loop-last : goal.decreases-loop-last
decreases-loop-last l = length l.links.items

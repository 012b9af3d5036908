use Rattle.certify_commands.proofs.Common.{◌≡◌, take, component_at, renamed_moves}
use Rattle.certify_commands.proofs.finding.rename.Given as goal

abbrev pub invariant-loop-k : goal.invariant-loop-k
invariant-loop-k l =
    l.renamed ≡ record { moves = renamed_moves (component_at l.parts l.place) (take l.k l.list.moves); peak = l.list.peak }

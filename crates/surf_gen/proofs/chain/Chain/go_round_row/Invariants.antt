use Rattle.surf_gen.proofs.Common.{◌≡◌, ◌+◌, ◌-◌, ◌++◌, length, map, range_with_len, point, number}
use Rattle.surf_gen.proofs.chain.Chain.go_round_row.Given as goal

abbrev pub invariant-loop-column : goal.invariant-loop-column
invariant-loop-column l =
    record {
      passed : l.walk ≡ l.initial.walk ++ map (number l.self.grid) (map (point 0 (l.self.grid - 1)) (range_with_len 0 l.column));
      long : length l.walk ≡ length l.initial.walk + l.column;
    }

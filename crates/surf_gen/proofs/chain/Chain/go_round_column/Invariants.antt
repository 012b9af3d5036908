use Rattle.surf_gen.proofs.Common.{◌≡◌, ◌+◌, ◌-◌, ◌++◌, length, map, range_with_len, point, number}
use Rattle.surf_gen.proofs.chain.Chain.go_round_column.Given as goal

abbrev pub invariant-loop-row : goal.invariant-loop-row
invariant-loop-row l =
    record {
      passed :
          l.walk ≡ l.initial.walk ++ map (number l.self.grid) (map (λ row. point 0 row (l.self.grid - 1)) (range_with_len 0 l.row));
      long : length l.walk ≡ length l.initial.walk + l.row;
    }

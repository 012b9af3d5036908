use Rattle.surf_gen.proofs.Common.{◌≡◌, ◌++◌, map, range_with_len, point, part_text}
use Rattle.surf_gen.proofs.chain.Chain.put_row.Given as goal

abbrev pub invariant-loop-column : goal.invariant-loop-column
invariant-loop-column l =
    l.text.items ≡ l.initial.text.items ++ part_text l.self.genus l.self.grid l.part
    (map (point l.torus l.row) (range_with_len 0 l.column))

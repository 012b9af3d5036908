use Rattle.surf_gen.proofs.Common.{◌≡◌, ◌++◌, range_with_len, part_text, points_of_row}
use Rattle.std.specs.Prelude.{flat_map}
use Rattle.surf_gen.proofs.chain.Chain.put_torus.Given as goal

abbrev pub invariant-loop-row : goal.invariant-loop-row
invariant-loop-row l =
    l.text.items
    ≡ l.initial.text.items ++ part_text l.self.genus l.self.grid l.part
    (flat_map (points_of_row l.self.grid l.torus) (range_with_len 0 l.row))

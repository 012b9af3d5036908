use Rattle.surf_gen.proofs.Common.{◌≡◌, ◌++◌, range_with_len, part_text, points_of_torus}
use Rattle.std.specs.Prelude.{flat_map}
use Rattle.surf_gen.proofs.chain.Chain.put_part.Given as goal

abbrev pub invariant-loop-torus : goal.invariant-loop-torus
invariant-loop-torus l =
    l.text.items
    ≡ l.initial.text.items ++ part_text l.self.genus l.self.grid l.part
    (flat_map (points_of_torus l.self.grid) (range_with_len 0 l.torus))

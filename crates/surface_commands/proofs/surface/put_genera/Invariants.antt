use Rattle.surface_commands.proofs.Common.{◌≡◌, ◌++◌, take, map, genus_line}
use Rattle.surface_commands.proofs.surface.put_genera.Given as goal

abbrev pub invariant-loop-genus : goal.invariant-loop-genus
invariant-loop-genus l = l.lines.items ≡ l.initial.lines.items ++ map genus_line (take l.genus-index l.genera)

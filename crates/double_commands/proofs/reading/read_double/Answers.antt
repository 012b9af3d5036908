use Rattle.commands.proofs.Checking.{next_end}
use Rattle.commands.proofs.Running.{reads_ended}
use Rattle.commands.specs.Inputs.{mesh_in}
use Rattle.double_commands.specs.MeshDouble.{surface_doubled}
use Rattle.double_commands.proofs.reading.read_double.Goals as goal

pub returns : goal.returns
returns g c =
    reads_ended c.in_ok-faces.ensures.only_reads c.double_surface.ensures.no_fault
    (next_end (mesh_in (g.S.Shelf.held c.args.shelf.now) c.args.name.now) surface_doubled c.in_ok-faces.faces c.double_surface.result
    c.in_ok-faces.ensures.end c.double_surface.ensures.end)

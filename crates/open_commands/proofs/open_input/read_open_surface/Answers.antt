use Rattle.open_commands.proofs.Common.{reads_ended}
use Rattle.open_commands.proofs.OpenInputs.{surface_end}
use Rattle.open_commands.proofs.open_input.read_open_surface.Goals as goal

pub returns-clause-reads : goal.returns-clause-reads
returns-clause-reads g c =
    reads_ended c.in_ok-faces.ensures.only_reads c.open_surface_of.ensures.no_fault
    (surface_end (g.S.Shelf.held c.args.shelf.now) c.args.name.now c.in_ok-faces.faces c.open_surface_of.result c.in_ok-faces.ensures.end
    c.open_surface_of.ensures.mesh c.open_surface_of.ensures.end)

use Rattle.surface_commands.proofs.Common.{reads_ended}
use Rattle.surface_commands.proofs.Surfaces.{surface_end}
use Rattle.surface_commands.proofs.surface_input.read_surface.Goals as goal

pub returns-clause-reads : goal.returns-clause-reads
returns-clause-reads g c =
    reads_ended c.in_ok-faces.ensures.only_reads c.surface_of.ensures.no_fault
    (surface_end (g.S.Shelf.held c.args.shelf.now) c.args.name.now c.in_ok-faces.faces c.surface_of.result c.in_ok-faces.ensures.end
    c.surface_of.ensures.mesh c.surface_of.ensures.end)

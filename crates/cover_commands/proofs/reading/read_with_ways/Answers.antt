use Rattle.cover_commands.proofs.Common.{reads_ended}
use Rattle.cover_commands.proofs.CoverChecks.{file_end}
use Rattle.cover_commands.proofs.reading.read_with_ways.Goals as goal

pub returns-clause-reads : goal.returns-clause-reads
returns-clause-reads g c =
    reads_ended c.in_ok-faces.ensures.only_reads c.find_with_ways.ensures.no_fault
    (file_end (g.S.Shelf.held c.args.shelf.now) c.args.name.now c.in_ok-faces.faces c.find_with_ways.result c.in_ok-faces.ensures.end
    c.find_with_ways.ensures.end)

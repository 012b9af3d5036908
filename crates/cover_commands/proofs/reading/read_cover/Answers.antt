use Rattle.cover_commands.proofs.Common.{next_end, reads_ended, covered, seen, ways_in}
use Rattle.cover_commands.proofs.reading.read_cover.Goals as goal

pub returns : goal.returns
returns g c =
    reads_ended c.in_ok-on.ensures.reads.only_reads c.cover_on-cover.ensures.no_fault
    (next_end (ways_in (g.S.Shelf.held c.args.shelf.now) c.args.name.now) covered (seen c.in_ok-on.on) c.cover_on-cover.result
    c.in_ok-on.ensures.reads.end c.cover_on-cover.ensures.end)

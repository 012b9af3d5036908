use Rattle.cover_commands.proofs.Common.{reads_behind, Passes, Stops, lifts_behind, seen, seen_lifts, subst, Option, MatchResult, Files}
use Rattle.cover_commands.proofs.CoverChecks.{lifts_end}
use Rattle.cover_commands.proofs.lifting.read_lifts.Goals as goal

pub returns : goal.returns
returns g c =
    let files = g.S.Shelf.held c.args.shelf.now in
    let on = seen c.in_ok-on.on in
    let result = c.lift_read-lifts.result in
    reads_behind c.in_ok-on.ensures.reads.only_reads c.lift_read-lifts.ensures
    (lifts_end files c.args.mesh.now c.args.walks.now on result c.in_ok-on.ensures.reads.end
    (subst
    (λ (held : Option Files). MatchResult result (λ lifts. Passes (lifts_behind held c.args.walks.now on) (seen_lifts lifts))
    (Stops (lifts_behind held c.args.walks.now on))) c.in_ok-on.ensures.reads.only_reads.same_files c.lift_read-lifts.ensures.end))

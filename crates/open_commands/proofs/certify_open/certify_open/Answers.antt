use Rattle.open_commands.proofs.Common.{stops_first, pair_long, memory_no_fault, only_self, runs_faulty, runs_replied, runs_stopped, LeadsAtPeak, IsListWithin, MOST_OPEN_STEPS, list_answer, open_pair_in, subst, arith, HasFileSize}
use Rattle.surf_model.specs.Moves as moves
use Rattle.open_commands.proofs.Listing.{list_passes, found_reply, found_short}
use Rattle.open_commands.proofs.OpenInputs.{AreOpenWalks, open_walks}
use Rattle.open_commands.proofs.OpenOutcomes.{then_listed}
use Rattle.open_commands.proofs.certify_open.certify_open.Goals as goal
use Rattle.open_commands.proofs.certify_open.certify_open.Goals.{After-at-2}

pub returns-in_err-pair-clause-runs : goal.returns-in_err-pair-clause-runs
returns-in_err-pair-clause-runs g c =
    let stop = c.in_err-pair.field-0.0 in
    runs_stopped (λ none. none.0.0.0.0) c.from_residual.ensures.1 only_self c.in_err-pair.ensures.reads
    (stops_first (open_pair_in (g.S.Shelf.held c.args.shelf.now) c.args.mesh.now c.args.walks.now) then_listed stop
    c.in_err-pair.ensures.reads.end)

pub at-requires : goal.at-requires
at-requires g c = omega (arith, pair_long c.in_ok-pair.ensures.pair.walks)

pub at-requires-2 : goal.at-requires-2
at-requires-2 g c = omega (arith, pair_long c.in_ok-pair.ensures.pair.walks)

-- what is known of the two walks
walks : (g : _) (c : After-at-2 g)
    → AreOpenWalks c.in_ok-pair.pair.surface.mesh c.in_ok-pair.pair.walks.walks c.at.result.now c.at-2.result.now
walks g c =
    open_walks c.in_ok-pair.pair c.at.result.now c.at-2.result.now c.in_ok-pair.ensures.pair c.at.ensures c.at-2.ensures

pub lift_open-requires-clause-first : goal.lift_open-requires-clause-first
lift_open-requires-clause-first g c = (walks g c).are.first_walk

pub lift_open-requires-clause-second : goal.lift_open-requires-clause-second
lift_open-requires-clause-second g c = (walks g c).are.second_walk

pub lift_open-requires-clause-ends : goal.lift_open-requires-clause-ends
lift_open-requires-clause-ends g c = (walks g c).are.ends

pub lift_open-requires-clause-sides : goal.lift_open-requires-clause-sides
lift_open-requires-clause-sides g c = (walks g c).sides

pub lift_open-requires-clause-few : goal.lift_open-requires-clause-few
lift_open-requires-clause-few g c = (walks g c).few

pub returns-in_err-found-clause-runs : goal.returns-in_err-found-clause-runs
returns-in_err-found-clause-runs g c =
    runs_faulty (λ none. none.0.0.0.0) c.from_residual-in_err-found.ensures.1 c.in_ok-pair.ensures.reads.only_reads memory_no_fault tt

pub returns-clause-runs : goal.returns-clause-runs
returns-clause-runs g c =
    let pair = c.in_ok-pair.pair in
    let known = walks g (goal.at.returns-clause-runs g c).After-at-2 in
    let reply =
    found_reply pair.surface.mesh c.at.result.now c.at-2.result.now c.in_ok-found.found c.reply_with.result c.in_ok-found.ensures.moves
    c.in_ok-found.ensures.short c.reply_with.ensures.some c.reply_with.ensures.none in
    runs_replied (λ none. none.0.0.0.0) c.in_ok-pair.ensures.reads.only_reads
    (record {
      answer = list_answer pair.surface.mesh c.at.result.now c.at-2.result.now reply.decision;
      passes =
          list_passes (g.S.Shelf.held c.args.shelf.now) c.args.mesh.now c.args.walks.now pair reply.decision c.at.result.now
          c.at-2.result.now known.first_is known.second_is c.in_ok-pair.ensures.reads.end reply.right;
      is_answer = reply.is_reply;
    })

pub returns-clause-short : goal.returns-clause-short
returns-clause-short g c =
    let mesh = c.in_ok-pair.pair.surface.mesh in
    let known = walks g (goal.at.returns-clause-short g c).After-at-2 in
    c.reply_with.ensures.short mesh c.at.result.now c.at-2.result.now c.faces.ensures.parents.valid
    (subst HasFileSize c.faces.ensures.mesh c.len.ensures.small) known.sides known.are.first_walk
    (found_short c.in_ok-found.found (λ list. LeadsAtPeak mesh c.at.result.now list c.at-2.result.now) (IsListWithin MOST_OPEN_STEPS)
    (moves.Homotopic mesh c.at.result.now c.at-2.result.now → ⊥) c.in_ok-found.ensures.moves c.in_ok-found.ensures.short)

use Rattle.loop_commands.proofs.Common.{FreelyHomotopic, Freely, free_answer, loops_in, ◌≡◌, ℕ, List, arith, refl, ◌↔◌}
use Rattle.commands.proofs.Deciding.{at_places}
use Rattle.surface_commands.proofs.RunsOnWalks.{runs_asked, runs_refused_walks, runs_wanting}
use Rattle.loop_commands.proofs.LoopAnswers.{AreClosed, after_pair, loops_long, walks_of_pair}
use Rattle.loop_commands.proofs.loops.loops.Goals as goal

pub returns-in_err-pair : goal.returns-in_err-pair
returns-in_err-pair g c =
    let surface = c.in_ok-surface.surface in
    runs_refused_walks c.args.mesh.now surface.faces (λ files mesh. loops_in files c.args.walks.now mesh) after_pair
    c.in_ok-surface.ensures.reads c.in_err-pair.ensures.reads c.from_residual-in_err-pair.ensures.1
    (c.in_err-pair.ensures.reads.end surface.faces c.in_ok-surface.ensures.signed.table)

pub at-requires : goal.at-requires
at-requires g c =
    omega (arith, loops_long (c.in_ok-pair.ensures.loops c.in_ok-surface.surface.faces c.in_ok-surface.ensures.signed.table))

pub at-requires-2 : goal.at-requires-2
at-requires-2 g c =
    omega (arith, loops_long (c.in_ok-pair.ensures.loops c.in_ok-surface.surface.faces c.in_ok-surface.ensures.signed.table))

-- what is known of the two walks
walks : (g : _) (c : goal.After-at-2 g) → AreClosed c.in_ok-surface.surface.faces c.at.result.now c.at-2.result.now
walks g c =
    walks_of_pair (c.in_ok-pair.ensures.loops c.in_ok-surface.surface.faces c.in_ok-surface.ensures.signed.table) c.at.ensures
    c.at-2.ensures

pub decide_on-requires-clause-first : goal.decide_on-requires-clause-first
decide_on-requires-clause-first g c = (walks g c).first_closed

pub decide_on-requires-clause-second : goal.decide_on-requires-clause-second
decide_on-requires-clause-second g c = (walks g c).second_closed

pub returns-in_err-decision : goal.returns-in_err-decision
returns-in_err-decision g c =
    let surface = c.in_ok-surface.surface in
    runs_wanting c.args.mesh.now surface.faces (λ files mesh. loops_in files c.args.walks.now mesh) after_pair c.in_ok-surface.ensures.reads
    c.in_ok-pair.ensures.reads.only_reads c.from_residual-in_err-decision.ensures.1

pub returns : goal.returns
returns g c =
    let surface = c.in_ok-surface.surface in
    let pair = c.in_ok-pair.pair.walks in
    let decision = c.in_ok-decision.decision in
    runs_asked c.args.mesh.now surface.faces (λ files mesh. loops_in files c.args.walks.now mesh) after_pair c.in_ok-surface.ensures.reads
    pair c.in_ok-pair.ensures.reads.only_reads (c.in_ok-pair.ensures.reads.end surface.faces c.in_ok-surface.ensures.signed.table)
    (record {
      answer = free_answer decision;
      passes = (
        decision,
        refl,
        at_places (λ (a b : List ℕ). (decision ≡ Freely) ↔ FreelyHomotopic surface.faces a b) pair c.at.result.now c.at-2.result.now
            c.at.ensures c.at-2.ensures c.in_ok-decision.ensures,
      );
      is_answer = c.reply_on.ensures;
    })

use Rattle.pair_commands.proofs.Common.{err_no_fault, decisions_answer, pairs_in, refl}
use Rattle.surface_commands.proofs.RunsOnWalks.{runs_asked, runs_refused_read, runs_refused_walks}
use Rattle.pair_commands.proofs.PairChecks.{list_pass, list_stop, text_stop}
use Rattle.pair_commands.proofs.DecideOutcomes.{after_pairs}
use Rattle.pair_commands.proofs.decide.decide.Goals as goal

pub returns-in_err-walks : goal.returns-in_err-walks
returns-in_err-walks g c =
    let surface = c.in_ok-surface.surface in
    let stop = c.in_err-walks.field-0.0 in
    runs_refused_walks c.args.mesh.now surface.faces (λ files mesh. pairs_in files c.args.walks.now mesh) after_pairs
    c.in_ok-surface.ensures.reads c.in_err-walks.ensures c.from_residual-in_err-walks.ensures.1
    (text_stop (g.S.Shelf.held c.read_surface.new.shelf) c.args.walks.now surface.faces stop c.in_err-walks.ensures.end)

pub returns-in_err-decisions : goal.returns-in_err-decisions
returns-in_err-decisions g c =
    let surface = c.in_ok-surface.surface in
    let stop = c.in_err-decisions.field-0.0 in
    runs_refused_read c.args.mesh.now surface.faces (λ files mesh. pairs_in files c.args.walks.now mesh) after_pairs
    c.in_ok-surface.ensures.reads c.in_ok-walks.ensures.only_reads c.from_residual-in_err-decisions.ensures.1
    (err_no_fault stop c.in_err-decisions.ensures.no_fault)
    (list_stop (g.S.Shelf.held c.read_surface.new.shelf) c.args.walks.now surface.faces c.in_ok-walks.walks stop c.in_ok-walks.ensures.end
    c.in_err-decisions.ensures.ends)

pub returns : goal.returns
returns g c =
    let surface = c.in_ok-surface.surface in
    let walks = c.in_ok-walks.walks in
    let decisions = c.in_ok-decisions.decisions.items in
    let decided = c.in_ok-decisions.ensures.ends in
    runs_asked c.args.mesh.now surface.faces (λ files mesh. pairs_in files c.args.walks.now mesh) after_pairs c.in_ok-surface.ensures.reads
    walks c.in_ok-walks.ensures.only_reads
    (list_pass (g.S.Shelf.held c.read_surface.new.shelf) c.args.walks.now surface.faces walks c.in_ok-walks.ensures.end decided.pairs)
    (record { answer = decisions_answer decisions; passes = (decisions, refl, decided.right); is_answer = c.reply_on.ensures })

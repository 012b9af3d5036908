use Rattle.verify_commands.proofs.Common.{only_then, runs_read, runs_stopped, Passes, pair_in, Concludes, Stops, ℕ, List, subst, ◌∙◌, arith, Option, Files, walk_at, AreWalkPair, judged_file}
use Rattle.commands.proofs.Deciding.{pair_long, walks_of_pair, at_places}
use Rattle.verify_commands.proofs.Verifying.{concluded, walks_stop}
use Rattle.verify_commands.proofs.verify.verify.Goals as goal
use Rattle.verify_commands.proofs.verify.verify.Goals.{After-at-2}

pub returns-in_err-walks : goal.returns-in_err-walks
returns-in_err-walks g c =
    let faces = c.in_ok-faces.faces in
    let stop = c.in_err-walks.field-0.0 in
    let stops = c.in_err-walks.ensures.reads.end faces c.in_ok-sides.ensures.table in
    runs_stopped (λ none. none.0.0) c.from_residual-in_err-walks.ensures.1 c.in_ok-faces.ensures.only_reads c.in_err-walks.ensures.reads
    (walks_stop (g.S.Shelf.held c.args.shelf.now) c.args.mesh.now c.args.walks.now c.args.certificate.now faces stop
    c.in_ok-faces.ensures.end
    (subst (λ (files : Option Files). Stops (pair_in files c.args.walks.now faces) stop) c.in_ok-faces.ensures.only_reads.same_files stops))

pub at-requires : goal.at-requires
at-requires g c =
    omega (arith, pair_long (c.in_ok-walks.ensures.pair c.in_ok-faces.faces c.in_ok-sides.ensures.table))

pub at-requires-2 : goal.at-requires-2
at-requires-2 g c =
    omega (arith, pair_long (c.in_ok-walks.ensures.pair c.in_ok-faces.faces c.in_ok-sides.ensures.table))

pub returns : goal.returns
returns g c =
    let faces = c.in_ok-faces.faces in
    let walks = c.in_ok-walks.walks.walks in
    let certificate : List ℕ = c.args.certificate.now in
    let held : Option Files = g.S.Shelf.held c.args.shelf.now in
    let same = c.in_ok-faces.ensures.only_reads.same_files in
    let all_same = c.in_ok-walks.ensures.reads.only_reads.same_files ∙ same in
    let end : Concludes (judged_file held certificate faces (walk_at walks 0) (walk_at walks 1)) c.judge-reply.result =
    at_places (λ (a b : List ℕ). Concludes (judged_file held certificate faces a b) c.judge-reply.result) walks c.at.result.now
    c.at-2.result.now c.at.ensures c.at-2.ensures
    (subst (λ (files : Option Files). Concludes (judged_file files certificate faces c.at.result.now c.at-2.result.now)
    c.judge-reply.result) all_same c.judge-reply.ensures.end) in
    runs_read (λ none. none.0.0) (only_then c.in_ok-faces.ensures.only_reads c.in_ok-walks.ensures.reads.only_reads) c.judge-reply.ensures
    (concluded held c.args.mesh.now c.args.walks.now certificate faces walks c.judge-reply.result c.in_ok-faces.ensures.end
    (subst (λ (files : Option Files). Passes (pair_in files c.args.walks.now faces) walks) same
    (c.in_ok-walks.ensures.reads.end faces c.in_ok-sides.ensures.table))
    end)

-- what is known of the two walks
walks : (g : _) (c : After-at-2 g) → AreWalkPair c.in_ok-faces.faces c.at.result.now c.at-2.result.now
walks g c =
    walks_of_pair (c.in_ok-walks.ensures.pair c.in_ok-faces.faces c.in_ok-sides.ensures.table) c.at.ensures c.at-2.ensures

pub judge-reply-requires-clause-first : goal.judge-reply-requires-clause-first
judge-reply-requires-clause-first g c = (walks g (goal.at.judge-reply-requires-clause-first g c).After-at-2).first_walk

pub judge-reply-requires-clause-second : goal.judge-reply-requires-clause-second
judge-reply-requires-clause-second g c = (walks g (goal.at.judge-reply-requires-clause-second g c).After-at-2).second_walk

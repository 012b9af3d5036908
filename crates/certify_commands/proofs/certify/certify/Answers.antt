use Rattle.certify_commands.proofs.Common.{certificate_answer, certify_limits, limit_word, pair_long, walks_of_pair, fitting, Exactly, decision_of, arith, AreWalkPair}
use Rattle.commands.proofs.Running.{tells_no_fault}
use Rattle.commands.specs.Inputs.{pair_in}
use Rattle.surface_commands.proofs.RunsOnWalks.{runs_asked, runs_refused_next, runs_refused_walks, runs_wanting}
use Rattle.certify_commands.proofs.Certifying.{after_pair, certificate_found, limits_stop}
use Rattle.certify_commands.proofs.certify.certify.Goals as goal
use Rattle.certify_commands.proofs.certify.certify.Goals.{After-at-second}

pub returns-in_err-pair : goal.returns-in_err-pair
returns-in_err-pair g c =
    let surface = c.in_ok-surface.surface in
    runs_refused_walks c.args.mesh.now surface.faces (λ files mesh. pair_in files c.args.walks.now mesh) after_pair
    c.in_ok-surface.ensures.reads c.in_err-pair.ensures.reads c.from_residual-in_err-pair.ensures.1
    (c.in_err-pair.ensures.reads.end surface.faces c.in_ok-surface.ensures.signed.table)

pub at-first-requires : goal.at-first-requires
at-first-requires g c =
    omega (arith, pair_long (c.in_ok-pair.ensures.pair c.in_ok-surface.surface.faces c.in_ok-surface.ensures.signed.table))

pub at-second-requires : goal.at-second-requires
at-second-requires g c =
    omega (arith, pair_long (c.in_ok-pair.ensures.pair c.in_ok-surface.surface.faces c.in_ok-surface.ensures.signed.table))

-- the two walks are walks of the surface
walks : (g : _) (c : After-at-second g) → AreWalkPair c.in_ok-surface.surface.faces c.at-first.result.now c.at-second.result.now
walks g c =
    walks_of_pair (c.in_ok-pair.ensures.pair c.in_ok-surface.surface.faces c.in_ok-surface.ensures.signed.table) c.at-first.ensures
    c.at-second.ensures

pub returns-in_err-check : goal.returns-in_err-check
returns-in_err-check g c =
    let surface = c.in_ok-surface.surface in
    let pair = c.in_ok-pair.pair.walks in
    let stop = c.in_err-check.field-0.0 in
    let limit = c.in_err-check.ensures in
    runs_refused_next c.args.mesh.now surface.faces (λ files mesh. pair_in files c.args.walks.now mesh) after_pair
    c.in_ok-surface.ensures.reads pair c.in_ok-pair.ensures.reads.only_reads
    (c.in_ok-pair.ensures.reads.end surface.faces c.in_ok-surface.ensures.signed.table) c.from_residual-in_err-check.ensures.1
    (tells_no_fault (Exactly limit.0) stop limit.2)
    (limits_stop surface.faces pair c.at-first.result.now c.at-second.result.now limit.0 stop c.at-first.ensures c.at-second.ensures limit.1
    limit.2)

pub find_certificate-requires-clause-first : goal.find_certificate-requires-clause-first
find_certificate-requires-clause-first g c =
    (walks g (goal.at.find_certificate-requires-clause-first g c).After-at-second).first_walk

pub find_certificate-requires-clause-second : goal.find_certificate-requires-clause-second
find_certificate-requires-clause-second g c =
    (walks g (goal.at.find_certificate-requires-clause-second g c).After-at-second).second_walk

pub find_certificate-requires-clause-ends : goal.find_certificate-requires-clause-ends
find_certificate-requires-clause-ends g c = (walks g (goal.at.find_certificate-requires-clause-ends g c).After-at-second).ends

pub find_certificate-requires-clause-limits : goal.find_certificate-requires-clause-limits
find_certificate-requires-clause-limits g c =
    fitting certify_limits limit_word c.in_ok-surface.surface.faces c.at-first.result.now c.at-second.result.now c.in_ok-check.ensures

pub returns : goal.returns
returns g c =
    let surface = c.in_ok-surface.surface in
    let pair = c.in_ok-pair.pair.walks in
    let first = c.at-first.result.now in
    let second = c.at-second.result.now in
    let shown = c.in_ok-shown.shown in
    runs_asked c.args.mesh.now surface.faces (λ files mesh. pair_in files c.args.walks.now mesh) after_pair c.in_ok-surface.ensures.reads
    pair c.in_ok-pair.ensures.reads.only_reads (c.in_ok-pair.ensures.reads.end surface.faces c.in_ok-surface.ensures.signed.table)
    (record {
      answer = certificate_answer surface.faces first second (decision_of shown);
      passes =
          certificate_found surface.faces pair first second shown c.in_ok-surface.ensures.signed.valid
          (walks g (goal.at.returns g c).After-at-second).first_walk c.at-first.ensures c.at-second.ensures c.in_ok-check.ensures
          c.in_ok-shown.ensures.0;
      is_answer = c.reply_with.ensures surface.faces first second c.in_ok-shown.ensures;
    })

pub returns-in_err-shown : goal.returns-in_err-shown
returns-in_err-shown g c =
    let surface = c.in_ok-surface.surface in
    runs_wanting c.args.mesh.now surface.faces (λ files mesh. pair_in files c.args.walks.now mesh) after_pair c.in_ok-surface.ensures.reads
    c.in_ok-pair.ensures.reads.only_reads c.from_residual-in_err-shown.ensures.1

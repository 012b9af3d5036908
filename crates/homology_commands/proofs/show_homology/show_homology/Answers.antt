use Rattle.homology_commands.proofs.Common.{ShowsHomology, answer_in, pair_in, homology_answer, ◌≡◌, List, ℕ, ap, arith, refl, get_or_from_slice_get, walk_at, darts, AreWalkPair}
use Rattle.commands.proofs.Deciding.{pair_long, walks_of_pair, at_places}
use Rattle.surface_commands.proofs.RunsOnWalks.{runs_asked, runs_refused_walks, runs_wanting}
use Rattle.homology_commands.proofs.CertificateLemmas.{answer_decides}
use Rattle.homology_commands.proofs.HomologyAnswers.{after_pair}
use Rattle.homology_commands.proofs.ShortWalks.{few_darts}
use Rattle.homology_commands.proofs.show_homology.show_homology.Goals as goal
use Rattle.homology_commands.proofs.show_homology.show_homology.Goals.{After-at-2}

pub returns-in_err-pair : goal.returns-in_err-pair
returns-in_err-pair g c =
    let surface = c.in_ok-surface.surface in
    runs_refused_walks c.args.mesh.now surface.faces (λ files mesh. pair_in files c.args.walks.now mesh) after_pair
    c.in_ok-surface.ensures.reads c.in_err-pair.ensures.reads c.from_residual-in_err-pair.ensures.1
    (c.in_err-pair.ensures.reads.end surface.faces c.in_ok-surface.ensures.signed.table)

pub at-requires : goal.at-requires
at-requires g c =
    omega (arith, pair_long (c.in_ok-pair.ensures.pair c.in_ok-surface.surface.faces c.in_ok-surface.ensures.signed.table))

pub at-requires-2 : goal.at-requires-2
at-requires-2 g c =
    omega (arith, pair_long (c.in_ok-pair.ensures.pair c.in_ok-surface.surface.faces c.in_ok-surface.ensures.signed.table))

-- what is known of the two walks
walks : (g : _) (c : After-at-2 g) → AreWalkPair c.in_ok-surface.surface.faces c.at.result.now c.at-2.result.now
walks g c =
    walks_of_pair (c.in_ok-pair.ensures.pair c.in_ok-surface.surface.faces c.in_ok-surface.ensures.signed.table) c.at.ensures c.at-2.ensures

pub find_certificate-requires-clause-first : goal.find_certificate-requires-clause-first
find_certificate-requires-clause-first g c = (walks g c).first_walk

pub find_certificate-requires-clause-second : goal.find_certificate-requires-clause-second
find_certificate-requires-clause-second g c = (walks g c).second_walk

pub find_certificate-requires-clause-ends : goal.find_certificate-requires-clause-ends
find_certificate-requires-clause-ends g c = (walks g c).ends

pub find_certificate-requires-clause-few : goal.find_certificate-requires-clause-few
find_certificate-requires-clause-few g c =
    let surface = c.in_ok-surface.surface.faces in
    let pair = c.in_ok-pair.pair.walks in
    let passed = c.in_ok-pair.ensures.reads.end surface c.in_ok-surface.ensures.signed.table in
    let first : walk_at pair 0 ≡ c.at.result.now = get_or_from_slice_get pair 0 c.at.result.now _ c.at.ensures in
    let second : walk_at pair 1 ≡ c.at-2.result.now = get_or_from_slice_get pair 1 c.at-2.result.now _ c.at-2.ensures in
    let long = pair_long (c.in_ok-pair.ensures.pair surface c.in_ok-surface.ensures.signed.table) in
    omega (arith, few_darts _ _ surface pair passed long, ap darts first, ap darts second)

pub returns-in_err-shown : goal.returns-in_err-shown
returns-in_err-shown g c =
    let surface = c.in_ok-surface.surface in
    runs_wanting c.args.mesh.now surface.faces (λ files mesh. pair_in files c.args.walks.now mesh) after_pair c.in_ok-surface.ensures.reads
    c.in_ok-pair.ensures.reads.only_reads c.from_residual-in_err-shown.ensures.1

pub returns : goal.returns
returns g c =
    let surface = c.in_ok-surface.surface in
    let pair = c.in_ok-pair.pair.walks in
    let shown = c.in_ok-shown.shown in
    let known = at_places (AreWalkPair surface.faces) pair c.at.result.now c.at-2.result.now c.at.ensures c.at-2.ensures
    (walks g (goal.at.returns g c).After-at-2) in
    let shows = at_places (λ (a b : List ℕ). ShowsHomology surface.faces a b shown) pair c.at.result.now c.at-2.result.now c.at.ensures
    c.at-2.ensures c.in_ok-shown.ensures in
    runs_asked c.args.mesh.now surface.faces (λ files mesh. pair_in files c.args.walks.now mesh) after_pair c.in_ok-surface.ensures.reads
    pair c.in_ok-pair.ensures.reads.only_reads (c.in_ok-pair.ensures.reads.end surface.faces c.in_ok-surface.ensures.signed.table)
    (record {
      answer = homology_answer surface.faces (walk_at pair 0) (walk_at pair 1) (answer_in shown);
      passes = (
        answer_in shown,
        refl,
        answer_decides surface.faces (walk_at pair 0) (walk_at pair 1) shown known.first_walk known.second_walk shows,
      );
      is_answer = c.reply_with.ensures surface.faces (walk_at pair 0) (walk_at pair 1) shows;
    })

use Rattle.homotopy_arrays.proofs.Common.{IsCertificateFor, IsCertifyLimitFault, no_memory, IsChecked, AreWalks, Pair, Faulty, ◌≡◌, ◌⊎◌, List, ℕ, arith, refl, sym, subst, inl, inr, MatchResult}
use Rattle.homotopy_arrays.proofs.CertificationLemmas.{on_walks}
use Rattle.homotopy_arrays.proofs.JudgementLemmas.{first_of, second_of, two_walks}
use Rattle.homotopy_arrays.proofs.certify.certify_on.Goals as goal
use Rattle.homotopy_arrays.proofs.certify.certify_on.Goals.{In-Pair}

are_checked : (c : In-Pair) → IsChecked c.args.surface.faces c.args.first.now c.args.second.now (Pair c.in-Pair.walks)
are_checked c =
    subst (IsChecked c.args.surface.faces c.args.first.now c.args.second.now) c.in-Pair.is
    (c.in_ok-walks.ensures c.args.surface.faces c.requires.table)

pub at-requires : goal.at-requires
at-requires c =
    omega (
      arith,
      two_walks c.in-Pair.walks.walks c.args.first.now c.args.second.now (are_checked (goal.at.at-requires c).In-Pair).1,
    )

pub at-requires-in-Pair : goal.at-requires-in-Pair
at-requires-in-Pair c =
    two_walks c.in-Pair.walks.walks c.args.first.now c.args.second.now (are_checked (goal.at.at-requires-in-Pair c).In-Pair).1

pub certify_walks-requires-clause-walks : goal.certify_walks-requires-clause-walks
certify_walks-requires-clause-walks c =
    let mesh = c.args.surface.faces in
    let first : List ℕ = c.args.first.now in
    let second : List ℕ = c.args.second.now in
    let checked = are_checked (goal.at.certify_walks-requires-clause-walks c).In-Pair in
    let one = first_of c.in-Pair.walks.walks first second c.at.result.now checked.1 c.at.ensures in
    let other = second_of c.in-Pair.walks.walks first second c.at-in-Pair.result.now checked.1 c.at-in-Pair.ensures in
    subst (AreWalks mesh c.at.result.now) other (subst (λ (w : List ℕ). AreWalks mesh w second) one checked.0)

pub returns-in-Pair : goal.returns-in-Pair
returns-in-Pair c =
    let mesh = c.args.surface.faces in
    let first : List ℕ = c.args.first.now in
    let second : List ℕ = c.args.second.now in
    let checked = are_checked (goal.at.returns-in-Pair c).In-Pair in
    let one = sym (first_of c.in-Pair.walks.walks first second c.at.result.now checked.1 c.at.ensures) in
    let other = sym (second_of c.in-Pair.walks.walks first second c.at-in-Pair.result.now checked.1 c.at-in-Pair.ensures) in
    on_walks mesh first second c.certify_walks.result checked.0
    (subst (λ (w : List ℕ). MatchResult c.certify_walks.result (IsCertificateFor mesh first w)
    (λ fault. (fault ≡ no_memory) ⊎ IsCertifyLimitFault mesh first w fault)) other
    (subst (λ (w : List ℕ). MatchResult c.certify_walks.result (IsCertificateFor mesh w c.at-in-Pair.result.now)
    (λ fault. (fault ≡ no_memory) ⊎ IsCertifyLimitFault mesh w c.at-in-Pair.result.now fault)) one c.certify_walks.ensures))

pub returns-in-Faulty : goal.returns-in-Faulty
returns-in-Faulty c =
    let mesh = c.args.surface.faces in
    let first : List ℕ = c.args.first.now in
    let second : List ℕ = c.args.second.now in
    let checked : IsChecked mesh first second (Faulty c.in-Faulty.fault) =
    subst (IsChecked mesh first second) c.in-Faulty.is (c.in_ok-walks.ensures mesh c.requires.table) in
    inr (inl (c.in-Faulty.fault, checked.0, checked.1, refl))

use Rattle.homotopy_arrays.proofs.Common.{IsChecked, IsArrayVerdict, Pair, Faulty, ◌≡◌, List, ℕ, arith, refl, sym, subst, inr, IsWalk}
use Rattle.homotopy_arrays.proofs.JudgementLemmas.{first_of, second_of, two_walks}
use Rattle.homotopy_arrays.proofs.verify_homology.verify_walks.Goals as goal
use Rattle.homotopy_arrays.proofs.verify_homology.verify_walks.Goals.{In-Pair}

are_checked : (c : In-Pair) → IsChecked c.args.on.faces.now c.args.first.now c.args.second.now (Pair c.in-Pair.walks)
are_checked c =
    subst (IsChecked c.args.on.faces.now c.args.first.now c.args.second.now) c.in-Pair.is
    (c.in_ok-walks.ensures c.args.on.faces.now c.requires)

pub at-requires : goal.at-requires
at-requires c =
    omega (
      arith,
      two_walks c.in-Pair.walks.walks c.args.first.now c.args.second.now (are_checked (goal.at.at-requires c).In-Pair).1,
    )

pub at-requires-in-Pair : goal.at-requires-in-Pair
at-requires-in-Pair c =
    two_walks c.in-Pair.walks.walks c.args.first.now c.args.second.now (are_checked (goal.at.at-requires-in-Pair c).In-Pair).1

pub judge-requires-clause-first : goal.judge-requires-clause-first
judge-requires-clause-first c =
    let first : List ℕ = c.args.first.now in
    let second : List ℕ = c.args.second.now in
    let checked = are_checked (goal.at.judge-requires-clause-first c).In-Pair in
    subst (IsWalk c.args.on.faces.now) (first_of c.in-Pair.walks.walks first second c.at.result.now checked.1 c.at.ensures)
    checked.0.first_walk

pub judge-requires-clause-second : goal.judge-requires-clause-second
judge-requires-clause-second c =
    let first : List ℕ = c.args.first.now in
    let second : List ℕ = c.args.second.now in
    let checked = are_checked (goal.at.judge-requires-clause-second c).In-Pair in
    subst (IsWalk c.args.on.faces.now) (second_of c.in-Pair.walks.walks first second c.at-in-Pair.result.now checked.1 c.at-in-Pair.ensures)
    checked.0.second_walk

pub returns-in_ok-verdict-in-Pair : goal.returns-in_ok-verdict-in-Pair
returns-in_ok-verdict-in-Pair c =
    let faces = c.args.on.faces.now in
    let first : List ℕ = c.args.first.now in
    let second : List ℕ = c.args.second.now in
    let numbers = c.args.numbers.now in
    let verdict = c.in_ok-verdict-in-Pair.verdict in
    let walks = c.in-Pair.walks.walks in
    let checked = are_checked (goal.at.returns-in_ok-verdict-in-Pair c).In-Pair in
    let one : c.at.result.now ≡ first = sym (first_of walks first second c.at.result.now checked.1 c.at.ensures) in
    let other : c.at-in-Pair.result.now ≡ second =
    sym (second_of walks first second c.at-in-Pair.result.now checked.1 c.at-in-Pair.ensures) in (
      checked.0,
      subst (λ (w : List ℕ). IsArrayVerdict faces first w c.args.claim numbers verdict) other
          (subst (λ (w : List ℕ). IsArrayVerdict faces w c.at-in-Pair.result.now c.args.claim numbers verdict) one
          c.in_ok-verdict-in-Pair.ensures),
    )

pub returns-in-Faulty : goal.returns-in-Faulty
returns-in-Faulty c =
    let first : List ℕ = c.args.first.now in
    let second : List ℕ = c.args.second.now in
    let checked : IsChecked c.args.on.faces.now first second (Faulty c.in-Faulty.fault) =
    subst (IsChecked c.args.on.faces.now first second) c.in-Faulty.is (c.in_ok-walks.ensures c.args.on.faces.now c.requires) in
    inr (c.in-Faulty.fault, checked.0, checked.1, refl)

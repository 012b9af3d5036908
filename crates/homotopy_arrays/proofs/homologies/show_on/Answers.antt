use Rattle.homotopy_arrays.proofs.Common.{IsChecked, AreLong, AreShownAs, Sized, mesh_asked, AreWalks, Pair, Faulty, ◌≡◌, ◌⊎◌, List, ℕ, arith, refl, sym, subst, inl, inr, MatchResult}
use Rattle.homotopy_arrays.specs.Homologies.{no_memory}
use Rattle.homotopy_arrays.proofs.HomologyLemmas.{shown_on_walks}
use Rattle.homotopy_arrays.proofs.JudgementLemmas.{first_of, second_of, two_walks}
use Rattle.homotopy_arrays.proofs.homologies.show_on.Goals as goal
use Rattle.homotopy_arrays.proofs.homologies.show_on.Goals.{In-Pair}

are_checked : (c : In-Pair) → IsChecked (mesh_asked c.args.surface) c.args.first.now c.args.second.now (Pair c.in-Pair.walks)
are_checked c =
    subst (IsChecked (mesh_asked c.args.surface) c.args.first.now c.args.second.now) c.in-Pair.is
    (c.in_ok-walks.ensures (mesh_asked c.args.surface) c.table_of.ensures)

pub at-requires : goal.at-requires
at-requires c =
    omega (
      arith,
      two_walks c.in-Pair.walks.walks c.args.first.now c.args.second.now (are_checked (goal.at.at-requires c).In-Pair).1,
    )

pub at-requires-in-Pair : goal.at-requires-in-Pair
at-requires-in-Pair c =
    two_walks c.in-Pair.walks.walks c.args.first.now c.args.second.now (are_checked (goal.at.at-requires-in-Pair c).In-Pair).1

pub show_walks-requires-clause-walks : goal.show_walks-requires-clause-walks
show_walks-requires-clause-walks c =
    let mesh = mesh_asked c.args.surface in
    let first : List ℕ = c.args.first.now in
    let second : List ℕ = c.args.second.now in
    let checked = are_checked (goal.at.show_walks-requires-clause-walks c).In-Pair in
    let one = first_of c.in-Pair.walks.walks first second c.at.result.now checked.1 c.at.ensures in
    let other = second_of c.in-Pair.walks.walks first second c.at-in-Pair.result.now checked.1 c.at-in-Pair.ensures in
    subst (AreWalks mesh c.at.result.now) other (subst (λ (w : List ℕ). AreWalks mesh w second) one checked.0)

pub returns-in-Pair : goal.returns-in-Pair
returns-in-Pair c =
    let mesh = mesh_asked c.args.surface in
    let first : List ℕ = c.args.first.now in
    let second : List ℕ = c.args.second.now in
    let checked = are_checked (goal.at.returns-in-Pair c).In-Pair in
    let one = sym (first_of c.in-Pair.walks.walks first second c.at.result.now checked.1 c.at.ensures) in
    let other = sym (second_of c.in-Pair.walks.walks first second c.at-in-Pair.result.now checked.1 c.at-in-Pair.ensures) in
    shown_on_walks (Sized c.args.surface) mesh first second c.show_walks.result checked.0
    (subst (λ (w : List ℕ). MatchResult c.show_walks.result (AreShownAs (Sized c.args.surface) mesh first w)
    (λ fault. (fault ≡ no_memory) ⊎ AreLong first w fault)) other
    (subst (λ (w : List ℕ). MatchResult c.show_walks.result (AreShownAs (Sized c.args.surface) mesh w c.at-in-Pair.result.now)
    (λ fault. (fault ≡ no_memory) ⊎ AreLong w c.at-in-Pair.result.now fault)) one c.show_walks.ensures))

pub returns-in-Faulty : goal.returns-in-Faulty
returns-in-Faulty c =
    let mesh = mesh_asked c.args.surface in
    let first : List ℕ = c.args.first.now in
    let second : List ℕ = c.args.second.now in
    let checked : IsChecked mesh first second (Faulty c.in-Faulty.fault) =
    subst (IsChecked mesh first second) c.in-Faulty.is (c.in_ok-walks.ensures mesh c.table_of.ensures) in
    inr (inl (c.in-Faulty.fault, checked.0, checked.1, refl))

use Rattle.homotopy_arrays.proofs.Common.{AreListed, length_fault, Pair, Faulty, List, ℕ, [], ◌∷◌, refl, sym, ap, subst, false, ◌∙◌, both_ways, option_map, IsPair, pair_fault}
use Rattle.homotopy_arrays.specs.declared.pair.WalkFault.TheVariants as faults
use Rattle.homotopy_arrays.proofs.PairLemmas.{lengths_bad, length_good, no_pair, told_first, walks_of_pair}
use Rattle.homotopy_arrays.proofs.pair.check_walks.Goals as goal
use Rattle.homotopy_arrays.proofs.pair.check_walks.Goals.{In-Pair}

listed : (c : In-Pair) → AreListed c.args.first.now c.args.second.now (Pair c.in-Pair.pair)
listed c = rw c.in-Pair.is at c.in_ok-pair.ensures

pub returns-in-Faulty : goal.returns-in-Faulty
returns-in-Faulty c =
    let e : AreListed c.args.first.now c.args.second.now (Faulty c.in-Faulty.fault) = rw c.in-Faulty.is at c.in_ok-pair.ensures in
    λ mesh _. (
      told_first (length_fault 1 c.args.first.now) (length_fault 2 c.args.second.now)
          (option_map faults.Pair (pair_fault mesh (c.args.first.now ∷ c.args.second.now ∷ []))) c.in-Faulty.fault e,
      λ are. lengths_bad c.args.first.now c.args.second.now c.in-Faulty.fault e are.first_walk.starts are.second_walk.starts are.few,
    )

pub returns-in-Ok : goal.returns-in-Ok
returns-in-Ok c =
    let first : List ℕ = c.args.first.now in
    let second : List ℕ = c.args.second.now in
    let are = listed (goal.at.returns-in-Ok c).In-Pair in
    λ mesh table. (
      walks_of_pair mesh first second (subst (IsPair mesh) are.0 ((c.in-Ok.ensures.pair mesh table).0 refl))
          ((length_good 1 first are.1).1, (length_good 2 second are.2).1),
      are.0,
    )

pub returns-in-Err : goal.returns-in-Err
returns-in-Err c =
    let are = listed (goal.at.returns-in-Err c).In-Pair in
    λ mesh table. no_pair mesh c.args.first.now c.args.second.now c.in-Err.fault are.1 are.2
    (c.in-Err.ensures.fault mesh table ∙ ap (pair_fault mesh) are.0)
    (λ is. both_ways false refl ((c.in-Err.ensures.pair mesh table).1 (subst (IsPair mesh) (sym are.0) is)))

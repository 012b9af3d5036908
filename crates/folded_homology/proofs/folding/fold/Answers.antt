use Rattle.std.proofs.Common.{◌≡◌, ◌+◌, ◌+ℤ◌, ◌∙◌, List, ℕ, ℤ, ap, arith, subst, take}
use Rattle.std.specs.Prelude.{neg_ℤ}
use Rattle.homology.specs.ArrayCertificates.{AreChainNumbers, AreCocycleNumbers, AreSmall, DoShow}
use Rattle.homology.specs.Tallies.{number_at}
use Rattle.doubling.specs.Doubles.{double_of}
use Rattle.folded_homology.proofs.FoldedNumbers.{chain_shown, cocycle_shown, mirrors_there}
use Rattle.folded_homology.proofs.folding.fold.Goals as goal
use Rattle.folded_homology.proofs.folding.fold.Goals.{In-Chain}

-- on the double they are a chain
on_double : (c : In-Chain) (first second : List ℕ) → DoShow (double_of c.args.faces.now) first second c.args.numbers
    → AreChainNumbers (double_of c.args.faces.now) first second c.in-Chain.of_face.items
on_double c first second shows = subst (DoShow (double_of c.args.faces.now) first second) c.in-Chain.is shows

pub fold_chain-requires-clause-mirrors : goal.fold_chain-requires-clause-mirrors
fold_chain-requires-clause-mirrors c =
    let show = c.requires.show in
    let are = on_double (goal.at.fold_chain-requires-clause-mirrors c).In-Chain show.0 show.1 show.2 in
    omega (arith, mirrors_there c.args.faces.now show.0 show.1 c.in-Chain.of_face.items are, c.len-count.ensures.count)

pub fold_chain-requires-clause-small : goal.fold_chain-requires-clause-small
fold_chain-requires-clause-small c = subst AreSmall c.in-Chain.is c.requires.small

pub returns-in-Chain-clause-show : goal.returns-in-Chain-clause-show
returns-in-Chain-clause-show c = λ first second w v shows.
    let mesh = c.args.faces.now in
    let numbers : List ℤ = c.in-Chain.of_face.items in
    let folded : List ℤ = c.fold_chain.result.items in
    let are = on_double (goal.at.returns-in-Chain-clause-show c).In-Chain first second shows in
    chain_shown mesh first second numbers folded c.len-count.ensures.valid w v are
    (c.fold_chain.ensures.count ∙ c.len-count.ensures.count)
    (λ f l. subst (λ n. number_at folded f ≡ number_at numbers f +ℤ neg_ℤ (number_at numbers (n + f))) c.len-count.ensures.count
    (c.fold_chain.ensures.numbers f (omega (arith, l, c.len-count.ensures.count))))

pub returns-in-Cocycle-clause-show : goal.returns-in-Cocycle-clause-show
returns-in-Cocycle-clause-show c = λ first second w v shows.
    let mesh = c.args.faces.now in
    let are : AreCocycleNumbers (double_of mesh) first second c.in-Cocycle.of_side.items =
    subst (DoShow (double_of mesh) first second) c.in-Cocycle.is shows in
    cocycle_shown mesh first second c.in-Cocycle.of_side.items c.first_ones.result.items are
    (c.first_ones.ensures ∙ ap (λ n. take n c.in-Cocycle.of_side.items) c.total.ensures)

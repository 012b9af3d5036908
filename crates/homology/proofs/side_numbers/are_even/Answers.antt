use Rattle.homology.proofs.Common.{side_numbers, AreTableNumbers, number_at, MOST_NUMBER, ◌≡◌, ◌<◌, ◌≤◌, ℕ, true, false, List, length, get_or, sym, ap, ◌∙◌, subst, arith, ℤ, pos, of_z, w64, take, common_steps, take_more, get_or_default, unsigned_abs}
use Rattle.homology.proofs.SizeLemmas.{sent}
use Rattle.homology.proofs.SideNumberLemmas.{length-side_numbers, side_is, side_more}
use Rattle.homology.proofs.side_numbers.are_even.Goals as goal
use Rattle.homology.proofs.side_numbers.are_even.Goals.{After-number_of_dart}

-- what the edge gives to the side
given : (c : After-number_of_dart) (number : ℕ → ℕ → ℤ) → AreTableNumbers c.args.sides.now c.args.of_edge.now number
    → get_or (side_numbers c.args.faces.now number) c.loop-dart.dart c.number_of_dart.result ≡ c.number_of_dart.result
given c number are = grind (arith, side_is)

pub returns-then-number_of_dart-of_side : goal.returns-then-number_of_dart-of_side
returns-then-number_of_dart-of_side c = λ number are.
    let d : ℕ = c.loop-dart.dart in
    let r : ℤ = c.number_of_dart.result in
    let few : d < length (side_numbers c.args.faces.now number) = grind (arith, length-side_numbers) in
    let here = given (goal.at.returns-then-number_of_dart-of_side c).After-number_of_dart number are in (
      λ f. (let both : false ≡ true = f in cc),
      λ even.
          absurd (c.if-number_of_dart-of_side.true (ap (of_z w64)
          (sym here ∙ get_or_default (side_numbers c.args.faces.now number) d r (pos 0) few
          ∙ ap (λ (xs : List ℤ). number_at xs d) (sym even)))),
    )

pub loop-dart-preserved : goal.loop-dart-preserved
loop-dart-preserved c = λ number are.
    let d : ℕ = c.loop-dart.dart in
    let r : ℤ = c.number_of_dart.result in
    let n : ℤ = number_at c.args.of_side.now d in
    let there : d < length c.args.of_side.now = omega (arith, c.loop-dart-test.true, c.total-dart-end.ensures, c.requires.sides) in
    let small : unsigned_abs n ≤ MOST_NUMBER = c.requires.of_side.each d in
    let same : r ≡ n = grind (arith, sent) in
    let here = given (goal.at.loop-dart-preserved c).After-number_of_dart number are in
    side_more c.args.faces.now number (take d c.args.of_side.now) _ d n (omega (arith, c.loop-dart-test.true, c.total-dart-end.ensures))
    (subst (λ z. get_or (side_numbers c.args.faces.now number) d z ≡ z) same here)
    (take_more c.args.of_side.now d (pos 0) there) (c.loop-dart.invariant number are)

pub returns : goal.returns
returns c = grind (arith, common_steps, length-side_numbers)

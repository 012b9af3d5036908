use Rattle.homology.proofs.Common.{AreTableNumbers, List, ℤ, sym, subst, arith, rules, IsTrue}
use Rattle.homology.proofs.SideNumberLemmas.{are_numbers_in, number_in}
use Rattle.homology.proofs.array_check.check_cocycle_array.Goals as goal

pub returns : goal.returns
returns c =
    let mesh = c.args.faces.now in
    let table = c.args.sides.now in
    let items : List ℤ = c.in_ok-of_edge.of_edge.items in
    let own : AreTableNumbers table items (number_in table items) =
    are_numbers_in mesh table items c.requires.table c.in_ok-of_edge.ensures.long in
    let even = c.are_even.ensures (number_in table items)
    (subst (λ (xs : List ℤ). AreTableNumbers table xs (number_in table items)) (sym c.deref.ensures.value) own) in
    let passed : IsTrue c.are_even.result = search rules in (
      omega (arith, c.total.ensures),
      c.in_default.ensures.none,
      (number_in table items, even.0 passed),
      λ number e.
          c.judge_edges.ensures number
          (subst (λ (xs : List ℤ). AreTableNumbers table xs number) (sym c.deref-2.ensures.value)
          (c.in_ok-of_edge.ensures.numbers number e)),
    )

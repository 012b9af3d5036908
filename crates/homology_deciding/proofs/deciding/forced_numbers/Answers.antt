use Rattle.homology_deciding.proofs.Common.{height_of, ℤ, List, ap, sym, ◌∙◌, arith, Option}
use Rattle.homology_deciding.proofs.LoopLemmas.{height_small, forced_from, if_ok}
use Rattle.homology_deciding.proofs.deciding.forced_numbers.Goals as goal

pub as_listed-requires-clause-small : goal.as_listed-requires-clause-small
as_listed-requires-clause-small c = λ f height is.
    omega (
      arith,
      height_small c.args.tree.now c.requires.tree c.args.counts.now c.requires.small c.in_ok-heights.heights.items f height
          c.in_ok-heights.ensures.heights (ap (λ (xs : List (Option ℤ)). height_of xs f) (sym c.deref.ensures.value) ∙ is),
    )

pub returns : goal.returns
returns c =
    if_ok c.as_listed.result c.as_listed.ensures.each_face c.as_listed.ensures.numbers
    (λ numbers long each.
    forced_from c.args.tree.now c.args.counts.now numbers.items c.in_ok-heights.heights.items c.in_ok-heights.ensures.heights
    c.in_ok-heights.ensures.all long
    (λ f height is. each f height (ap (λ (xs : List (Option ℤ)). height_of xs f) c.deref.ensures.value ∙ is)))

use Rattle.component_deciding.proofs.Common.{ℕ, ◌+◌, List, [], ◌∷◌, length, get_or, ap, ◌∙◌, arith, length-append, Box, None, Option, LabelledView}
use Rattle.component_deciding.proofs.WordLemmas.{none_more}
use Rattle.component_deciding.proofs.several_words.none_labelled.Goals as goal

pub loop-init : goal.loop-init
loop-init c = record {
  each = ap (λ (xs : List (Option (Box LabelledView))). length xs) c.in_ok-labelled.ensures.items;
  none = λ k. ap (λ (xs : List (Option (Box LabelledView))). get_or xs k None) c.in_ok-labelled.ensures.items;
}

pub loop-preserved : goal.loop-preserved
loop-preserved c = record {
  each = ap (λ (xs : List (Option (Box LabelledView))). length xs) c.in_ok-push.ensures.items
      ∙ length-append c.loop.labelled.items (None ∷ []) ∙ ap (λ (n : ℕ). n + 1) c.loop.invariant.each;
  none = λ k. ap (λ (xs : List (Option (Box LabelledView))). get_or xs k None) c.in_ok-push.ensures.items
      ∙ none_more c.loop.labelled.items c.loop.invariant.none k;
}

pub returns-clause-none : goal.returns-clause-none
returns-clause-none c = c.loop.invariant.none

pub returns-clause-each : goal.returns-clause-each
returns-clause-each c = omega (arith, c.loop.invariant.each, c.loop-test.false, c.loop.auto.counter-end)

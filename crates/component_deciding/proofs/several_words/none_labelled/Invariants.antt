use Rattle.component_deciding.proofs.Common.{◌≡◌, ℕ, length, get_or, None}
use Rattle.component_deciding.proofs.several_words.none_labelled.Given as goal

abbrev pub invariant-loop : goal.invariant-loop
invariant-loop l = record {
  each : length l.labelled.items ≡ l.counter;
  none : (k : ℕ) → get_or l.labelled.items k None ≡ None;
}

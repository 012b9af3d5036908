use Rattle.text_scan.proofs.Common.{arith, sym, ◌∙◌, ap, not}
use Rattle.text_scan.proofs.NaturalLemmas.{all_digits, no_bytes}
use Rattle.text_scan.proofs.naturals.is_natural.Goals as goal

pub returns-then-not-is_empty : goal.returns-then-not-is_empty
returns-then-not-is_empty c = grind (arith, all_digits)

pub returns-else-not-is_empty : goal.returns-else-not-is_empty
returns-else-not-is_empty c = ap not c.if-not-is_empty.false ∙ no_bytes c.args.bytes.now (sym c.is_empty.ensures ∙ c.if-not-is_empty.false)

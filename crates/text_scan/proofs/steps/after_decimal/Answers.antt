use Rattle.text_scan.proofs.Common.{arith}
use Rattle.text_scan.proofs.TextLemmas.{whole_digits, with_point}
use Rattle.text_scan.proofs.steps.after_decimal.Goals as goal

pub returns-in-46 : goal.returns-in-46
returns-in-46 c =
    λ first. with_point c.args.bytes.now c.after_digits-behind.result.now c.after_digits.result.now first
    c.after_digits-behind.ensures.digits c.in-46.len_at_least (omega arith)
    c.after_digits.ensures.digits

pub returns-in_default : goal.returns-in_default
returns-in_default c = grind (arith, whole_digits)

pub returns-in_default-2 : goal.returns-in_default-2
returns-in_default-2 c = grind (arith, whole_digits)

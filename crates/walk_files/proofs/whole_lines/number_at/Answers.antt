use Rattle.walk_files.proofs.Common.{◌+◌, ◌*◌, sym, subst, arith}
use Rattle.walk_files.proofs.WholeLineLemmas.{PastDigits, after_head, no_digits, one_digit, number_first}
use Rattle.walk_files.proofs.whole_lines.number_at.Goals as goal

pub loop-rest-init : goal.loop-rest-init
loop-rest-init c = no_digits (after_head c.args.bytes.now)

pub loop-rest-preserved : goal.loop-rest-preserved
loop-rest-preserved c =
    subst (λ d. PastDigits (after_head c.args.bytes.now) (c.loop-rest.value * 10 + d) (after_head c.loop-rest.rest.now))
    (sym c.from.ensures)
    (one_digit (after_head c.args.bytes.now) c.loop-rest.rest.now c.loop-rest.value c.in-len1-up.len_at_least
    (grind (arith, c.if-not-is_ascii_digit.ensures.value, c.if-not-is_ascii_digit.false)) c.loop-rest.invariant)

pub returns : goal.returns
returns c =
    number_first c.args.bytes.now c.loop-rest.rest.now c.loop-rest.value c.in-32.len_at_least (omega arith)
    c.loop-rest.invariant c.if-rest-digits.false (omega (arith, c.loop-rest.auto.value-fits))

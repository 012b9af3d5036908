use Rattle.surf_io.proofs.Common.{w64, ◌∙◌, ap, ◌≡◌, to_z, of_z, decimal, nat_abs}
use Rattle.std.proofs.Math.Facts.{to_z-of_z}
use Rattle.surf_io.proofs.Decimal.{room_for_sign, sign}
use Rattle.surf_io.proofs.digits.fill_signed_digits.Goals as goal

pub overflow_sub-start : goal.overflow_sub-start
overflow_sub-start c =
    room_for_sign c.fill_digits-start.new.text _ _ c.unsigned_abs.ensures.bound c.fill_digits-start.array_long
    c.fill_digits-start.ensures.start c.fill_digits-start.ensures.digits

pub returns-then-n-lt0-clause-digits : goal.returns-then-n-lt0-clause-digits
returns-then-n-lt0-clause-digits c =
    let same : to_z w64 (of_z w64 c.args.n) ≡ c.args.n = to_z-of_z c.ranges.n in
    sign c.fill_digits-start.new.text _ c.args.n
    (rw same at c.if-n-lt0.true)
    c.fill_digits-start.array_long
    c.fill_digits-start.ensures.start
    (room_for_sign c.fill_digits-start.new.text _ _ c.unsigned_abs.ensures.bound c.fill_digits-start.array_long
    c.fill_digits-start.ensures.start c.fill_digits-start.ensures.digits)
    (c.fill_digits-start.ensures.digits ∙ ap decimal (c.unsigned_abs.ensures.value ∙ ap nat_abs same))

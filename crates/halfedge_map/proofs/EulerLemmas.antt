-- Sums of numbers of 32 bits do not leave the signed numbers of 64 bits.
use Rattle.halfedge_map.proofs.Common.{◌≡◌, ℕ, ◌<◌, ◌^◌, pos, ◌+ℤ◌, ◌-ℤ◌, arith, to_z, of_z, w64}
use Rattle.std.proofs.lemmas.Int.{ints}
use mir.Val.{SFits}

natural_fits : (v : ℕ) → v < 2 ^ 32 → SFits w64 (pos v)
natural_fits v l = search (arith, ints)

less_fits : (v e : ℕ) → v < 2 ^ 32 → e < 2 ^ 32 → SFits w64 (pos v -ℤ pos e)
less_fits v e l k = search (arith, ints)

sum_fits : (v e f : ℕ) → v < 2 ^ 32 → e < 2 ^ 32 → f < 2 ^ 32 → SFits w64 ((pos v -ℤ pos e) +ℤ pos f)
sum_fits v e f l k m = search (arith, ints)

pub euler_exact : (v e f : ℕ) → v < 2 ^ 32 → e < 2 ^ 32 → f < 2 ^ 32
    → to_z w64 (of_z w64 (to_z w64 (of_z w64 (to_z w64 (of_z w64 (pos v)) -ℤ to_z w64 (of_z w64 (pos e)))) +ℤ to_z w64 (of_z w64 (pos f))))
    ≡ (pos v -ℤ pos e) +ℤ pos f
euler_exact v e f l k m = grind (arith, natural_fits, less_fits, sum_fits)

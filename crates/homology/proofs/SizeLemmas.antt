-- How large sums become.
use Rattle.homology.proofs.Common.{total, along, share, MOST_NUMBER, ◌≡◌, ℕ, zero, suc, ◌+◌, ◌*◌, ◌≤◌, List, [], ◌∷◌, length, refl, arith, ◌^◌, ◌<◌, ℤ, pos, negsuc, ◌+ℤ◌, ◌-ℤ◌, to_z, of_z, w64, ints, to_z-of_z, fits_signed_from_abs, neg_ℤ, ◌≤ℤ◌, unsigned_abs, map}

-- between a bound and its opposite
record IsBetween (n : ℕ) (z : ℤ) : Type 0 where
  low : neg_ℤ (pos n) ≤ℤ z
  high : z ≤ℤ pos n

between : (n : ℕ) (z : ℤ) → unsigned_abs z ≤ n → IsBetween n z
between n (pos m) h = record { low = omega (arith, ints); high = omega (arith, ints) }
between n (negsuc m) h = record { low = omega (arith, ints); high = omega (arith, ints) }

size_between : (n : ℕ) (z : ℤ) → IsBetween n z → unsigned_abs z ≤ n
size_between n (pos m) h = omega (arith, ints, h.high)
size_between n (negsuc m) h = omega (arith, ints, h.low)

pub size-sum : (a b : ℤ) (m n : ℕ) → unsigned_abs a ≤ m → unsigned_abs b ≤ n → unsigned_abs (a +ℤ b) ≤ m + n
size-sum a b m n h k = grind (arith, between, size_between)

pub size-opposite : (z : ℤ) → unsigned_abs (neg_ℤ z) ≡ unsigned_abs z
size-opposite (pos zero) = refl
size-opposite (pos (suc n)) = refl
size-opposite (negsuc n) = refl

pub size-share : (amount : ℤ) (low high u v : ℕ) → unsigned_abs (share amount low high u v) ≤ unsigned_abs amount
size-share amount low high u v = grind (arith, size-opposite)

pub size-along : (number : ℕ → ℕ → ℤ) (bound : ℕ) (walk : List ℕ) → ((u v : ℕ) → unsigned_abs (number u v) ≤ bound)
    → unsigned_abs (along number walk) ≤ bound * length walk
size-along number bound [] h = omega arith
size-along number bound (u ∷ []) h = omega arith
size-along number bound (u ∷ v ∷ walk) h =
    let more = size-along number bound (v ∷ walk) h in
    let sum = size-sum (number u v) (along number (v ∷ walk)) bound (bound * suc (length walk)) (h u v) more in grind arith

pub size-total : {X : Type 0} (number : X → ℤ) (bound : ℕ) (xs : List X) → ((x : X) → unsigned_abs (number x) ≤ bound)
    → unsigned_abs (total (map number xs)) ≤ bound * length xs
size-total number bound [] h = omega arith
size-total number bound (x ∷ xs) h =
    let more = size-total number bound xs h in
    let sum = size-sum (number x) (total (map number xs)) bound (bound * length xs) (h x) more in grind arith

-- the opposite of a small number as the program forms it
pub sent_back : (z : ℤ) → unsigned_abs z ≤ MOST_NUMBER
    → to_z w64 (of_z w64 (pos 0 -ℤ to_z w64 (of_z w64 z))) ≡ neg_ℤ z
sent_back (pos n) h = omega (arith, ints)
sent_back (negsuc n) h = omega (arith, ints)

-- a small number as the program forms it
pub sent : (z : ℤ) → unsigned_abs z < 2 ^ 63 → to_z w64 (of_z w64 z) ≡ z
sent z h = to_z-of_z w64 z (fits_signed_from_abs w64 z h)

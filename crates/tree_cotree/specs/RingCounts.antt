-- The rings (orbits) of a permutation of the numbers below n, and how many they are.
use Rattle.std.specs.Prelude.{ℕ, zero, suc, Bool, false, not, ◌==◌, ◌||◌, if◌then◌else◌}
use Rattle.halfedge_map.specs.Orbits.{after_steps}
use Rattle.surf_model.specs.Numbers.{count_below}

-- whether some number below n passes
abbrev pub any_below : (ℕ → Bool) → ℕ → Bool
any_below test zero = false
any_below test (suc n) = any_below test n || test n

-- whether fewer than n steps lead from x to y, of n numbers: whether y stands on the ring of x
abbrev pub meets : (ℕ → ℕ) → ℕ → ℕ → ℕ → Bool
meets f n x y = any_below (λ k. after_steps f k x == y) n

-- how many classes a relation makes of the numbers below n: each class is counted at its least number
abbrev pub is_least : (ℕ → ℕ → Bool) → ℕ → Bool
is_least related x = not (any_below (λ y. related y x) x)

abbrev pub class_count : (ℕ → ℕ → Bool) → ℕ → ℕ
class_count related n = count_below (is_least related) n

-- how many rings there are
abbrev pub ring_count : (ℕ → ℕ) → ℕ → ℕ
ring_count f n = class_count (meets f n) n

-- the map with the values at a and at b exchanged
abbrev pub exchanged : (ℕ → ℕ) → ℕ → ℕ → ℕ → ℕ
exchanged f a b x = if x == a then f b else if x == b then f a else f x

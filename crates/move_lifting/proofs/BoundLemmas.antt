-- How long a walk gets on the way off the cotree, and how great the peak, in numbers of darts.
use Rattle.move_lifting.proofs.Common.{dart_between, darts_of, OrientedMesh, IsOrientedSurface, load_of, AreWeights, IsLedOn, MOST_LIFTED_SIDES, MOST_LIFTED_DARTS, MOST_LOW_PEAK, MOST_SHORT_MOVES, ◌≡◌, ℕ, ◌+◌, ◌*◌, ◌-◌, ◌<◌, ◌≤◌, max, List, [], ◌∷◌, length, sym, ap, subst, arith, mul-le-mul_left, mul-le-mul_right, common_steps, PeakedMoves, IsWalk, darts, SplitView, IsSplit}
use Rattle.std.proofs.lemmas.Nat.{mul-le}
use Rattle.move_lifting.proofs.ExpandLemmas.{IsRest, rest_of_step, below_falls}
use Rattle.move_lifting.proofs.RestLemmas.{pair_weight, pair_positive, pair_most}
use Rattle.move_lifting.proofs.WithinLemmas.{darts_weigh, load_most}

-- a dart weighs as many darts as hang below its edge
pub are_weights : (s : OrientedMesh) (split : SplitView) → IsOrientedSurface s → (t : IsSplit s split)
    → AreWeights s split (pair_weight s split t)
are_weights s split o t = record {
  some = pair_positive s split t;
  falls = λ u v step under.
      let around : IsRest s.mesh step u v = rest_of_step o.faces under in
      omega (arith, below_falls o t under, ap (load_of (pair_weight s split t)) around.turned);
}

-- a walk weighs no more than all darts for each of its own
pub walk_most : (s : OrientedMesh) (split : SplitView) → IsOrientedSurface s → (t : IsSplit s split) → (walk : List ℕ) → IsWalk s.mesh walk
    → load_of (pair_weight s split t) walk ≤ darts walk * darts_of s
walk_most s split o t [] w = omega arith
walk_most s split o t (u ∷ []) w = omega arith
walk_most s split o t (u ∷ v ∷ rest) w =
    let found = dart_between s o u v (w.edges 0 (omega arith)) in
    let some : 0 < darts_of s = (let within : found.0 < darts_of s = found.1.within in omega arith) in
    let count : length (v ∷ rest) ≡ darts (u ∷ v ∷ rest) = omega arith in
    subst (λ (n : ℕ). load_of (pair_weight s split t) (u ∷ v ∷ rest) ≤ n * darts_of s) count
    (load_most (pair_weight s split t) (darts_of s) (λ x y. pair_most s split t x y some) u (v ∷ rest))

-- the walk that is left has no more darts than a walk weighs, and the peak is no greater than that with what stands behind
pub record IsShort (most behind : ℕ) (next : List ℕ) (list more : PeakedMoves) : Type 0 where
  pub long : length next ≤ most + 1
  pub peak : more.peak ≤ max list.peak (most + behind)
  pub moves : length more.moves ≤ length list.moves + most

pub short_within : {s : OrientedMesh} {split : SplitView} {behind : ℕ} {walk next : List ℕ} {list more : PeakedMoves}
    → IsOrientedSurface s → (t : IsSplit s split) → (most : ℕ)
    → load_of (pair_weight s split t) walk ≤ most → IsLedOn s split behind walk list next more → IsShort most behind next list more
short_within {s} {split} {next = next} o t most light led =
    let weight : ℕ → ℕ → ℕ = pair_weight s split t in
    let told = led.within weight (are_weights s split o t) in grind (arith, darts_weigh, pair_positive)

pub short_walk : {s : OrientedMesh} {split : SplitView} {behind : ℕ} {walk next : List ℕ} {list more : PeakedMoves}
    → IsOrientedSurface s → IsSplit s split → IsWalk s.mesh walk → IsLedOn s split behind walk list next more
    → IsShort (darts walk * darts_of s) behind next list more
short_walk {s} {split} {walk = walk} o t w led = short_within o t (darts walk * darts_of s) (walk_most s split o t walk w) led

-- a surface has a face, and so three darts
pub three_darts : (s : OrientedMesh) → IsOrientedSurface s → 3 ≤ darts_of s
three_darts s o = grind (arith, common_steps)

-- a peak of so many darts for each dart of two walks, and the darts of the walks, is low
pub is_low : (sides darts few peak : ℕ) → 3 ≤ sides → few ≤ darts → peak ≤ max (2 * darts) (few * sides + darts)
    → 2 * peak ≤ (3 * darts + 7) * sides
is_low sides darts few peak three less low =
    omega (arith, low, three, mul-le-mul_right sides less, mul-le-mul_left darts three, parts darts sides)
  where
    parts : (k n : ℕ) → (3 * k + 7) * n ≡ 3 * (k * n) + 7 * n
    parts k n = omega arith

-- So many moves before the walk is led off the cotree, and a move for each side for each of its darts, are few for the darts of two walks.
pub is_few : (sides darts second few begun moves : ℕ) → 0 < sides → second ≤ darts → few ≤ darts → begun + few ≤ darts + second
    → moves ≤ begun + few * sides → moves ≤ darts * (sides + 1)
is_few sides darts second few begun moves some part less start more =
    let rest : ℕ = darts - few in
    let all : darts ≡ few + rest = omega (arith, less) in
    let each : rest * 1 ≤ rest * sides = mul-le-mul_left rest (omega (arith, some)) in
    subst (λ (n : ℕ). moves ≤ n * (sides + 1)) (sym all)
    (omega (arith, start, more, part, all, each, parts few rest sides))
  where
    parts : (f r n : ℕ) → (f + r) * (n + 1) ≡ f * n + r * n + f + r
    parts f r n = omega arith

-- within the limits it is no greater than this
pub low_most : (sides darts peak : ℕ) → sides ≤ MOST_LIFTED_SIDES → darts ≤ MOST_LIFTED_DARTS → 2 * peak ≤ (3 * darts + 7) * sides
    → peak ≤ MOST_LOW_PEAK
low_most sides darts peak few less low = grind arith

-- within the limits a short list has no more moves than these
pub few_most : (sides darts moves : ℕ) → sides ≤ MOST_LIFTED_SIDES → darts ≤ MOST_LIFTED_DARTS → moves ≤ darts * (sides + 1)
    → moves ≤ MOST_SHORT_MOVES
few_most sides darts moves few less short = omega (arith, short, mul-le darts (sides + 1) 512 16385 less (omega (arith, few)))

-- a low peak stays low where the walks have so many darts more before and behind
pub low_around : (sides darts around peak : ℕ) → 3 ≤ sides → 2 * peak ≤ (3 * darts + 7) * sides
    → 2 * (around + peak) ≤ (3 * (darts + 2 * around) + 7) * sides
low_around sides darts around peak three low =
    omega (arith, low, mul-le-mul_left around three, parts darts around sides)
  where
    parts : (k a n : ℕ) → (3 * (k + 2 * a) + 7) * n ≡ (3 * k + 7) * n + 6 * (a * n)
    parts k a n = omega arith

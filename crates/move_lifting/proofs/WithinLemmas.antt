-- What a walk weighs on the way off the cotree, and how great the peaks of its moves are.
use Rattle.move_lifting.proofs.Common.{OrientedMesh, load_of, StaysWithin, TrackView, GrowsOrShrinks, ◌≡◌, ℕ, suc, ◌+◌, ◌*◌, ◌<◌, ◌≤◌, max, List, [], ◌∷◌, ◌++◌, length, arith, common_steps, SplitView}

-- what walks weigh that are put together
pub load-joined : (weight : ℕ → ℕ → ℕ) (front rest : List ℕ) (v : ℕ)
    → load_of weight (front ++ v ∷ rest) ≡ load_of weight (front ++ v ∷ []) + load_of weight (v ∷ rest)
load-joined weight [] rest v = omega arith
load-joined weight (u ∷ []) rest v = omega arith
load-joined weight (u ∷ w ∷ front) rest v = omega (arith, load-joined weight (w ∷ front) rest v)

pub load_longer : (weight : ℕ → ℕ → ℕ) (front rest : List ℕ) → load_of weight front ≤ load_of weight (front ++ rest)
load_longer weight [] rest = omega arith
load_longer weight (u ∷ []) rest = omega arith
load_longer weight (u ∷ v ∷ front) rest = omega (arith, load_longer weight (v ∷ front) rest)

-- each dart weighs something
pub darts_weigh : (weight : ℕ → ℕ → ℕ) → ((u v : ℕ) → 0 < weight u v) → (walk : List ℕ) → length walk ≤ load_of weight walk + 1
darts_weigh weight some [] = omega arith
darts_weigh weight some (u ∷ []) = omega arith
darts_weigh weight some (u ∷ v ∷ rest) = omega (arith, darts_weigh weight some (v ∷ rest), some u v)

load_grows : (weight : ℕ → ℕ → ℕ) → ((u v : ℕ) → 0 < weight u v) → (front : List ℕ) (v : ℕ) → 0 < length front
    → load_of weight front + 1 ≤ load_of weight (front ++ v ∷ [])
load_grows weight some [] v l = absurd (omega arith)
load_grows weight some (u ∷ []) v l = omega (arith, some u v)
load_grows weight some (u ∷ w ∷ front) v l = omega (arith, load_grows weight some (w ∷ front) v (omega arith))

-- no dart weighs more than so much
pub load_most : (weight : ℕ → ℕ → ℕ) (most : ℕ) → ((u v : ℕ) → weight u v ≤ most) → (u : ℕ) (rest : List ℕ)
    → load_of weight (u ∷ rest) ≤ length rest * most
load_most weight most h u [] = omega arith
load_most weight most h u (v ∷ rest) = omega (arith, load_most weight most h v rest, h u v, times_suc (length rest) most)
  where
    times_suc : (a b : ℕ) → suc a * b ≡ b + a * b
    times_suc a b = omega arith

-- a vertex is put on a track
pub within_put : (s : OrientedMesh) (split : SplitView) (behind v : ℕ) (old new : TrackView) → GrowsOrShrinks old.walk new.walk v
    → 0 < length new.walk → length new.list.moves + length new.walk ≤ length old.list.moves + length old.walk + 1
    → new.list.peak ≤ max old.list.peak (length old.walk + behind)
    → StaysWithin s split behind (old.walk ++ v ∷ []) old.list new.walk new.list
within_put s split behind v old new shape some count peak weight are = grind (arith, common_steps, load_longer, darts_weigh, load_grows)

-- A closed list of spokes while it is worked on. All work is done at the seam, between its last spoke and its first.
use Rattle.std.specs.Prelude.{◌≡◌, ◌≢◌, ◌⊎◌, ℕ, zero, suc, ◌+◌, ◌-◌, ◌<◌, ◌≤◌, Bool, not, if◌then◌else◌, List, ◌++◌, take, drop, length, slice_index}
use Rattle.turn_words.specs.Modulo.{add, minus}
use Rattle.turn_words.specs.SpokePaths.{place_round}
use Rattle.spoke_rings.specs.CyclicWords.{turn_along, IsLoop}
use Rattle.spoke_rings.specs.LoopSteps.{LoopLeads}

-- the spokes from the seam on, and whether the seam stands at the vertex or in the middle
pub record SpokeRingView : Type 0 where
  pub spokes : List ℕ
  pub at_vertex : Bool

-- the same closed list from the vertex on: where the seam stands in the middle, the last spoke comes first
abbrev pub ring_from_vertex : SpokeRingView → List ℕ
ring_from_vertex ring =
    if ring.at_vertex then ring.spokes
    else drop (length ring.spokes - 1) ring.spokes ++ take (length ring.spokes - 1) ring.spokes

-- the turns from the seam on, again and again
abbrev pub ring_turn : List ℕ → SpokeRingView → ℕ → ℕ
ring_turn places ring = turn_along places ring.at_vertex ring.spokes

-- the ring is a closed list, and steps lead to it from what it was
pub record RingLeads (places : List ℕ) (old new : SpokeRingView) : Type 0 where
  pub loop : IsLoop places new.spokes
  pub leads : LoopLeads places (ring_from_vertex old) (ring_from_vertex new)

-- one place on or back, and the way back
abbrev pub one_on : ℕ → Bool → ℕ
one_on degree up = if up then 1 else minus degree 1

-- the last spoke and the first are moved by one place against one another, round the point that the seam does not stand at
pub record Pushes (places : List ℕ) (up : Bool) (old new : SpokeRingView) : Type 0 where
  pub loop : IsLoop places new.spokes
  pub at_vertex : new.at_vertex ≡ old.at_vertex
  pub as_long : length new.spokes ≡ length old.spokes
  pub between : (k : ℕ) → 0 < k → k + 1 < length old.spokes → slice_index new.spokes k ≡ slice_index old.spokes k
  pub last : place_round places (not old.at_vertex) (slice_index new.spokes (length old.spokes - 1))
      ≡ add (length places) (place_round places (not old.at_vertex) (slice_index old.spokes (length old.spokes - 1)))
      (one_on (length places) up)
  pub first : place_round places (not old.at_vertex) (slice_index new.spokes 0)
      ≡ add (length places) (place_round places (not old.at_vertex) (slice_index old.spokes 0)) (one_on (length places) (not up))

-- what a push makes of the turns: the one at the seam changes its sign, and its two neighbours are changed by one each. Of
-- two turns the other one is changed twice
pub record TurnsPushed (degree n : ℕ) (up : Bool) (old new : ℕ → ℕ) : Type 0 where
  pub seam : new 0 ≡ one_on degree up
  pub behind : 4 ≤ n → new 1 ≡ add degree (old 1) (one_on degree up)
  pub before : 4 ≤ n → new (n - 1) ≡ add degree (old (n - 1)) (one_on degree up)
  pub other : n ≡ 2 → new 1 ≡ add degree (add degree (old 1) (one_on degree up)) (one_on degree up)
  pub far : (k : ℕ) → 2 ≤ k → k + 2 ≤ n → new k ≡ old k

-- from the seam back there are so many turns 2, and then a turn 1 that is not the next one behind the seam; or all other
-- turns are 2
pub record IsBracket (n : ℕ) (turn : ℕ → ℕ) (twos : ℕ) : Type 0 where
  pub below : twos < n
  pub run : (i : ℕ) → i < twos → turn (n - 1 - i) ≡ 2
  pub opens : (twos + 1 ≡ n) ⊎ ((twos + 3 ≤ n) × (turn (n - 1 - twos) ≡ 1))

-- at the seam there is no spur, no turn -1, and no turn 1 that ends a bracket
pub record IsFine (degree n : ℕ) (turn : ℕ → ℕ) : Type 0 where
  pub no_spur : turn 0 ≢ 0
  pub no_minus : turn 0 ≢ minus degree 1
  pub no_bracket : turn 0 ≡ 1 → (twos : ℕ) → ¬ IsBracket n turn twos

-- the sum of the first turns, as numbers below the degree
abbrev pub turns_sum : (ℕ → ℕ) → ℕ → ℕ
turns_sum turn zero = 0
turns_sum turn (suc n) = turns_sum turn n + turn n

-- a ring as long as before, of which the turns have a smaller sum
pub record Rises (places : List ℕ) (old new : SpokeRingView) : Type 0 where
  pub acts : RingLeads places old new
  pub as_long : length new.spokes ≡ length old.spokes
  pub lighter : turns_sum (ring_turn places new) (length new.spokes) < turns_sum (ring_turn places old) (length old.spokes)

-- a ring that lost two spokes
pub record Shortens (places : List ℕ) (old new : SpokeRingView) : Type 0 where
  pub acts : RingLeads places old new
  pub shorter : length new.spokes + 2 ≡ length old.spokes

-- nothing stands at any seam of a ring
abbrev pub IsFineRing : List ℕ → SpokeRingView → Type 0
IsFineRing places ring =
    (j : ℕ) → j < length ring.spokes → IsFine (length places) (length ring.spokes) (λ k. ring_turn places ring (j + k))

-- a ring as long as before, with turns 2 alone
pub record TurnsOver (places : List ℕ) (old new : SpokeRingView) : Type 0 where
  pub acts : RingLeads places old new
  pub as_long : length new.spokes ≡ length old.spokes
  pub twos : (k : ℕ) → ring_turn places new k ≡ 2

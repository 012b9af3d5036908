-- How far a ring is reduced, and what its acts make of that.
use Rattle.spoke_rings.proofs.Common.{IsLoop, IsFullWheel, SpokeRingView, ring_turn, RingLeads, Pushes, Rises, Shortens, IsBracket, IsFine, IsFineRing, turns_sum, ◌≡◌, ◌≢◌, ℕ, ◌+◌, ◌-◌, ◌*◌, ◌<◌, ◌≤◌, ◌⊎◌, inl, inr, arith, refl, sym, ◌∙◌, ap, ap₂, subst, suc, Bool, true, false, List, length, get_or, cases_lt, common_steps, add-cases, minus-cases, minus-one, add, minus, place_round}
use Rattle.spoke_rings.proofs.RingTurns.{turn-round, turn-seam, spoke-below, place-below}
use Rattle.spoke_rings.proofs.Pushing.{push-acts, push-turns}
use Rattle.spoke_rings.proofs.Acting.{WentOn, acts-on, acts-start}
use Rattle.spoke_rings.proofs.Fine.{turns_from, fine-same, fine-everywhere, turn-in}
use Rattle.spoke_rings.proofs.Weights.{sum-forward, sum-back, push-lighter, sum-bound, weight, weight-passed, weight-lighter, weight-shorter}
use Rattle.spoke_rings.proofs.Closing.{Closes, closes-start, closes-next, closes-seam}

-- where no turn stands at the seam, the last spoke is the first
pub spur-spokes : (places : List ℕ) → IsFullWheel places → (ring : SpokeRingView) → IsLoop places ring.spokes → 0 < length ring.spokes →
    ring_turn places ring 0 ≡ 0 → get_or ring.spokes (length ring.spokes - 1) 0 ≡ get_or ring.spokes 0 0
spur-spokes places full ring loop some none =
    let d = length places in
    let last = get_or ring.spokes (length ring.spokes - 1) 0 in
    let first = get_or ring.spokes 0 0 in
    let last_in = spoke-below places ring.spokes (length ring.spokes - 1) loop (omega arith) in
    let first_in = spoke-below places ring.spokes 0 loop some in
    go ring.at_vertex last first last_in first_in
    (no-turn (place_round places ring.at_vertex last) (place_round places ring.at_vertex first)
    (place-below places ring.at_vertex last full.own.wheel last_in) (place-below places ring.at_vertex first full.own.wheel first_in)
    (sym (turn-seam places ring.at_vertex ring.spokes some) ∙ none))
  where
    no-turn : (x y : ℕ) → x < length places → y < length places → add (length places) y (minus (length places) x) ≡ 0 → x ≡ y
    no-turn x y hx hy e = omega (arith, minus-cases (length places) x hx, add-cases (length places) y (minus (length places) x))

    go : (v : Bool) (l f : ℕ) → l < length places → f < length places → place_round places v l ≡ place_round places v f → l ≡ f
    go true l f hl hf e = full.own.wheel.once l f hl hf e
    go false l f hl hf e = e

-- a bracket that is being closed
pub record Closing (places : List ℕ) (start ring : SpokeRingView) (left : ℕ) : Type 0 where
  pub acts : RingLeads places start ring
  pub as_long : length ring.spokes ≡ length start.spokes
  pub closes : Closes (length ring.spokes) (ring_turn places ring) left

-- a ring of which so many seams were passed
pub record Reducing (places : List ℕ) (start ring : SpokeRingView) (passed : ℕ) : Type 0 where
  pub acts : RingLeads places start ring
  pub not_longer : length ring.spokes ≤ length start.spokes
  pub within : passed ≤ length ring.spokes
  pub fine : (j : ℕ) → j < passed → IsFine (length places) (length ring.spokes)
      (turns_from (ring_turn places ring) (length ring.spokes - passed + j))

module _ (places : List ℕ) (full : IsFullWheel places) where
  ring-round : (ring : SpokeRingView) → IsLoop places ring.spokes → (k : ℕ) →
      ring_turn places ring (k + length ring.spokes) ≡ ring_turn places ring k
  ring-round ring loop = turn-round places ring.at_vertex ring.spokes loop.even

  -- a push up
  pub rises-push : (old new : SpokeRingView) → IsLoop places old.spokes → 2 ≤ length old.spokes → Pushes places true old new →
      ring_turn places old 0 ≡ minus (length places) 1 → Rises places old new
  rises-push old new loop some p fall =
      let acts = push-acts places full true old new loop some p fall in
      let turns = push-turns places full true old new loop some p fall in
      record {
        acts = acts;
        as_long = p.as_long;
        lighter = subst (λ n. turns_sum (ring_turn places new) n < turns_sum (ring_turn places old) (length old.spokes)) (sym p.as_long)
            (push-lighter (length places) (length old.spokes) (ring_turn places old) (ring_turn places new) full.own.five loop.even
            turns fall some);
      }

  pub rises-forward : (old mid new : SpokeRingView) → Rises places old mid → WentOn places 1 mid new → Rises places old new
  rises-forward old mid new r w =
      let n = length mid.spokes in
      let same = sum-forward (ring_turn places mid) (ring_turn places new) n (ring-round mid r.acts.loop) w.turns in
      let long = ap (turns_sum (ring_turn places new)) w.as_long in
      record {
        acts = acts-on places old mid new r.acts w.acts;
        as_long = w.as_long ∙ r.as_long;
        lighter = let less = r.lighter in omega arith;
      }

  pub rises-back : (old mid new : SpokeRingView) → Rises places old mid → 0 < length mid.spokes
      → WentOn places (length mid.spokes - 1) mid new →
      Rises places old new
  rises-back old mid new r some w =
      let n = length mid.spokes in
      let same = sum-back (ring_turn places mid) (ring_turn places new) n some (ring-round mid r.acts.loop)
      (λ k. ap (λ m. ring_turn places new (k + m)) (sym w.as_long) ∙ ring-round new w.acts.loop k) w.turns in
      let long = ap (turns_sum (ring_turn places new)) w.as_long in
      record {
        acts = acts-on places old mid new r.acts w.acts;
        as_long = w.as_long ∙ r.as_long;
        lighter = let less = r.lighter in omega arith;
      }

  pub closing-start : (ring : SpokeRingView) (twos pushes : ℕ) → IsLoop places ring.spokes → 2 ≤ length ring.spokes →
      ring_turn places ring 0 ≡ 1 →
      IsBracket (length ring.spokes) (ring_turn places ring) twos →
      ((twos + 1 ≡ length ring.spokes) × (pushes ≡ twos)) ⊎ ((twos + 1 ≢ length ring.spokes) × (pushes ≡ twos + 1)) →
      Closing places ring ring pushes
  closing-start ring twos pushes loop some one b count = record {
    acts = acts-start places ring loop;
    as_long = refl;
    closes = closes-start (length ring.spokes) twos pushes (ring_turn places ring) some one b count;
  }

  pub closing-next : (start ring mid new : SpokeRingView) (left : ℕ) → Closing places start ring (suc left) → 2 ≤ length ring.spokes →
      Pushes places false ring mid → WentOn places (length mid.spokes - 1) mid new → Closing places start new left
  closing-next start ring mid new left c some p w =
      let n = length ring.spokes in
      let seam = closes-seam n (ring_turn places ring) (suc left) c.closes (omega arith) in
      let loop = c.acts.loop in
      let acts = push-acts places full false ring mid loop some p seam in
      let turns = push-turns places full false ring mid loop some p seam in
      let next = closes-next (length places) n (ring_turn places ring) (ring_turn places mid) (ring_turn places new) full.own.five
      loop.even some
      turns (λ k. ap (λ m. ring_turn places mid (k + m)) (sym p.as_long) ∙ ring-round mid acts.loop k)
      (λ k. w.turns k ∙ ap (λ m. ring_turn places mid (k + (m - 1))) p.as_long) left c.closes in
      record {
        acts = acts-on places start mid new (acts-on places start ring mid c.acts acts) w.acts;
        as_long = w.as_long ∙ p.as_long ∙ c.as_long;
        closes = subst (λ m. Closes m (ring_turn places new) left) (sym (w.as_long ∙ p.as_long)) next;
      }

  pub closing-end : (start ring new : SpokeRingView) → Closing places start ring 0 → Shortens places ring new → Shortens places start new
  closing-end start ring new c s = record {
    acts = acts-on places start ring new c.acts s.acts;
    shorter = s.shorter ∙ c.as_long;
  }

  pub reducing-forward : (start ring new : SpokeRingView) (passed : ℕ) → Reducing places start ring passed → passed < length ring.spokes →
      IsFine (length places) (length ring.spokes) (ring_turn places ring) → WentOn places 1 ring new →
      Reducing places start new (passed + 1)
  reducing-forward start ring new passed r below seam w =
      let n = length ring.spokes in
      let long = w.as_long in
      let not_longer = r.not_longer in
      let d = length places in
      record {
        acts = acts-on places start ring new r.acts w.acts;
        not_longer = omega arith;
        within = omega arith;
        fine = λ j before. subst (λ m. IsFine d m (turns_from (ring_turn places new) (m - (passed + 1) + j))) (sym long)
            (elim (cases_lt j passed) [
              | inl earlier ↦ fine-same d n (turns_from (ring_turn places ring) (n - passed + j))
                  (turns_from (ring_turn places new) (n - (passed + 1) + j))
                  (λ k. (let e : n - passed + j + k ≡ n - (passed + 1) + j + k + 1 = omega arith in
                  ap (ring_turn places ring) e ∙ sym (w.turns (n - (passed + 1) + j + k)))) (r.fine j earlier)
              | inr last ↦ fine-same d n (ring_turn places ring) (turns_from (ring_turn places new) (n - (passed + 1) + j))
                  (λ k. (let e : k + n ≡ n - (passed + 1) + j + k + 1 = omega arith in
                  sym (ring-round ring r.acts.loop k) ∙ ap (ring_turn places ring) e ∙ sym (w.turns (n - (passed + 1) + j + k)))) seam
            ]);
      }

  pub reducing-again : (start ring new : SpokeRingView) (passed : ℕ) → Reducing places start ring passed → RingLeads places ring new →
      length new.spokes ≤ length ring.spokes → Reducing places start new 0
  reducing-again start ring new passed r acts shorter = record {
    acts = acts-on places start ring new r.acts acts;
    not_longer = let not_longer = r.not_longer in omega arith;
    within = omega arith;
    fine = λ j below. absurd (omega arith);
  }

  pub reducing-end : (start ring : SpokeRingView) (passed : ℕ) → Reducing places start ring passed → length ring.spokes ≤ passed →
      IsFineRing places ring
  reducing-end start ring passed r ended j below =
      let n = length ring.spokes in
      fine-same (length places) n (turns_from (ring_turn places ring) (n - passed + j)) (λ k. ring_turn places ring (j + k))
      (λ k. (let e : n - passed + j + k ≡ j + k = omega arith in ap (ring_turn places ring) e)) (r.fine j (omega arith))

-- how much is left to be done
abbrev pub left_of : List ℕ → ℕ → SpokeRingView → ℕ → ℕ
left_of places most ring passed =
    weight most (length places) (length ring.spokes) (turns_sum (ring_turn places ring) (length ring.spokes)) passed

-- a turn that is -1, and a search for a bracket that found none
pub fall-is : (d turn t : ℕ) → 5 ≤ d → t ≡ turn → t ≡ d - 1 → turn ≡ minus d 1
fall-is d turn t five e f = let one = minus-one d five in omega arith

pub not-fall : (d turn t : ℕ) → 5 ≤ d → t ≡ turn → t ≢ d - 1 → turn ≢ minus d 1
not-fall d turn t five e f g = f (let one = minus-one d five in omega arith)

pub fine-other : (d n : ℕ) (turn : ℕ → ℕ) → turn 0 ≢ 0 → turn 0 ≢ minus d 1 → turn 0 ≢ 1 → IsFine d n turn
fine-other d n turn a b e = record { no_spur = a; no_minus = b; no_bracket = λ one. absurd (e one) }

pub fine-one : (d n twos : ℕ) (turn : ℕ → ℕ) → 5 ≤ d → turn 0 ≡ 1 → twos + 1 < n → ((i : ℕ) → i < twos → turn (n - 1 - i) ≡ 2) →
    turn (n - 1 - twos) ≢ 2 → (turn (n - 1 - twos) ≡ 1 → n < twos + 3) → IsFine d n turn
fine-one d n twos turn five one within run not_two not_opened = grind (arith, minus-one)

module _ (places : List ℕ) (full : IsFullWheel places) where
  sum-within : (ring : SpokeRingView) → IsLoop places ring.spokes →
      turns_sum (ring_turn places ring) (length ring.spokes) ≤ length ring.spokes * length places
  sum-within ring loop = grind (arith, common_steps, sum-bound, turn-in)

  pub left-shorter : (start ring new : SpokeRingView) (passed : ℕ) → Reducing places start ring passed → Shortens places ring new →
      left_of places (length start.spokes) new 0 < left_of places (length start.spokes) ring passed
  left-shorter start ring new passed r s =
      weight-shorter (length start.spokes) (length places) (length ring.spokes) (length new.spokes)
      (turns_sum (ring_turn places ring) (length ring.spokes)) (turns_sum (ring_turn places new) (length new.spokes)) passed
      r.not_longer (omega arith) (sum-within new s.acts.loop)

  pub left-lighter : (start ring new : SpokeRingView) (passed : ℕ) → Reducing places start ring passed → Rises places ring new →
      left_of places (length start.spokes) new 0 < left_of places (length start.spokes) ring passed
  left-lighter start ring new passed r s = grind (arith, weight, left_of, weight-lighter)

  pub left-passed : (start ring new : SpokeRingView) (passed : ℕ) → Reducing places start ring passed → passed < length ring.spokes →
      WentOn places 1 ring new → left_of places (length start.spokes) new (passed + 1) < left_of places (length start.spokes) ring passed
  left-passed start ring new passed r below w =
      let n = length ring.spokes in
      let sum : turns_sum (ring_turn places new) (length new.spokes) ≡ turns_sum (ring_turn places ring) n =
      ap (turns_sum (ring_turn places new)) w.as_long
      ∙ sum-forward (ring_turn places ring) (ring_turn places new) n (turn-round places ring.at_vertex ring.spokes r.acts.loop.even)
      w.turns in
      let same : left_of places (length start.spokes) new (passed + 1)
      ≡ weight (length start.spokes) (length places) n (turns_sum (ring_turn places ring) n) (passed + 1) =
      ap₂ (λ m s. weight (length start.spokes) (length places) m s (passed + 1)) w.as_long sum in
      subst (λ x. x < left_of places (length start.spokes) ring passed) (sym same)
      (weight-passed (length start.spokes) (length places) n (turns_sum (ring_turn places ring) n) passed below)

-- where a ring is gone on along, nothing comes to stand at a seam
pub fine-on : (places : List ℕ) (ring new : SpokeRingView) → IsLoop places ring.spokes → 0 < length ring.spokes → WentOn places 1 ring new →
    IsFineRing places ring → IsFineRing places new
fine-on places ring new loop some w fine j below =
    let n = length ring.spokes in
    let round = turn-round places ring.at_vertex ring.spokes loop.even in
    subst (λ m. IsFine (length places) m (turns_from (ring_turn places new) j)) (sym w.as_long)
    (fine-same (length places) n (turns_from (ring_turn places ring) (j + 1)) (turns_from (ring_turn places new) j)
    (λ k. (let e : j + 1 + k ≡ j + k + 1 = omega arith in ap (ring_turn places ring) e ∙ sym (w.turns (j + k))))
    (fine-everywhere (length places) n (ring_turn places ring) loop.even some round fine (j + 1)))

-- A walk once along a ring that holds every dart gives the labels of a polygon.
use Rattle.polygon_cut.proofs.Common.{steps_within, steps_add, after_steps, Rotations, IsLabelled, IsFirstLeft, one_up, IsWalked, left_at, left_before, ◌≡◌, ◌≢◌, inl, inr, ℕ, suc, ◌+◌, ◌-◌, ◌<◌, ◌≤◌, Bool, true, false, List, [], ◌∷◌, ◌++◌, length, get_or, refl, ap, sym, ◌∙◌, subst, arith, set, cases_Bool, cases_eq, cases_lt, nat_tests, common_steps, slice_index, count_below}
use Rattle.polygon_cut.proofs.CountLemmas.{IsCounted, count_rises, count_passes, count_selects}
use Rattle.polygon_cut.proofs.RoundLemmas.{GoesRound, round_home, round_apart, round_reaches}

-- one label more
labels_more : {maps : Rotations} {ring : ℕ → ℕ} {left : ℕ → Bool} {start j : ℕ} {sides labels : List ℕ} → GoesRound maps.darts ring start
    → j < maps.darts → IsWalked maps ring left start j sides labels → (k : ℕ) → k < suc j
    → get_or (set labels (after_steps ring j start) (length sides)) (after_steps ring k start) 0 ≡ left_before maps ring left start k
labels_more {maps} {ring} {left} {start} {j} {sides} {labels} h l w k b = grind (arith, common_steps, steps_within, round_apart)

pub walked_left : {maps : Rotations} {ring : ℕ → ℕ} {left : ℕ → Bool} {start j : ℕ} {sides labels : List ℕ}
    → GoesRound maps.darts ring start
    → j < maps.darts → left_at maps ring left start j ≡ true → IsWalked maps ring left start j sides labels
    → IsWalked maps ring left start (suc j) (sides ++ after_steps ring j start ∷ []) (set labels (after_steps ring j start) (length sides))
walked_left {maps} {ring} {left} {start} {j} {sides} {labels} h l is w = grind (arith, common_steps, count_passes, labels_more)

pub walked_other : {maps : Rotations} {ring : ℕ → ℕ} {left : ℕ → Bool} {start j : ℕ} {sides labels : List ℕ}
    → GoesRound maps.darts ring start
    → j < maps.darts → left_at maps ring left start j ≡ false → IsWalked maps ring left start j sides labels
    → IsWalked maps ring left start (suc j) sides (set labels (after_steps ring j start) (length sides))
walked_other {maps} {ring} {left} {start} {j} {sides} {labels} h l none w = grind (arith, common_steps, labels_more)

-- what a whole walk, up to the leftover dart `last`, has of the ring
pub record IsWholeWalk (maps : Rotations) (ring : ℕ → ℕ) (left : ℕ → Bool) (last : ℕ) (sides labels : List ℕ) : Type 0 where
  pub round : GoesRound maps.darts ring (ring last)
  pub last_in : last < maps.darts
  pub last_left : left (maps.edge last) ≡ true
  pub walked : IsWalked maps ring left (ring last) maps.darts sides labels

last_at : {maps : Rotations} {ring : ℕ → ℕ} {left : ℕ → Bool} {last : ℕ} {sides labels : List ℕ}
    → IsWholeWalk maps ring left last sides labels
    → after_steps ring (maps.darts - 1) (ring last) ≡ last
last_at {maps} {ring} {last} h =
    let n : ℕ = maps.darts in
    let one : suc (n - 1) ≡ n = omega (arith, h.last_in) in
    let home : ring (after_steps ring (n - 1) (ring last)) ≡ ring last = grind (arith, round_home) in
    h.round.permutes.injective (after_steps ring (n - 1) (ring last)) last
    (steps_within n ring h.round.permutes (n - 1) (ring last) h.round.start) h.last_in home

last_passes : {maps : Rotations} {ring : ℕ → ℕ} {left : ℕ → Bool} {last : ℕ} {sides labels : List ℕ}
    → IsWholeWalk maps ring left last sides labels
    → left_at maps ring left (ring last) (maps.darts - 1) ≡ true
last_passes {maps} {left} h = ap (λ (d : ℕ). left (maps.edge d)) (last_at h) ∙ h.last_left

-- fewer leftover darts lie before a dart than there are
few_before : {maps : Rotations} {ring : ℕ → ℕ} {left : ℕ → Bool} {last : ℕ} {sides labels : List ℕ}
    → IsWholeWalk maps ring left last sides labels
    → (k : ℕ) → k < maps.darts → left_before maps ring left (ring last) k < length sides
few_before {maps} {ring} {left} {last} h k l = grind (arith, count_rises, count_passes, last_passes)

-- the last side is the dart where the walk ends
pub last_is : {maps : Rotations} {ring : ℕ → ℕ} {left : ℕ → Bool} {last : ℕ} {sides labels : List ℕ}
    → IsWholeWalk maps ring left last sides labels
    → slice_index sides (length sides - 1) ≡ last
last_is {maps} {ring} {left} {last} {sides} h = grind (arith, last_passes, last_at)

pub walk_labels : {maps : Rotations} {ring : ℕ → ℕ} {left : ℕ → Bool} {last : ℕ} {sides labels : List ℕ} (places : List ℕ)
    → IsWholeWalk maps ring left last sides labels
    → IsLabelled maps ring left (record { degree = length sides; sides = sides; labels = labels; places = places })
walk_labels {maps} {ring} {left} {last} {sides} {labels} places h = record {
  each_side = refl;
  each_dart = w.each_dart;
  side_is_left = λ i l. (
    subst (λ (d : ℕ). d < maps.darts) (sym (side_at i l)) (steps_within n ring h.round.permutes (chosen i l).at start h.round.start),
    ap (λ (d : ℕ). left (maps.edge d)) (side_at i l) ∙ (chosen i l).passes,
  );
  own_number = λ i l. ap (slice_index labels) (side_at i l) ∙ w.labels_are (chosen i l).at (chosen i l).within ∙ (chosen i l).before;
  label_below = λ d l. (let k = round_reaches h.round d l in omega (arith, label_at d k.0 k.1 k.2, few_before h k.0 k.1));
  first = λ d l. (let k = round_reaches h.round d l in first_from d k.0 k.1 k.2);
  along = λ i l. next_label i l;
}
  where
    n : ℕ
    n = maps.darts

    start : ℕ
    start = ring last

    w : IsWalked maps ring left start n sides labels
    w = h.walked

    p : ℕ → Bool
    p = left_at maps ring left start

    chosen : (i : ℕ) → i < length sides → IsCounted p n i
    chosen i l = count_selects p n i (omega (arith, l, w.each_left))

    side_at : (i : ℕ) (l : i < length sides) → slice_index sides i ≡ after_steps ring (chosen i l).at start
    side_at i l =
        let c = chosen i l in
        ap (slice_index sides) (sym c.before) ∙ w.sides_are c.at c.within c.passes

    label_at : (d k : ℕ) → k < n → after_steps ring k start ≡ d → slice_index labels d ≡ count_below p k
    label_at d k l e = ap (slice_index labels) (sym e) ∙ w.labels_are k l

    first_from : (d k : ℕ) → k < n → after_steps ring k start ≡ d → IsFirstLeft maps ring left d (slice_index sides (slice_index labels d))
    first_from d k l e =
        let i : ℕ = slice_index labels d in
        let is : i ≡ count_below p k = label_at d k l e in
        let i_in : i < length sides = omega (arith, is, few_before h k l) in
        let c : IsCounted p n i = chosen i i_in in
        let later : k ≤ c.at = elim (cases_lt c.at k) [
          | inl less ↦ absurd (let more : count_below p c.at < count_below p k = count_passes p c.at k less c.passes in omega
              (arith, more, is, c.before))
          | inr more ↦ more
        ] in
        let sum : c.at - k + k ≡ c.at = omega (arith, later) in
        record {
          steps = c.at - k;
          leads = ap (after_steps ring (c.at - k)) (sym e) ∙ sym (steps_add ring (c.at - k) k start)
              ∙ ap (λ (m : ℕ). after_steps ring m start) sum ∙ sym (side_at i i_in);
          is_left = ap (λ (x : ℕ). left (maps.edge x)) (side_at i i_in) ∙ c.passes;
          none_before = λ j b. elim (cases_Bool (left (maps.edge (after_steps ring j d)))) [
            | inl is_left ↦
                let there : p (j + k) ≡ true =
                ap (λ (x : ℕ). left (maps.edge x)) (steps_add ring j k start ∙ ap (after_steps ring j) e) ∙ is_left in
                let more : count_below p (j + k) < count_below p c.at = count_passes p (j + k) c.at (omega (arith, b, sum)) there in
                absurd (omega (arith, more, count_rises p k (j + k) (omega arith), is, c.before))
            | inr none ↦ none
          ];
        }

    next_label : (i : ℕ) → i < length sides → slice_index labels (ring (slice_index sides i)) ≡ one_up (length sides) i
    next_label i l =
        let c : IsCounted p n i = chosen i l in
        let on : ring (slice_index sides i) ≡ after_steps ring (suc c.at) start = ap ring (side_at i l) in
        let more : count_below p (suc c.at) ≡ count_below p c.at + 1 = rw c.passes refl in
        elim (cases_eq (suc c.at) n) [
          | inl end ↦
              let home : ring (slice_index sides i) ≡ start = on ∙ ap (λ (m : ℕ). after_steps ring m start) end ∙ round_home h.round in
              let none : slice_index labels start ≡ 0 = w.labels_are 0 (omega (arith, h.last_in)) in
              let all : count_below p (suc c.at) ≡ count_below p n = ap (count_below p) end in
              let whole : i + 1 ≡ length sides = omega (arith, more, all, c.before, w.each_left) in
              let up : one_up (length sides) i ≡ 0 = grind (arith, nat_tests) in
              ap (slice_index labels) home ∙ none ∙ sym up
          | inr less ↦
              let within : suc c.at < n = omega (arith, less, c.within) in
              let few : count_below p (suc c.at) < length sides = few_before h (suc c.at) within in
              let not_end : i + 1 ≢ length sides = omega (arith, few, more, c.before) in
              let up : one_up (length sides) i ≡ i + 1 = grind (arith, nat_tests) in
              let sum : count_below p (suc c.at) ≡ i + 1 = omega (arith, more, c.before) in
              ap (slice_index labels) on ∙ w.labels_are (suc c.at) within ∙ sum ∙ sym up
        ]

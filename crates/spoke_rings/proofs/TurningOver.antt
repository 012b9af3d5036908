-- How a ring with turns -2 alone is taken across all the quads beside it, turn by turn.
use Rattle.spoke_rings.proofs.Common.{IsCanonicalRow, IsLoop, IsFullWheel, turn_along, stands_before, SpokeRingView, ring_turn, RingLeads, Pushes, TurnsPushed, TurnsOver, Shortens, IsFineRing, ◌≡◌, ℕ, ◌+◌, ◌-◌, ◌%◌, ◌<◌, ◌≤◌, inl, inr, arith, refl, sym, ◌∙◌, ap, ap₂, subst, suc, Bool, true, false, not, List, [], ◌∷◌, ◌++◌, length, get_or, cases_eq, common_steps, append-nil, length-append, get_or_append_left, get_or-append-add, All-append, All-cons, All-nil, if◌then◌else◌, two-up, add-cases, minus-cases, minus-one, minus-two, add-lt, add-minus, add, minus, place_round}
use Rattle.spoke_rings.proofs.Along.{same-rows, rotated}
use Rattle.spoke_rings.proofs.Leading.{leads-same, leads-on, spur-enters}
use Rattle.spoke_rings.proofs.RingTurns.{turn_at, turn-round, turn-seam, turn-behind, stands-even, stands-odd, stands-turned, spoke-below, place-below}
use Rattle.spoke_rings.proofs.Pushing.{push-acts, push-turns}
use Rattle.spoke_rings.proofs.Acting.{WentOn, acts-on, acts-start, went-forward}
use Rattle.spoke_rings.proofs.Reducing.{fine-on}

-- how the turns of a ring of n + 2 spokes stand after so many pushes of n
pub data Over (d n : ℕ) (turn : ℕ → ℕ) : ℕ → Type 0 where
  first : {pushed : ℕ} → pushed ≡ 0 → turn 0 ≡ minus d 1 → ((k : ℕ) → 1 ≤ k → k < n → turn k ≡ minus d 2) → turn n ≡ minus d 1 →
      turn (n + 1) ≡ 0 → Over d n turn pushed
  middle : {pushed : ℕ} → 1 ≤ pushed → pushed < n → turn 0 ≡ minus d 1 → ((k : ℕ) → 1 ≤ k → k + pushed < n → turn k ≡ minus d 2) →
      turn (n - pushed) ≡ minus d 1 → turn (n - pushed + 1) ≡ 1 → ((k : ℕ) → n + 2 ≤ k + pushed → k ≤ n → turn k ≡ 2) → turn (n + 1) ≡ 1 →
      Over d n turn pushed
  last : {pushed : ℕ} → pushed ≡ n → turn 0 ≡ 0 → turn 1 ≡ 1 → ((k : ℕ) → 2 ≤ k → k ≤ n → turn k ≡ 2) → turn (n + 1) ≡ 1 →
      Over d n turn pushed

pub over-seam : (d n pushed : ℕ) (turn : ℕ → ℕ) → pushed < n → Over d n turn pushed → turn 0 ≡ minus d 1
over-seam d n pushed turn below o = grind arith

module _ (d n : ℕ) (old mid new : ℕ → ℕ) (five : 5 ≤ d) (two : 2 ≤ n) (p : TurnsPushed d (n + 2) true old mid)
    (round : (k : ℕ) → mid (k + (n + 2)) ≡ mid k) (on : (k : ℕ) → new k ≡ mid (k + 1)) where
  up-two : (x : ℕ) → x ≡ minus d 2 → add d x 1 ≡ minus d 1
  up-two x e = ap (λ y. add d y 1) e ∙ two-up d five

  up-one : (x : ℕ) → x ≡ minus d 1 → add d x 1 ≡ 0
  up-one x e = omega (arith, minus-one d five, add-cases d x 1)

  up-zero : (x : ℕ) → x ≡ 0 → add d x 1 ≡ 1
  up-zero x e = omega (arith, add-cases d x 1)

  up-once : (x : ℕ) → x ≡ 1 → add d x 1 ≡ 2
  up-once x e = omega (arith, add-cases d x 1)

  -- the turns behind the seam, those further on, and the one before the seam
  new-first : new 0 ≡ add d (old 1) 1
  new-first = let e : 0 + 1 ≡ 1 = refl in on 0 ∙ p.behind (omega arith)

  new-far : (k : ℕ) → 1 ≤ k → k + 1 ≤ n → new k ≡ old (k + 1)
  new-far k some within = on k ∙ p.far (k + 1) (omega arith) (omega arith)

  new-end : new n ≡ add d (old (n + 1)) 1
  new-end = let e : n + 1 ≡ n + 2 - 1 = omega arith in on n ∙ ap mid e ∙ p.before (omega arith) ∙ ap (λ k. add d (old k) 1) (sym e)

  new-last : new (n + 1) ≡ 1
  new-last = let e : n + 1 + 1 ≡ 0 + (n + 2) = omega arith in on (n + 1) ∙ ap mid e ∙ round 0 ∙ p.seam

  over-first : ((k : ℕ) → 1 ≤ k → k < n → old k ≡ minus d 2) → old n ≡ minus d 1 → old (n + 1) ≡ 0 → Over d n new 1
  over-first falls end spur =
      let e : n - 1 + 1 ≡ n = omega arith in
      middle (omega arith) (omega arith) (new-first ∙ up-two (old 1) (falls 1 (omega arith) (omega arith)))
      (λ k some below. new-far k some (omega arith) ∙ falls (k + 1) (omega arith) (omega arith))
      (new-far (n - 1) (omega arith) (omega arith) ∙ ap old e ∙ end)
      (ap new e ∙ new-end ∙ up-zero (old (n + 1)) spur)
      (λ k far within. absurd (omega arith)) new-last

  over-middle : (m : ℕ) → 1 ≤ m → m + 1 < n → ((k : ℕ) → 1 ≤ k → k + m < n → old k ≡ minus d 2) → old (n - m) ≡ minus d 1 →
      old (n - m + 1) ≡ 1 → ((k : ℕ) → n + 2 ≤ k + m → k ≤ n → old k ≡ 2) → old (n + 1) ≡ 1 → Over d n new (m + 1)
  over-middle m some less falls end one twos before =
      let e : n - (m + 1) + 1 ≡ n - m = omega arith in
      middle (omega arith) less (new-first ∙ up-two (old 1) (falls 1 (omega arith) (omega arith)))
      (λ k first_k below. new-far k first_k (omega arith) ∙ falls (k + 1) (omega arith) (omega arith))
      (new-far (n - (m + 1)) (omega arith) (omega arith) ∙ ap old e ∙ end)
      (ap new e ∙ new-far (n - m) (omega arith) (omega arith) ∙ one)
      (λ k far within. elim (cases_eq k n) [
        | inl is ↦ ap new is ∙ new-end ∙ up-once (old (n + 1)) before
        | inr other ↦ new-far k (omega arith) (omega arith) ∙ twos (k + 1) (omega arith) (omega arith)
      ]) new-last

  over-last : (m : ℕ) → m + 1 ≡ n → old (n - m) ≡ minus d 1 → old (n - m + 1) ≡ 1 → ((k : ℕ) → n + 2 ≤ k + m → k ≤ n → old k ≡ 2) →
      old (n + 1) ≡ 1 → Over d n new (m + 1)
  over-last m all end one twos before =
      let e : n - m ≡ 1 = omega arith in
      let f : n - m + 1 ≡ 1 + 1 = omega arith in
      last all (new-first ∙ up-one (old 1) (ap old (sym e) ∙ end)) (new-far 1 (omega arith) (omega arith) ∙ ap old (sym f) ∙ one)
      (λ k second within. elim (cases_eq k n) [
        | inl is ↦ ap new is ∙ new-end ∙ up-once (old (n + 1)) before
        | inr other ↦ new-far k (omega arith) (omega arith) ∙ twos (k + 1) (omega arith) (omega arith)
      ]) new-last

  -- a push up and a place on
  pub over-next : (m : ℕ) → m < n → Over d n old m → Over d n new (m + 1)
  over-next m below o = elim o [
    | first none seam falls end spur ↦ let e : 1 ≡ m + 1 = omega arith in subst (Over d n new) e (over-first falls end spur)
    | middle some less seam falls end one twos before ↦ elim (cases_eq (m + 1) n) [
      | inl all ↦ over-last m all end one twos before
      | inr more ↦ over-middle m some (omega arith) falls end one twos before
    ]
    | last all seam behind twos before ↦ absurd (omega arith)
  ]

-- a ring that is being turned over
pub record Turning (places : List ℕ) (start now : SpokeRingView) (left : ℕ) : Type 0 where
  pub acts : RingLeads places start now
  pub as_long : length now.spokes ≡ length start.spokes + 2
  pub within : left ≤ length start.spokes
  pub over : Over (length places) (length start.spokes) (ring_turn places now) (length start.spokes - left)

module _ (places : List ℕ) (full : IsFullWheel places) where
  abbrev d : ℕ
  d = length places

  abbrev ring : List ℕ → Bool → SpokeRingView
  ring s v = record { spokes = s; at_vertex = v }

  after-fall : (x y : ℕ) → x < d → y < d → add d x (minus d y) ≡ minus d 2 → add d (add d x 1) (minus d y) ≡ minus d 1
  after-fall x y hx hy e = grind (arith, minus-one, minus-two, minus-cases, add-cases)

  before-one : (x : ℕ) → x < d → add d x (minus d (add d x 1)) ≡ minus d 1
  before-one x hx = grind (arith, add-lt, minus-one, add-cases, minus-cases)

  twice-one : (a f b : ℕ) → a < d → f < d → b < d → add d a (minus d f) ≡ 1 → add d f (minus d b) ≡ 1 → add d a (minus d b) ≡ 2
  twice-one a f b ha hf hb e g = grind (arith, minus-cases, add-cases)

  module _ (s : List ℕ) (loop : IsLoop places s) (two : 2 ≤ length s)
      (falls : (k : ℕ) → turn_along places true s k ≡ minus d 2) (z : ℕ) (z_in : z < d)
      (place : place_round places true z ≡ add d (place_round places true (get_or s 0 0)) 1) where
    long : length (s ++ z ∷ z ∷ []) ≡ length s + 2
    long = length-append s (z ∷ z ∷ [])

    front : (k : ℕ) → k < length s → get_or (s ++ z ∷ z ∷ []) k 0 ≡ get_or s k 0
    front k below = get_or_append_left s (z ∷ z ∷ []) 0 k below

    end : get_or (s ++ z ∷ z ∷ []) (length s) 0 ≡ z
    end = grind (arith, common_steps)

    behind : get_or (s ++ z ∷ z ∷ []) (length s + 1) 0 ≡ z
    behind = get_or-append-add s (z ∷ z ∷ []) 1 0

    pub turning-start : Turning places (ring s true) (ring (s ++ z ∷ z ∷ []) true) (length s)
    turning-start =
        let first_in = spoke-below places s 0 loop (omega arith) in
        let last_in = spoke-below places s (length s - 1) loop (omega arith) in
        let even = loop.even in
        record {
          acts = record {
            loop = record {
              below = All-append (λ spoke. spoke < length places) s (z ∷ z ∷ []) loop.below
                  (All-cons (λ spoke. spoke < length places) z (z ∷ []) z_in
                  (All-cons (λ spoke. spoke < length places) z [] z_in (All-nil (λ spoke. spoke < length places))));
              even = let whole = long in omega arith;
            };
            leads = leads-on places s (s ++ []) (s ++ z ∷ z ∷ []) (leads-same places s (s ++ []) (sym (append-nil s)))
                (spur-enters places s [] z z_in);
          };
          as_long = long;
          within = omega arith;
          over =
              let whole = long in
              let none : length s - length s ≡ 0 = omega arith in
              let last_place : length (s ++ z ∷ z ∷ []) - 1 ≡ length s + 1 = omega arith in
              let odd : (length s + 1) % 2 ≡ 1 = omega arith in
              let before : length s + 1 - 1 ≡ length s = omega arith in
              first none
              (turn-seam places true (s ++ z ∷ z ∷ []) (omega arith)
              ∙ ap₂ (turn_at places true) (ap (λ k. get_or (s ++ z ∷ z ∷ []) k 0) last_place ∙ behind) (front 0 (omega arith))
              ∙ ap (λ x. add d (place_round places true (get_or s 0 0)) (minus d x)) place
              ∙ before-one (place_round places true (get_or s 0 0)) (place-below places true (get_or s 0 0) full.own.wheel first_in))
              (λ k some below. turn-behind places true (s ++ z ∷ z ∷ []) k some (omega arith)
              ∙ ap₂ (turn_at places (stands_before true k)) (front (k - 1) (omega arith)) (front k below)
              ∙ sym (turn-behind places true s k some below) ∙ falls k)
              (turn-behind places true (s ++ z ∷ z ∷ []) (length s) (omega arith) (omega arith)
              ∙ ap (λ b. turn_at places b (get_or (s ++ z ∷ z ∷ []) (length s - 1) 0) (get_or (s ++ z ∷ z ∷ []) (length s) 0))
              (stands-even true (length s) even)
              ∙ ap₂ (turn_at places true) (front (length s - 1) (omega arith)) end
              ∙ ap (λ x. add d x (minus d (place_round places true (get_or s (length s - 1) 0)))) place
              ∙ after-fall (place_round places true (get_or s 0 0)) (place_round places true (get_or s (length s - 1) 0))
              (place-below places true (get_or s 0 0) full.own.wheel first_in)
              (place-below places true (get_or s (length s - 1) 0) full.own.wheel last_in)
              (sym (turn-seam places true s (omega arith)) ∙ falls 0))
              (turn-behind places true (s ++ z ∷ z ∷ []) (length s + 1) (omega arith) (omega arith)
              ∙ ap (λ b. turn_at places b (get_or (s ++ z ∷ z ∷ []) (length s + 1 - 1) 0) (get_or (s ++ z ∷ z ∷ []) (length s + 1) 0))
              (stands-odd true (length s + 1) odd)
              ∙ ap₂ (turn_at places false) (ap (λ k. get_or (s ++ z ∷ z ∷ []) k 0) before ∙ end) behind
              ∙ add-minus d z z_in);
        }

  pub turning-next : (start now mid new : SpokeRingView) (left : ℕ) → Turning places start now (suc left) → 2 ≤ length start.spokes →
      Pushes places true now mid → WentOn places 1 mid new → Turning places start new left
  turning-next start now mid new left t some p w =
      let n = length start.spokes in
      let within = t.within in
      let now_long = t.as_long in
      let seam = over-seam d n (n - suc left) (ring_turn places now) (omega arith) t.over in
      let acts = push-acts places full true now mid t.acts.loop (omega arith) p seam in
      let turns = push-turns places full true now mid t.acts.loop (omega arith) p seam in
      let mid_long : length mid.spokes ≡ n + 2 = p.as_long ∙ now_long in
      let next = over-next d n (ring_turn places now) (ring_turn places mid) (ring_turn places new) full.own.five some
      (subst (λ m. TurnsPushed d m true (ring_turn places now) (ring_turn places mid)) now_long turns)
      (λ k. ap (λ m. ring_turn places mid (k + m)) (sym mid_long) ∙ turn-round places mid.at_vertex mid.spokes acts.loop.even k) w.turns
      (n - suc left) (omega arith) t.over in
      let count : n - suc left + 1 ≡ n - left = omega arith in
      record {
        acts = acts-on places start mid new (acts-on places start now mid t.acts acts) w.acts;
        as_long = w.as_long ∙ mid_long;
        within = omega arith;
        over = subst (Over d n (ring_turn places new)) count next;
      }

  pub turning-spur : (start now : SpokeRingView) → Turning places start now 0 → 2 ≤ length start.spokes → ring_turn places now 0 ≡ 0
  turning-spur start now t some = grind arith

  turning-turns : (start now : SpokeRingView) → Turning places start now 0 → 2 ≤ length start.spokes →
      (ring_turn places now 1 ≡ 1) × ((k : ℕ) → 2 ≤ k → k ≤ length start.spokes → ring_turn places now k ≡ 2)
      × (ring_turn places now (length start.spokes + 1) ≡ 1)
  turning-turns start now t some = elim t.over [
    | first none seam falls end spur ↦ absurd (omega arith)
    | middle one less seam falls end opened twos before ↦ absurd (omega arith)
    | last all seam behind twos before ↦ (behind, twos, before)
  ]

  pub turning-end : (start now new : SpokeRingView) (f l : ℕ) → Turning places start now 0 → 2 ≤ length start.spokes →
      now.spokes ≡ f ∷ new.spokes ++ l ∷ [] → l ≡ f → new.at_vertex ≡ not now.at_vertex → Shortens places now new →
      TurnsOver places start new
  turning-end start now new f l t some e same v s =
      let n = length start.spokes in
      let now_long = t.as_long in
      let shorter = s.shorter in
      let new_long : length new.spokes ≡ n = omega arith in
      let turns = turning-turns start now t some in
      let inner : (k : ℕ) → k < n → get_or now.spokes (k + 1) 0 ≡ get_or new.spokes k 0 =
      λ k below. (let g : k + 1 ≡ suc k = omega arith in
      ap₂ (λ x i. get_or x i 0) e g ∙ get_or_append_left new.spokes (l ∷ []) 0 k (omega arith)) in
      let last_at : get_or now.spokes (n + 1) 0 ≡ get_or now.spokes 0 0 =
      (let g : n + 1 ≡ suc (length new.spokes + 0) = omega arith in
      ap₂ (λ x i. get_or x i 0) e g ∙ get_or-append-add new.spokes (l ∷ []) 0 0 ∙ same ∙ sym (ap (λ x. get_or x 0 0) e)) in
      let b = not now.at_vertex in
      let odd : (n + 1) % 2 ≡ 1 = (let even = s.acts.loop.even in omega arith) in
      let before : n + 1 - 1 ≡ n = omega arith in
      let back : n - 1 + 1 ≡ n = omega arith in
      let place_of : ℕ → ℕ = λ k. place_round places b (get_or now.spokes k 0) in
      let place_in : (k : ℕ) → k < n + 2 → place_of k < d = λ k below. place-below places b (get_or now.spokes k 0) full.own.wheel
      (spoke-below places now.spokes k t.acts.loop (omega arith)) in
      let one_behind : add d (place_of 1) (minus d (place_of 0)) ≡ 1 =
      sym (turn-behind places now.at_vertex now.spokes 1 (omega arith) (omega arith)) ∙ turns.0 in
      let one_before : add d (place_of 0) (minus d (place_of n)) ≡ 1 =
      sym (turn-behind places now.at_vertex now.spokes (n + 1) (omega arith) (omega arith)
      ∙ ap₂ (λ c x. turn_at places c (get_or now.spokes (n + 1 - 1) 0) x) (stands-odd now.at_vertex (n + 1) odd) last_at
      ∙ ap (λ k. turn_at places b (get_or now.spokes k 0) (get_or now.spokes 0 0)) before) ∙ turns.2 in
      let seam : turn_along places b new.spokes 0 ≡ 2 =
      turn-seam places b new.spokes (omega arith)
      ∙ ap₂ (turn_at places b) (ap (λ m. get_or new.spokes (m - 1) 0) new_long ∙ sym (inner (n - 1) (omega arith))
      ∙ ap (λ k. get_or now.spokes k 0) back) (sym (inner 0 (omega arith)))
      ∙ twice-one (place_of 1) (place_of 0) (place_of n) (place_in 1 (omega arith)) (place_in 0 (omega arith)) (place_in n (omega arith))
      one_behind one_before in
      let far : (k : ℕ) → 0 < k → k < n → turn_along places b new.spokes k ≡ 2 =
      λ k first_k below. (
      let g : k - 1 + 1 ≡ k + 1 - 1 = omega arith in
      turn-behind places b new.spokes k first_k (omega arith)
      ∙ ap (λ c. turn_at places c (get_or new.spokes (k - 1) 0) (get_or new.spokes k 0)) (stands-turned now.at_vertex k 1 refl)
      ∙ ap₂ (turn_at places (stands_before now.at_vertex (k + 1)))
      (sym (inner (k - 1) (omega arith)) ∙ ap (λ i. get_or now.spokes i 0) g) (sym (inner k below))
      ∙ sym (turn-behind places now.at_vertex now.spokes (k + 1) (omega arith) (omega arith)) ∙ turns.1 (k + 1) (omega arith) (omega arith)
      ) in
      let all = same-rows (turn_along places b new.spokes) (λ k. 2) n (omega arith)
      (λ k. ap (λ m. turn_along places b new.spokes (k + m)) (sym new_long) ∙ turn-round places b new.spokes s.acts.loop.even k) (λ k. refl)
      (λ k below. elim (cases_eq k 0) [
        | inl is ↦ ap (turn_along places b new.spokes) is ∙ seam
        | inr other ↦ far k (omega arith) below
      ]) in
      record {
        acts = acts-on places start now new t.acts s.acts;
        as_long = new_long;
        twos = λ k. ap (λ c. turn_along places c new.spokes k) v ∙ all k;
      }

  -- a ring at the vertex, where a spur was put in
  pub turning-begins : (start now : SpokeRingView) (z : ℕ) → IsLoop places start.spokes → 2 ≤ length start.spokes → start.at_vertex ≡ true →
      ((k : ℕ) → ring_turn places start k ≡ minus d 2) → z < d →
      place_round places true z ≡ add d (place_round places true (get_or start.spokes 0 0)) 1 →
      now.spokes ≡ start.spokes ++ z ∷ z ∷ [] → now.at_vertex ≡ start.at_vertex → Turning places start now (length start.spokes)
  turning-begins start now z loop two vertex falls z_in place e v =
      let s = start.spokes in
      let begun = turning-start s loop two (λ k. ap (λ b. turn_along places b s k) (sym vertex) ∙ falls k) z z_in place in
      let from : ring s true ≡ start = ap (ring s) (sym vertex) in
      let to : ring (s ++ z ∷ z ∷ []) true ≡ now = ap₂ ring (sym e) (sym (v ∙ vertex)) in
      subst (λ x. Turning places start x (length s)) to (subst (λ x. Turning places x (ring (s ++ z ∷ z ∷ []) true) (length s)) from begun)

-- a ring that was gone on along to a seam at the vertex
pub record AtVertex (places : List ℕ) (old new : SpokeRingView) : Type 0 where
  pub acts : RingLeads places old new
  pub as_long : length new.spokes ≡ length old.spokes
  pub fine : IsFineRing places old → IsFineRing places new
  pub twos : 0 < length old.spokes → ((k : ℕ) → ring_turn places old k ≡ 2) → (k : ℕ) → ring_turn places new k ≡ 2

pub at-vertex : (places : List ℕ) (old new : SpokeRingView) → IsLoop places old.spokes →
    new.spokes ≡ (if old.at_vertex then old.spokes else rotated 1 old.spokes) → new.at_vertex ≡ true → AtVertex places old new
at-vertex places old new loop e v = go old.at_vertex old.spokes loop e
  where
    stays : (s : List ℕ) → IsLoop places s → new.spokes ≡ s → AtVertex places (record { spokes = s; at_vertex = true }) new
    stays s loop e = subst (AtVertex places (record { spokes = s; at_vertex = true }))
        (sym (ap₂ (λ x y. record { spokes = x; at_vertex = y }) e v))
        (record {
          acts = acts-start places (record { spokes = s; at_vertex = true }) loop;
          as_long = refl;
          fine = λ f. f;
          twos = λ some
              f. f;
        })

    goes : (s : List ℕ) → IsLoop places s → 0 < length s → new.spokes ≡ rotated 1 s →
        AtVertex places (record { spokes = s; at_vertex = false }) new
    goes s loop some e =
        let w = went-forward places (record { spokes = s; at_vertex = false }) new loop some e v in
        record {
          acts = w.acts;
          as_long = w.as_long;
          fine = fine-on places (record { spokes = s; at_vertex = false }) new loop some w;
          twos = λ _ f k. w.turns k ∙ f (k + 1);
        }

    go : (b : Bool) (s : List ℕ) → IsLoop places s → new.spokes ≡ (if b then s else rotated 1 s) →
        AtVertex places (record { spokes = s; at_vertex = b }) new
    go true s loop e = stays s loop e
    go false [] loop e =
        let is : new ≡ record { spokes = []; at_vertex = true } = ap₂ (λ x y. record { spokes = x; at_vertex = y }) e v in
        subst (AtVertex places (record { spokes = []; at_vertex = false })) (sym is) (record {
          acts = record { loop = loop; leads = leads-same places [] [] refl };
          as_long = refl;
          fine = λ f j below. absurd (omega arith);
          twos = λ some f k. absurd (omega arith);
        })
    go false (x ∷ s) loop e = goes (x ∷ s) loop (omega arith) e

-- turns 2 alone are canonical
pub twos-canonical : (d n : ℕ) (turn : ℕ → ℕ) → 5 ≤ d → 0 < n → ((k : ℕ) → turn k ≡ 2) → IsCanonicalRow d n turn
twos-canonical d n turn five some twos = record {
  some = some;
  comes_round = λ k. twos (k + n) ∙ sym (twos k);
  below = λ k. (let is = twos k in omega arith);
  no_spur = λ k e. (let is = twos k in omega arith);
  no_minus = λ k e. (let is = twos k in let one = minus-one d five in omega arith);
  no_bracket = λ k m e run f. (let is = twos k in omega arith);
  not_all_fall = λ falls. (let is = twos 0 in let two = minus-two d five in let fall = falls 0 in omega arith);
}

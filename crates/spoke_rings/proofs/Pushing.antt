-- What a push over the seam makes of the turns, and that it is a way across a quad.
use Rattle.spoke_rings.proofs.Common.{up-one, down-one, less-one, more-one, turn-up, turn-down, stands_before, turn_along, IsLoop, IsFullWheel, LoopLeads, SpokeRingView, Pushes, TurnsPushed, one_on, ring_from_vertex, ring_turn, RingLeads, ◌≡◌, ℕ, ◌+◌, ◌-◌, ◌%◌, ◌<◌, ◌≤◌, inl, inr, arith, refl, sym, ◌∙◌, ap, ap₂, subst, zero, suc, Bool, true, false, not, List, [], ◌∷◌, ◌++◌, take, drop, length, get_or, drop-append_seam, take-append_seam, get_or-append_seam, cases_eq, same_number_lists, length-append, get_or_append_left, IsQuad, add-cases, minus-cases, minus-one, add-lt, minus-lt, add, minus, place_round}
use Rattle.spoke_rings.proofs.Leading.{leads-same, leads-on, quad-down, quad-up, seam-down, seam-up}
use Rattle.spoke_rings.proofs.RingTurns.{turn_at, turn-seam, turn-behind, stands-odd, place-below, spoke-below}

-- a list with two ends
pub record Ends (s : List ℕ) : Type 0 where
  pub inner : List ℕ
  pub long : length inner + 2 ≡ length s
  pub is : s ≡ get_or s 0 0 ∷ inner ++ get_or s (length s - 1) 0 ∷ []

pub last-apart : (x : ℕ) (r : List ℕ) → (init : List ℕ) × (last : ℕ) × (x ∷ r ≡ init ++ last ∷ [])
last-apart x [] = ([], x, refl)
last-apart x (y ∷ r) = let rest = last-apart y r in (x ∷ rest.0, rest.1, ap (λ l. x ∷ l) rest.2)

pub two-ends : (s : List ℕ) → 2 ≤ length s → Ends s
two-ends [] two = absurd (omega arith)
two-ends (x ∷ []) two = absurd (omega arith)
two-ends (x ∷ y ∷ r) two =
    let apart = last-apart y r in
    let whole : x ∷ y ∷ r ≡ x ∷ apart.0 ++ apart.1 ∷ [] = ap (λ l. x ∷ l) apart.2 in
    let all = ap length apart.2 in
    let long = length-append apart.0 (apart.1 ∷ []) in
    let last : get_or (x ∷ y ∷ r) (length (x ∷ y ∷ r) - 1) 0 ≡ apart.1 =
    ap₂ (λ l i. get_or l i 0) whole (let e : length (x ∷ y ∷ r) - 1 ≡ length (x ∷ apart.0) = omega arith in e)
    ∙ get_or-append_seam (x ∷ apart.0) apart.1 [] 0 in
    record { inner = apart.0; long = omega arith; is = whole ∙ ap (λ z. x ∷ apart.0 ++ z ∷ []) (sym last) }

other-first : (x y : ℕ) (r : List ℕ) (k : ℕ) → 0 < k → get_or (x ∷ r) k 0 ≡ get_or (y ∷ r) k 0
other-first x y r zero some = absurd (omega arith)
other-first x y r (suc k) some = refl

-- a list with the same inner part
pub same-inner : (s t r : List ℕ) (first last : ℕ) → s ≡ first ∷ r ++ last ∷ [] → length t ≡ length s →
    ((k : ℕ) → 0 < k → k + 1 < length s → get_or t k 0 ≡ get_or s k 0) → t ≡ get_or t 0 0 ∷ r ++ get_or t (length s - 1) 0 ∷ []
same-inner s t r first last is long between =
    let whole = ap length is in
    let inner = length-append r (last ∷ []) in
    let new = length-append r (get_or t (length s - 1) 0 ∷ []) in
    same_number_lists t (get_or t 0 0 ∷ r ++ get_or t (length s - 1) 0 ∷ []) (omega arith) (λ k below. elim (cases_eq k 0) [
      | inl zero_is ↦ ap (λ i. get_or t i 0) zero_is
          ∙ sym (ap (λ i. get_or (get_or t 0 0 ∷ r ++ get_or t (length s - 1) 0 ∷ []) i 0) zero_is)
      | inr some ↦ elim (cases_eq k (length s - 1)) [
        | inl end ↦
            let e : k ≡ length (get_or t 0 0 ∷ r) = omega arith in
            ap (λ i. get_or t i 0) end
            ∙ sym (ap (λ i. get_or (get_or t 0 0 ∷ r ++ get_or t (length s - 1) 0 ∷ []) i 0) e
            ∙ get_or-append_seam (get_or t 0 0 ∷ r) (get_or t (length s - 1) 0) [] 0)
        | inr inside ↦
            let less : k < length (first ∷ r) = omega arith in
            between k (omega arith) (omega arith) ∙ ap (λ l. get_or l k 0) is
            ∙ get_or_append_left (first ∷ r) (last ∷ []) 0 k less
            ∙ other-first first (get_or t 0 0) r k (omega arith)
            ∙ sym (get_or_append_left (get_or t 0 0 ∷ r) (get_or t (length s - 1) 0 ∷ []) 0 k less)
      ]
    ])

-- the list from the vertex on, by the two spokes at the seam
abbrev pub seamed : Bool → ℕ → List ℕ → ℕ → List ℕ
seamed true first r last = first ∷ r ++ last ∷ []
seamed false first r last = last ∷ first ∷ r

pub from-seam : (v : Bool) (s r : List ℕ) (first last : ℕ) → s ≡ first ∷ r ++ last ∷ [] →
    ring_from_vertex (record { spokes = s; at_vertex = v }) ≡ seamed v first r last
from-seam true s r first last is = is
from-seam false s r first last is =
    let inner = length-append r (last ∷ []) in
    let long : length (first ∷ r ++ last ∷ []) - 1 ≡ length (first ∷ r) = omega arith in
    ap (λ l. drop (length l - 1) l ++ take (length l - 1) l) is
    ∙ ap (λ n. drop n (first ∷ r ++ last ∷ []) ++ take n (first ∷ r ++ last ∷ [])) long
    ∙ ap₂ (λ x y. x ++ y) (drop-append_seam (first ∷ r) (last ∷ [])) (take-append_seam (first ∷ r) (last ∷ []))

module _ (places : List ℕ) (full : IsFullWheel places) where
  abbrev d : ℕ
  d = length places

  four : 4 ≤ d
  four = let five = full.own.five in omega arith

  abbrev place : ℕ → ℕ
  place i = get_or places i 0

  -- a spoke is told by its place
  by-place : (i j : ℕ) → i < d → j < d → place i ≡ place j → i ≡ j
  by-place = full.own.wheel.once

  on-back : (x : ℕ) → x < d → add d (add d x 1) (minus d 1) ≡ x
  on-back x h = let five = full.own.five in omega (arith, minus-one d five, add-cases d x 1, add-cases d (add d x 1) (minus d 1))

  back-on : (x : ℕ) → x < d → add d (add d x (minus d 1)) 1 ≡ x
  back-on x h = let five = full.own.five in omega (arith, minus-one d five, add-cases d x (minus d 1), add-cases d (add d x (minus d 1)) 1)

  turn-less : (x : ℕ) → x < d → add d (add d x (minus d 1)) (minus d x) ≡ minus d 1
  turn-less x h = grind (arith, minus-one, minus-cases, add-cases)

  turn-more : (x : ℕ) → x < d → add d x (minus d (add d x (minus d 1))) ≡ 1
  turn-more x h = grind (arith, add-lt, minus-one, add-cases, minus-cases)

  next-below : (x : ℕ) → x < d → add d x 1 < d
  next-below x h = add-lt d x 1 h (let five = full.own.five in omega arith)

  -- a push goes across a quad
  pub record Across (v up : Bool) (first last new_first new_last : ℕ) : Type 0 where
    pub leads : (r : List ℕ) → length r % 2 ≡ 0 → LoopLeads places (seamed v first r last) (seamed v new_first r new_last)
    pub turn : turn_at places v new_last new_first ≡ one_on d up

  pub across : (v up : Bool) (f l g m : ℕ) → f < d → l < d → g < d → m < d → turn_at places v l f ≡ one_on d (not up) →
      place_round places (not v) m ≡ add d (place_round places (not v) l) (one_on d up) →
      place_round places (not v) g ≡ add d (place_round places (not v) f) (one_on d (not up)) → Across v up f l g m
  across true false f l g m f_in l_in g_in m_in turn last first =
      let q = full.full f f_in in
      let c = q.partner in
      let c_in = q.quad.c_below in
      let inside = full.own.wheel.inside in
      let l_is : l ≡ add d c 1 = by-place l (add d c 1) l_in (next-below c c_in)
      (less-one d four (place l) (place f) (inside l l_in) (inside f f_in)
      (up-one d four (place l) (place f) (inside l l_in) (inside f f_in) turn) ∙ sym q.quad.a_place) in
      let m_is : m ≡ c = last ∙ ap (λ x. add d x (minus d 1)) l_is ∙ on-back c c_in in
      record {
        leads = λ r even. subst (λ x. LoopLeads places (f ∷ r ++ x ∷ []) (g ∷ r ++ m ∷ [])) (sym l_is)
            (subst (λ x. LoopLeads places (f ∷ r ++ add d c 1 ∷ []) (x ∷ r ++ m ∷ [])) (sym first)
            (subst (λ x. LoopLeads places (f ∷ r ++ add d c 1 ∷ []) (add d f 1 ∷ r ++ x ∷ [])) (sym m_is)
            (seam-down places f c r q.quad (next-below f f_in))));
        turn = ap₂ (λ x y. turn_at places true x y) m_is first ∙ ap (λ x. add d x (minus d (place c))) q.quad.c_place
            ∙ turn-less (place c) (inside c c_in);
      }
  across true true f l g m f_in l_in g_in m_in turn last first =
      let q = full.full g g_in in
      let c = q.partner in
      let c_in = q.quad.c_below in
      let inside = full.own.wheel.inside in
      let f_is : f ≡ add d g 1 = sym (ap (λ x. add d x 1) first ∙ back-on f f_in) in
      let up_place : add d (place f) 1 ≡ place l = down-one d four (place l) (place f) (inside l l_in) (inside f f_in) turn in
      let c_place : place f ≡ add d (place c) (minus d 1) = ap place f_is ∙ q.quad.c_place in
      let l_is : l ≡ c = by-place l c l_in c_in
      (sym up_place ∙ more-one d four (place f) (place c) (inside f f_in) (inside c c_in) c_place) in
      let m_is : m ≡ add d c 1 = last ∙ ap (λ x. add d x 1) l_is in
      record {
        leads = λ r even. subst (λ x. LoopLeads places (x ∷ r ++ l ∷ []) (g ∷ r ++ m ∷ [])) (sym f_is)
            (subst (λ x. LoopLeads places (add d g 1 ∷ r ++ x ∷ []) (g ∷ r ++ m ∷ [])) (sym l_is)
            (subst (λ x. LoopLeads places (add d g 1 ∷ r ++ c ∷ []) (g ∷ r ++ x ∷ [])) (sym m_is)
            (seam-up places g c r q.quad (next-below c c_in) even)));
        turn = ap (λ x. turn_at places true x g) m_is ∙ ap (λ x. add d (place g) (minus d x)) q.quad.a_place
            ∙ turn-more (place g) (inside g g_in);
      }
  across false false f l g m f_in l_in g_in m_in turn last first =
      let q = full.full l l_in in
      let c = q.partner in
      let c_in = q.quad.c_below in
      let inside = full.own.wheel.inside in
      let f_is : f ≡ add d l 1 = sym (up-one d four l f l_in f_in turn) in
      let m_is : m ≡ add d c 1 = by-place m (add d c 1) m_in (next-below c c_in) (last ∙ sym q.quad.a_place) in
      let g_is : g ≡ c = by-place g c g_in c_in (first ∙ ap (λ x. add d (place x) 1) f_is ∙ ap (λ x. add d x 1) q.quad.c_place
      ∙ back-on (place c) (inside c c_in)) in
      record {
        leads = λ r even. subst (λ x. LoopLeads places (l ∷ x ∷ r) (m ∷ g ∷ r)) (sym f_is)
            (subst (λ x. LoopLeads places (l ∷ add d l 1 ∷ r) (x ∷ g ∷ r)) (sym m_is)
            (subst (λ x. LoopLeads places (l ∷ add d l 1 ∷ r) (add d c 1 ∷ x ∷ r)) (sym g_is) (quad-down places l c r q.quad)));
        turn = ap₂ (λ x y. turn_at places false x y) m_is g_is ∙ turn-down d four c c_in;
      }
  across false true f l g m f_in l_in g_in m_in turn last first =
      let q = full.full f f_in in
      let a = q.partner in
      let a_in = q.quad.c_below in
      let inside = full.own.wheel.inside in
      let back : IsQuad places a f =
      record { a_below = a_in; c_below = f_in; a_place = q.quad.c_place; c_place = q.quad.a_place } in
      let l_is : l ≡ add d f 1 = sym (down-one d four l f l_in f_in turn) in
      let m_is : m ≡ a = by-place m a m_in a_in (last ∙ ap (λ x. add d (place x) 1) l_is ∙ ap (λ x. add d x 1) back.a_place
      ∙ back-on (place a) (inside a a_in)) in
      let g_is : g ≡ add d a 1 = by-place g (add d a 1) g_in (next-below a a_in) (first ∙ sym back.c_place) in
      record {
        leads = λ r even. subst (λ x. LoopLeads places (x ∷ f ∷ r) (m ∷ g ∷ r)) (sym l_is)
            (subst (λ x. LoopLeads places (add d f 1 ∷ f ∷ r) (x ∷ g ∷ r)) (sym m_is)
            (subst (λ x. LoopLeads places (add d f 1 ∷ f ∷ r) (a ∷ x ∷ r)) (sym g_is) (quad-up places a f r back)));
        turn = ap₂ (λ x y. turn_at places false x y) m_is g_is ∙ turn-up d four a a_in;
      }

  -- one on and the other back
  on-off : (up : Bool) (x y : ℕ) → x < d → y < d →
      add d x (minus d (add d y (one_on d (not up)))) ≡ add d (add d x (minus d y)) (one_on d up)
  on-off true x y hx hy = grind (arith, add-lt, minus-one, add-cases, minus-cases)
  on-off false x y hx hy = grind (arith, minus-one, add-cases, minus-cases)

  on-before : (up : Bool) (x y : ℕ) → x < d → y < d → add d (add d x (one_on d up)) (minus d y) ≡ add d (add d x (minus d y)) (one_on d up)
  on-before true x y hx hy = grind (arith, add-cases, minus-cases)
  on-before false x y hx hy = grind (arith, minus-one, add-cases, minus-cases)

  on-below : (up : Bool) (x : ℕ) → x < d → add d x (one_on d up) < d
  on-below true x hx = next-below x hx
  on-below false x hx = add-lt d x (minus d 1) hx (let five = full.own.five in let one = minus-one d five in omega arith)

  module _ (up : Bool) (old new : SpokeRingView) (loop : IsLoop places old.spokes) (some : 2 ≤ length old.spokes)
      (p : Pushes places up old new) (seam : ring_turn places old 0 ≡ one_on d (not up)) where
    abbrev n : ℕ
    n = length old.spokes

    abbrev v : Bool
    v = old.at_vertex

    abbrev was : ℕ → ℕ
    was k = get_or old.spokes k 0

    abbrev is : ℕ → ℕ
    is k = get_or new.spokes k 0

    was-below : (k : ℕ) → k < n → was k < d
    was-below k below = spoke-below places old.spokes k loop below

    is-below : (k : ℕ) → k < n → is k < d
    is-below k below = let long = p.as_long in spoke-below places new.spokes k p.loop (omega arith)

    round-below : (b : Bool) (i : ℕ) → i < d → place_round places b i < d
    round-below b i below = place-below places b i full.own.wheel below

    goes-across : Across v up (was 0) (was (n - 1)) (is 0) (is (n - 1))
    goes-across =
        across v up (was 0) (was (n - 1)) (is 0) (is (n - 1)) (was-below 0 (omega arith)) (was-below (n - 1) (omega arith))
        (is-below 0 (omega arith)) (is-below (n - 1) (omega arith)) (sym (turn-seam places v old.spokes (omega arith))
        ∙ seam) p.last p.first

    pub push-acts : RingLeads places old new
    push-acts =
        let ends = two-ends old.spokes some in
        let long = ends.long in
        let even = loop.even in
        let old_is = from-seam v old.spokes ends.inner (was 0) (was (n - 1)) ends.is in
        let new_list = same-inner old.spokes new.spokes ends.inner (was 0) (was (n - 1)) ends.is p.as_long p.between in
        let new_is = from-seam v new.spokes ends.inner (is 0) (is (n - 1)) new_list in
        record {
          loop = p.loop;
          leads = leads-on places (ring_from_vertex old) (seamed v (was 0) ends.inner (was (n - 1))) (ring_from_vertex new)
              (leads-same places _ _ old_is)
              (leads-on places (seamed v (was 0) ends.inner (was (n - 1))) (seamed v (is 0) ends.inner (is (n - 1))) (ring_from_vertex new)
              (goes-across.leads ends.inner (omega arith))
              (leads-same places _ _
              (sym (ap (λ b. ring_from_vertex (record { spokes = new.spokes; at_vertex = b })) p.at_vertex ∙ new_is))));
        }

    -- a turn of the new ring, by its two spokes
    new-turn : (k : ℕ) → 0 < k → k < n → ring_turn places new k ≡ turn_at places (stands_before v k) (is (k - 1)) (is k)
    new-turn k first below =
        ap (λ b. turn_along places b new.spokes k) p.at_vertex ∙ turn-behind places v new.spokes k first (omega arith)

    old-turn : (k : ℕ) → 0 < k → k < n → ring_turn places old k ≡ turn_at places (stands_before v k) (was (k - 1)) (was k)
    old-turn k first below = turn-behind places v old.spokes k first below

    odd-turn : (k x y : ℕ) → k % 2 ≡ 1 → turn_at places (stands_before v k) x y ≡ turn_at places (not v) x y
    odd-turn k x y odd = ap (λ b. turn_at places b x y) (stands-odd v k odd)

    pub push-turns : TurnsPushed d n up (ring_turn places old) (ring_turn places new)
    push-turns =
        let long = p.as_long in
        let even = loop.even in
        let first_in = round-below (not v) (was 0) (was-below 0 (omega arith)) in
        let last_in = round-below (not v) (was (n - 1)) (was-below (n - 1) (omega arith)) in
        record {
          seam = ap (λ b. turn_along places b new.spokes 0) p.at_vertex ∙ turn-seam places v new.spokes (omega arith)
              ∙ ap (λ m. turn_at places v (get_or new.spokes (m - 1) 0) (is 0)) long ∙ goes-across.turn;
          behind = λ more. new-turn 1 (omega arith) (omega arith) ∙ odd-turn 1 (is 0) (is 1) refl
              ∙ ap (λ y. turn_at places (not v) (is 0) y) (p.between 1 (omega arith) (omega arith))
              ∙ ap (λ x. add d (place_round places (not v) (was 1)) (minus d x)) p.first
              ∙ on-off up (place_round places (not v) (was 1)) (place_round places (not v) (was 0))
              (round-below (not v) (was 1) (was-below 1 (omega arith))) first_in
              ∙ ap (λ x. add d x (one_on d up)) (sym (old-turn 1 (omega arith) (omega arith) ∙ odd-turn 1 (was 0) (was 1) refl));
          before = λ more.
              let odd : (n - 1) % 2 ≡ 1 = omega arith in
              new-turn (n - 1) (omega arith) (omega arith) ∙ odd-turn (n - 1) (is (n - 1 - 1)) (is (n - 1)) odd
              ∙ ap (λ x. turn_at places (not v) x (is (n - 1))) (p.between (n - 1 - 1) (omega arith) (omega arith))
              ∙ ap (λ y. add d y (minus d (place_round places (not v) (was (n - 1 - 1))))) p.last
              ∙ on-before up (place_round places (not v) (was (n - 1))) (place_round places (not v) (was (n - 1 - 1))) last_in
              (round-below (not v) (was (n - 1 - 1)) (was-below (n - 1 - 1) (omega arith)))
              ∙ ap (λ x. add d x (one_on d up))
              (sym (old-turn (n - 1) (omega arith) (omega arith) ∙ odd-turn (n - 1) (was (n - 1 - 1)) (was (n - 1)) odd));
          other = λ two.
              let end : n - 1 ≡ 1 = omega arith in
              let last_new = ap (λ k. place_round places (not v) (is k)) (sym end) ∙ p.last
              ∙ ap (λ k. add d (place_round places (not v) (was k)) (one_on d up)) end in
              let one_in = round-below (not v) (was 1) (was-below 1 (omega arith)) in
              let turn_in = add-lt d (place_round places (not v) (was 1)) (minus d (place_round places (not v) (was 0))) one_in
              (minus-lt d (place_round places (not v) (was 0)) first_in) in
              new-turn 1 (omega arith) (omega arith) ∙ odd-turn 1 (is 0) (is 1) refl
              ∙ ap₂ (λ x y. add d x (minus d y)) last_new p.first
              ∙ on-off up (add d (place_round places (not v) (was 1)) (one_on d up)) (place_round places (not v) (was 0))
              (on-below up (place_round places (not v) (was 1)) one_in) first_in
              ∙ ap (λ x. add d x (one_on d up)) (on-before up (place_round places (not v) (was 1)) (place_round places (not v) (was 0))
              one_in first_in
              ∙ ap (λ x. add d x (one_on d up)) (sym (old-turn 1 (omega arith) (omega arith) ∙ odd-turn 1 (was 0) (was 1) refl)));
          far = λ k two within. new-turn k (omega arith) (omega arith)
              ∙ ap₂ (turn_at places (stands_before v k)) (p.between (k - 1) (omega arith) (omega arith))
              (p.between k (omega arith) (omega arith))
              ∙ sym (old-turn k (omega arith) (omega arith));
        }

-- The two ways round a quad, with numbers: what is known of the one, and what the other is.
use Rattle.spoke_paths.proofs.Common.{is_quad, upper_way, lower_way, HasQuads, ◌≡◌, ℕ, ◌<◌, ◌≤◌, arith, refl, sym, ◌∙◌, ap, Bool, true, false, not, List, [], ◌∷◌, length, get_or, and_from, if◌then◌else◌, IsQuad, add-cases, minus-cases, add-lt, minus-lt, add, minus, place_round, IsWheel}

quad-true : (places : List ℕ) (a c : ℕ) → IsQuad places a c → is_quad places a c ≡ true
quad-true places a c q = grind (arith, and_from)

other-side : (places : List ℕ) (a c : ℕ) → IsQuad places a c → IsQuad places c a
other-side places a c q = record { a_below = q.c_below; c_below = q.a_below; a_place = q.c_place; c_place = q.a_place }

pub partner-quad : (places : List ℕ) → HasQuads places → (side next partner : ℕ) → side < length places → next < length places →
    get_or places next 0 ≡ add (length places) (get_or places side 0) (minus (length places) 1)
    → partner ≡ add (length places) next (minus (length places) 1) →
    (is_quad places side partner ≡ true) × (is_quad places partner side ≡ true)
partner-quad places w side next partner side_in next_in place e =
    grind (arith, add-lt, minus-lt, add-cases, minus-cases, quad-true, other-side)

module _ (d : ℕ) (four : 4 ≤ d) where
  -- a turn 1 or -1 between numbers
  pub up-one : (x y : ℕ) → x < d → y < d → add d y (minus d x) ≡ 1 → add d x 1 ≡ y
  up-one x y hx hy e = omega (arith, minus-cases d x hx, add-cases d y (minus d x), add-cases d x 1)

  pub down-one : (x y : ℕ) → x < d → y < d → add d y (minus d x) ≡ minus d 1 → add d y 1 ≡ x
  down-one x y hx hy e = grind (arith, minus-cases, add-cases)

  pub less-one : (x y : ℕ) → x < d → y < d → add d x 1 ≡ y → x ≡ add d y (minus d 1)
  less-one x y hx hy e = grind (arith, minus-cases, add-cases)

  pub more-one : (x y : ℕ) → x < d → y < d → x ≡ add d y (minus d 1) → add d x 1 ≡ y
  more-one x y hx hy e = grind (arith, minus-cases, add-cases)

  pub turn-up : (x : ℕ) → x < d → add d (add d x 1) (minus d x) ≡ 1
  turn-up x hx = omega (arith, minus-cases d x hx, add-cases d x 1, add-cases d (add d x 1) (minus d x))

  pub turn-down : (x : ℕ) → x < d → add d x (minus d (add d x 1)) ≡ minus d 1
  turn-down x hx = grind (arith, add-lt, minus-cases, add-cases)

-- the turn between two neighbours
abbrev turn_between : List ℕ → Bool → ℕ → ℕ → ℕ
turn_between places b x y = add (length places) (place_round places b y) (minus (length places) (place_round places b x))

module _ (places : List ℕ) (wheel : IsWheel places) (w : HasQuads places) where
  -- the way that two neighbours are
  pub lower-from-vertex : (first c a : ℕ) → first < length places → c < length places
      → turn_between places false first c ≡ minus (length places) 1 →
      lower_way (length places) true a c ≡ first ∷ c ∷ []
  lower-from-vertex first c a hf hc e = ap (λ n. n ∷ c ∷ []) (down-one (length places) w.four first c hf hc e)

  pub upper-from-vertex : (a second c : ℕ) → a < length places → second < length places → turn_between places false a second ≡ 1 →
      upper_way (length places) true a c ≡ a ∷ second ∷ []
  upper-from-vertex a second c ha hs e = ap (λ n. a ∷ n ∷ []) (up-one (length places) w.four a second ha hs e)

  -- the spoke after the one side of a quad stands one place before the other side
  after-side : (side partner other : ℕ) → IsQuad places side partner → other < length places
      → add (length places) (get_or places other 0) 1 ≡ get_or places partner 0 → add (length places) side 1 ≡ other
  after-side side partner other q ho e =
      let d = length places in
      let four = w.four in
      wheel.once (add d side 1) other (add-lt d side 1 q.a_below (omega arith)) ho
      (q.c_place
      ∙ sym (less-one d four (get_or places other 0) (get_or places partner 0) (wheel.inside other ho) (wheel.inside partner q.c_below) e))

  pub lower-from-middle : (c second a : ℕ) → IsQuad places a c → second < length places
      → turn_between places true c second ≡ minus (length places) 1 →
      lower_way (length places) false a c ≡ c ∷ second ∷ []
  lower-from-middle c second a q hs e =
      ap (λ n. c ∷ n ∷ []) (after-side a c second q hs (down-one (length places) w.four (get_or places c 0) (get_or places second 0)
      (wheel.inside c q.c_below) (wheel.inside second hs) e))

  pub upper-from-middle : (first a c : ℕ) → IsQuad places a c → first < length places → turn_between places true first a ≡ 1 →
      upper_way (length places) false a c ≡ first ∷ a ∷ []
  upper-from-middle first a c q hf e =
      ap (λ n. n ∷ a ∷ []) (after-side c a first (other-side places a c q) hf (up-one (length places) w.four (get_or places first 0)
      (get_or places a 0) (wheel.inside first hf) (wheel.inside a q.a_below) e))

  -- what a turn does to the places of the two neighbours
  pub record Changes (b : Bool) (one back x y v u : ℕ) : Type 0 where
    pub v_in : v < length places
    pub u_in : u < length places
    pub first : place_round places b v ≡ add (length places) (place_round places b x) back
    pub between : turn_between places (not b) v u ≡ back
    pub second : place_round places b u ≡ add (length places) (place_round places b y) one

  pub changes : (b up : Bool) (a c x y v u : ℕ) → IsQuad places a c →
      (if up then lower_way (length places) b a c else upper_way (length places) b a c) ≡ x ∷ y ∷ [] →
      (if up then upper_way (length places) b a c else lower_way (length places) b a c) ≡ v ∷ u ∷ [] →
      Changes b (if up then minus (length places) 1 else 1) (if up then 1 else minus (length places) 1) x y v u
  changes true true a c x y v u q old new =
      let d = length places in
      let four = w.four in
      let x_is : add d c 1 ≡ x = cc in
      let y_is : c ≡ y = cc in
      let v_is : a ≡ v = cc in
      let u_is : add d a 1 ≡ u = cc in
      let up_in = add-lt d a 1 q.a_below (omega arith) in
      let c_up_in = add-lt d c 1 q.c_below (omega arith) in
      let pa = wheel.inside a q.a_below in
      rw (← x_is, ← y_is, ← v_is, ← u_is) (record {
        v_in = q.a_below;
        u_in = up_in;
        first = sym (more-one d four _ _ (wheel.inside (add d c 1) c_up_in) pa q.a_place);
        between = turn-up d four a q.a_below;
        second = q.c_place;
      })
  changes true false a c x y v u q old new =
      let d = length places in
      let four = w.four in
      let x_is : a ≡ x = cc in
      let y_is : add d a 1 ≡ y = cc in
      let v_is : add d c 1 ≡ v = cc in
      let u_is : c ≡ u = cc in
      let up_in = add-lt d a 1 q.a_below (omega arith) in
      let c_up_in = add-lt d c 1 q.c_below (omega arith) in
      let pc = wheel.inside c q.c_below in
      rw (← x_is, ← y_is, ← v_is, ← u_is) (record {
        v_in = c_up_in;
        u_in = q.c_below;
        first = q.a_place;
        between = turn-down d four c q.c_below;
        second = sym (more-one d four _ _ (wheel.inside (add d a 1) up_in) pc q.c_place);
      })
  changes false true a c x y v u q old new =
      let d = length places in
      let four = w.four in
      let x_is : c ≡ x = cc in
      let y_is : add d a 1 ≡ y = cc in
      let v_is : add d c 1 ≡ v = cc in
      let u_is : a ≡ u = cc in
      let up_in = add-lt d a 1 q.a_below (omega arith) in
      let c_up_in = add-lt d c 1 q.c_below (omega arith) in
      let pa = wheel.inside a q.a_below in
      let pcu = wheel.inside (add d c 1) c_up_in in
      rw (← x_is, ← y_is, ← v_is, ← u_is) (record {
        v_in = c_up_in;
        u_in = q.a_below;
        first = refl;
        between = ap (λ n. add d n (minus d (get_or places (add d c 1) 0))) (sym (more-one d four _ _ pcu pa q.a_place))
            ∙ turn-up d four (get_or places (add d c 1) 0) pcu;
        second = less-one d four a (add d a 1) q.a_below up_in refl;
      })
  changes false false a c x y v u q old new =
      let d = length places in
      let four = w.four in
      let x_is : add d c 1 ≡ x = cc in
      let y_is : a ≡ y = cc in
      let v_is : c ≡ v = cc in
      let u_is : add d a 1 ≡ u = cc in
      let up_in = add-lt d a 1 q.a_below (omega arith) in
      let c_up_in = add-lt d c 1 q.c_below (omega arith) in
      let pc = wheel.inside c q.c_below in
      let pau = wheel.inside (add d a 1) up_in in
      rw (← x_is, ← y_is, ← v_is, ← u_is) (record {
        v_in = q.c_below;
        u_in = up_in;
        first = less-one d four c (add d c 1) q.c_below c_up_in refl;
        between = ap (λ n. add d (get_or places (add d a 1) 0) (minus d n)) (sym (more-one d four _ _ pau pc q.c_place))
            ∙ turn-down d four (get_or places (add d a 1) 0) pau;
        second = refl;
      })

-- A reduced path over the degree 4 goes on: along one of the four diagonals each of its steps leads one further.
use Rattle.spoke_paths.proofs.Common.{parity, IsFlatWheel, flat_next, Vector, origin, plus, less, unit_step, closes, HasNoBracket, IsReducedWord, ◌≡◌, ◌≢◌, ℕ, ◌<◌, ◌⊎◌, arith, inl, inr, refl, sym, ◌∙◌, ap, subst, suc, eqb, Bool, true, false, not, List, [], ◌∷◌, All, length, get_or, ℤ, pos, ◌+ℤ◌, ◌-ℤ◌, eq-eqb, ne_eqb, common_steps, if◌then◌else◌, led, in-range-from, InRange, add-cases, minus-cases, add-lt, minus-lt, add, minus, place_round, turns_after, turn_word_of}
use Rattle.flat_forms.specs.Lemmas.StepsInThePlane.{is-unit, next-even, next-odd}
use Rattle.std.proofs.lemmas.Int.{ints}

-- how far a point lies along the diagonal between a direction and the next one
abbrev along : ℕ → Vector → ℤ
along quarter s =
    if eqb quarter 0 then s.x +ℤ s.y else if eqb quarter 1 then s.y -ℤ s.x else if eqb quarter 2 then pos 0 -ℤ s.x -ℤ s.y else s.x -ℤ s.y

-- the direction of a step: a spoke out of the vertex, and the opposite one back to it. `at_vertex` tells where the step ends
abbrev direction : Bool → ℕ → ℕ
direction false spoke = spoke
direction true spoke = add 4 spoke 2

-- a direction on one of the two sides of a diagonal
abbrev Goes : ℕ → ℕ → Type 0
Goes quarter way = (way ≡ quarter) ⊎ (way ≡ add 4 quarter 1)

-- a point is a vertex or a middle
abbrev Stands : Bool → Vector → Type 0
Stands true s = parity s ≡ 0
Stands false s = parity s ≡ 1

below-four : (P : ℕ → Type 0) → P 0 → P 1 → P 2 → P 3 → (n : ℕ) → n < 4 → P n
below-four P zero_is one_is two_is three_is n h = grind arith

module _ (s : Vector) where
  abbrev Gains : Vector → ℕ → Type 0
  Gains t quarter = along quarter t ≡ along quarter s +ℤ pos 1

  -- a step in one of the two directions of a diagonal leads one further along it
  out-first : (quarter : ℕ) → quarter < 4 → Gains (plus s (unit_step quarter)) quarter
  out-first = below-four (λ q. Gains (plus s (unit_step q)) q) (omega (arith, ints)) (omega (arith, ints)) (omega (arith, ints))
      (omega (arith, ints))

  out-second : (quarter : ℕ) → quarter < 4 → Gains (plus s (unit_step (add 4 quarter 1))) quarter
  unfolding add
  out-second = below-four (λ q. Gains (plus s (unit_step (add 4 q 1))) q) (omega (arith, ints)) (omega (arith, ints)) (omega (arith, ints))
      (omega (arith, ints))

  back-first : (quarter : ℕ) → quarter < 4 → Gains (less s (unit_step (add 4 quarter 2))) quarter
  unfolding add
  back-first = below-four (λ q. Gains (less s (unit_step (add 4 q 2))) q) (omega (arith, ints)) (omega (arith, ints)) (omega (arith, ints))
      (omega (arith, ints))

  back-second : (quarter : ℕ) → quarter < 4 → Gains (less s (unit_step (add 4 quarter 3))) quarter
  unfolding add
  back-second = below-four (λ q. Gains (less s (unit_step (add 4 q 3))) q) (omega (arith, ints)) (omega (arith, ints)) (omega (arith, ints))
      (omega (arith, ints))

stands-next : (places : List ℕ) (b : Bool) (s : Vector) (i : ℕ) → Stands b s → Stands (not b) (flat_next places s i)
stands-next places true s i h = grind (arith, common_steps, is-unit, next-even)
stands-next places false s i h = grind (arith, common_steps, is-unit, next-odd)

-- a step gains along each diagonal beside its direction
gains : (places : List ℕ) (b : Bool) (s : Vector) (i quarter : ℕ) → Stands b s → i < 4 → quarter < 4 → Goes quarter (direction (not b) i) →
    along quarter (flat_next places s i) ≡ along quarter s +ℤ pos 1
gains places true s i quarter h i_in q_in (inl e) = rw (next-even places s i h, e) (out-first s quarter q_in)
gains places true s i quarter h i_in q_in (inr e) = rw (next-even places s i h, e) (out-second s quarter q_in)
gains places false s i quarter h i_in q_in (inl e) =
    let is : i ≡ add 4 quarter 2 = omega (arith, add-cases 4 i 2, add-cases 4 quarter 2) in
    rw (next-odd places s i (λ even. absurd (omega arith)), is) (back-first s quarter q_in)
gains places false s i quarter h i_in q_in (inr e) =
    let is : i ≡ add 4 quarter 3 = omega (arith, add-cases 4 i 2, add-cases 4 quarter 1, add-cases 4 quarter 3) in
    rw (next-odd places s i (λ even. absurd (omega arith)), is) (back-second s quarter q_in)

-- the place of a spoke is its number more than that of spoke 0
rises : (places : List ℕ) → IsFlatWheel places → (i : ℕ) → i < 4 → get_or places i 0 ≡ add 4 (get_or places 0 0) i
unfolding add
rises places w =
    let zero_in : get_or places 0 0 < 4 = rw (w.four) at (w.wheel.inside 0 (rw (w.four) (omega arith))) in
    let one : get_or places 1 0 ≡ add 4 (get_or places 0 0) 1 = w.rises 0 (omega arith) in
    let two : get_or places 2 0 ≡ add 4 (get_or places 1 0) 1 = w.rises 1 (omega arith) in
    let three : get_or places 3 0 ≡ add 4 (get_or places 2 0) 1 = w.rises 2 (omega arith) in grind (arith, below-four, add-cases)

-- how a turn leads on: straight on, or to one of the two sides. The ways are the directions before and after
data Kind (d way next t : ℕ) : Type 0 where
  straight : t ≡ 2 → t ≡ minus d 2 → next ≡ way → Kind d way next t
  right : t ≡ 1 → way ≡ add 4 next 1 → Kind d way next t
  left : t ≡ minus d 1 → next ≡ add 4 way 1 → Kind d way next t

kind-is : (d way next t : ℕ) → d ≡ 4 → way < 4 → t < 4 → t ≢ 0 → next ≡ add 4 (add 4 way t) 2 → Kind d way next t
kind-is d way next t four way_in t_in not_zero e = grind (arith, add-cases, minus-cases)

direction-in : (b : Bool) (q : ℕ) → q < 4 → direction b q < 4
direction-in true q h = add-lt 4 q 2 h (omega arith)
direction-in false q h = h

-- the turn from a spoke to the next one
abbrev turn_to : List ℕ → Bool → ℕ → ℕ → ℕ
turn_to places b q i = add (length places) (place_round places b i) (minus (length places) (place_round places b q))

turn-way : (places : List ℕ) → IsFlatWheel places → (b : Bool) (q i : ℕ) → q < 4 → i < 4 →
    (turn_to places b q i < 4) × (direction (not b) i ≡ add 4 (add 4 (direction b q) (turn_to places b q i)) 2)
turn-way places w true q i q_in i_in =
    let four = w.four in
    let p = get_or places 0 0 in
    let p_in : p < 4 = rw (w.four) at (w.wheel.inside 0 (rw (w.four) (omega arith))) in
    let t : ℕ = add 4 (add 4 p i) (minus 4 (add 4 p q)) in
    let is : turn_to places true q i ≡ t = rw (four, rises places w i i_in, rises places w q q_in) refl in
    let pq_in = add-lt 4 p q p_in q_in in
    rw is (
      add-lt 4 (add 4 p i) (minus 4 (add 4 p q)) (add-lt 4 p i p_in i_in) (minus-lt 4 (add 4 p q) pq_in),
      omega (
        arith,
        add-cases 4 p i,
        add-cases 4 p q,
        minus-cases 4 (add 4 p q) pq_in,
        add-cases 4 (add 4 p i) (minus 4 (add 4 p q)),
        add-cases 4 q 2,
        add-cases 4 (add 4 q 2) t,
        add-cases 4 (add 4 (add 4 q 2) t) 2,
      ),
    )
turn-way places w false q i q_in i_in = grind (arith, add-lt, minus-lt, minus-cases, add-cases)

-- after a turn to one side the next turn to a side goes back
data Pending (d quarter way : ℕ) (ts : List ℕ) : Type 0 where
  turned_right : way ≡ quarter → closes 1 2 ts ≡ false → Pending d quarter way ts
  turned_left : way ≡ add 4 quarter 1 → closes (minus d 1) (minus d 2) ts ≡ false → Pending d quarter way ts

closes-one : (one two : ℕ) (ts : List ℕ) → closes one two (one ∷ ts) ≡ true
closes-one one two ts = rw (eq-eqb one one refl) refl

closes-two : (one two : ℕ) (ts : List ℕ) → two ≢ one → closes one two (two ∷ ts) ≡ closes one two ts
closes-two one two ts h = rw (ne_eqb two one h, eq-eqb two two refl) refl

-- what closes cannot come
no-close : (one two t : ℕ) (ts : List ℕ) → closes one two (t ∷ ts) ≡ false → t ≢ one
no-close one two t ts shut e = let closing = ap (λ z. closes one two (z ∷ ts)) e ∙ closes-one one two ts in absurd cc

go-on : (one two t : ℕ) (ts : List ℕ) → two ≢ one → t ≡ two → closes one two (t ∷ ts) ≡ false → closes one two ts ≡ false
go-on one two t ts apart e shut = sym (ap (λ z. closes one two (z ∷ ts)) e ∙ closes-two one two ts apart) ∙ shut

pending-next : (d quarter way next t : ℕ) (ts : List ℕ) → d ≡ 4 → quarter < 4 → next < 4 → Pending d quarter way (t ∷ ts)
    → Kind d way next t → HasNoBracket d (t ∷ ts) →
    Pending d quarter next ts
pending-next d quarter way next t ts four q_in n_in (turned_right e shut) (straight two minus_two same) h = grind (arith, go-on)
pending-next d quarter way next t ts four q_in n_in (turned_right e shut) (right one turned) h = absurd (no-close 1 2 t ts shut one)
pending-next d quarter way next t ts four q_in n_in (turned_right e shut) (left minus_one turned) h = grind arith
pending-next d quarter way next t ts four q_in n_in (turned_left e shut) (straight two minus_two same) h =
    grind (arith, minus-cases, go-on)
pending-next d quarter way next t ts four q_in n_in (turned_left e shut) (right one turned) h = grind (arith, add-cases)
pending-next d quarter way next t ts four q_in n_in (turned_left e shut) (left minus_one turned) h = grind (arith, no-close)

pending-goes : (d quarter way : ℕ) (ts : List ℕ) → Pending d quarter way ts → Goes quarter way
pending-goes d quarter way ts (turned_right e shut) = inl e
pending-goes d quarter way ts (turned_left e shut) = inr e

add-one : (a b c : ℤ) (n : ℕ) → a ≡ b +ℤ pos n → b ≡ c +ℤ pos 1 → a ≡ c +ℤ pos (suc n)
add-one a b c n e f = omega (arith, ints)

module _ (places : List ℕ) (w : IsFlatWheel places) where
  kind : (b : Bool) (q i : ℕ) → q < 4 → i < 4 → turn_to places b q i ≢ 0
      → Kind (length places) (direction b q) (direction (not b) i) (turn_to places b q i)
  kind b q i q_in i_in not_zero = grind (arith, turn-way, kind-is, direction, direction-in)

  -- from a turn to one side on, each step leads one further along one diagonal
  goes-on : (b : Bool) (s : Vector) (q quarter : ℕ) (path : List ℕ) → Stands b s → q < 4 → quarter < 4 → InRange 4 path →
      Pending (length places) quarter (direction b q) (turns_after places b q path)
      → HasNoBracket (length places) (turns_after places b q path) →
      along quarter (led flat_next places s path) ≡ along quarter s +ℤ pos (length path)
  goes-on b s q quarter [] h q_in quarter_in range p n = omega (arith, ints)
  goes-on b s q quarter (i ∷ path) h q_in quarter_in range p n =
      let k = kind b q i q_in range.0 n.0 in
      let later = pending-next (length places) quarter _ _ _ _ w.four quarter_in (direction-in (not b) i range.0) p k n in
      let goes = pending-goes _ quarter _ _ later in
      let gained = gains places b s i quarter h range.0 quarter_in goes in
      let rest = goes-on (not b) (flat_next places s i) i quarter path (stands-next places b s i h) range.0 quarter_in range.1 later n.3 in
      add-one _ _ _ (length path) rest gained

  -- a diagonal along which each step leads one further
  record Further (b : Bool) (s : Vector) (q : ℕ) (path : List ℕ) : Type 0 where
    quarter : ℕ
    quarter_in : quarter < 4
    goes : Goes quarter (direction b q)
    is : along quarter (led flat_next places s path) ≡ along quarter s +ℤ pos (length path)

  further : (b : Bool) (s : Vector) (q : ℕ) (path : List ℕ) → Stands b s → q < 4 → InRange 4 path
      → HasNoBracket (length places) (turns_after places b q path) →
      Further b s q path
  further b s q [] h q_in range n =
      record { quarter = direction b q; quarter_in = direction-in b q q_in; goes = inl refl; is = omega (arith, ints) }
  further b s q (i ∷ path) h q_in range n = elim (kind b q i q_in range.0 n.0) [
    | straight two minus_two same ↦
        let rest = further (not b) (flat_next places s i) i path (stands-next places b s i h) range.0 range.1 n.3 in
        let gained = gains places b s i rest.quarter h range.0 rest.quarter_in rest.goes in
        record {
          quarter = rest.quarter;
          quarter_in = rest.quarter_in;
          goes = rw (← same) rest.goes;
          is = add-one _ _ _ (length path) rest.is gained;
        }
    | right one turned ↦
        let next_in = direction-in (not b) i range.0 in
        let gained = gains places b s i (direction (not b) i) h range.0 next_in (inl refl) in
        let rest =
        goes-on (not b) (flat_next places s i) i (direction (not b) i) path (stands-next places b s i h) range.0 next_in range.1
        (turned_right refl (n.1 one)) n.3 in
        record { quarter = direction (not b) i; quarter_in = next_in; goes = inr turned; is = add-one _ _ _ (length path) rest gained }
    | left minus_one turned ↦
        let way_in = direction-in b q q_in in
        let gained = gains places b s i (direction b q) h range.0 way_in (inr turned) in
        let rest =
        goes-on (not b) (flat_next places s i) i (direction b q) path (stands-next places b s i h) range.0 way_in range.1
        (turned_left turned (n.2 minus_one)) n.3 in
        record { quarter = direction b q; quarter_in = way_in; goes = inl refl; is = add-one _ _ _ (length path) rest gained }
  ]

no-way-back : (a b c : ℤ) (n : ℕ) → a ≡ b +ℤ pos n → b ≡ c +ℤ pos 1 → a ≡ c → ⊥
no-way-back a b c n e f g = absurd (omega (arith, ints))

pub plane-empty : (places path : List ℕ) → IsFlatWheel places → All (λ spoke. spoke < length places) path
    → IsReducedWord (length places) (turn_word_of places path)
    → led flat_next places origin path ≡ origin → path ≡ []
plane-empty places [] w below reduced e = refl
plane-empty places (i ∷ path) w below reduced e =
    let range : InRange 4 (i ∷ path) = subst (λ d. InRange d (i ∷ path)) w.four (in-range-from (length places) (i ∷ path) below) in
    let s = flat_next places origin i in
    let f = further places w false s i path (stands-next places true origin i refl) range.0 range.1 reduced in
    let gained = gains places true origin i f.quarter refl range.0 f.quarter_in f.goes in grind (arith, no-way-back, along)

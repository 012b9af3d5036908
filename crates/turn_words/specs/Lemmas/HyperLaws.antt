-- The laws of a form, for degrees from 5 on.
use Rattle.std.proofs.Common.{◌≡◌, ◌≢◌, ℕ, ◌+◌, ◌%◌, ◌<◌, ◌≤◌, ◌⊎◌, inl, inr, arith, refl, sym, ◌∙◌, ap, ap₂, true, List, [], ◌∷◌, length, reverse, slice_index}
use Rattle.std.proofs.lemmas.Bool.{cases_eq, eq-eqb, ne_eqb}
use Rattle.std.proofs.lemmas.List.{reverse-reverse, length-reverse}
use Rattle.turn_words.specs.Modulo.{add, minus}
use Rattle.turn_words.specs.PutTurns.{is_open, flipped, closed, put}
use Rattle.turn_words.specs.Wheels.{IsWheel}
use Rattle.turn_words.specs.HyperStates.{HyperState, empty_state, IsEven, value_at, turn_to, hyper_next, IsHyperWheel, BelongsTo}
use Rattle.turn_words.specs.FormLaws.{StartsWell, StaysWell, ThereAndBack, AcrossQuads}
use Rattle.turn_words.specs.Lemmas.Sums.{add-cases, minus-cases, minus-one, add-lt, minus-lt}
use Rattle.turn_words.specs.Lemmas.WordEnds.{IsCanonicalBackward, open-cases, put-flip, put-close, put-else}
use Rattle.turn_words.specs.Lemmas.PutLaws.{put-good, put-put, cases, spur, flip, close, other}
use Rattle.turn_words.specs.Lemmas.Across.{first_quad_side, second_quad_side, across}
use Rattle.turn_words.specs.Lemmas.FromEnd.{canonical-from, good-from-canonical}

module _ (d : ℕ) (five : 5 ≤ d) where
  -- a put makes a word one longer or one shorter
  length-flipped : (x : ℕ) (r : List ℕ) → length (flipped d (x ∷ r)) ≡ length (x ∷ r) + 1
  length-flipped x [] = refl
  length-flipped x (y ∷ r) = elim (cases_eq x (minus d 2)) [
    | inl e ↦ let rest = length-flipped y r in rw (eq-eqb x (minus d 2) e) (omega arith)
    | inr e ↦ rw (ne_eqb x (minus d 2) e) (omega arith)
  ]

  length-closed : (x : ℕ) (r : List ℕ) → is_open (x ∷ r) ≡ true → length (closed d (x ∷ r)) + 1 ≡ length (x ∷ r)
  length-closed x [] o = absurd cc
  length-closed x (y ∷ r) o = elim ((open-cases x (y ∷ r) o).1) [
    | inl one ↦ rw one (omega arith)
    | inr two ↦ let rest = length-closed y r two.1 in rw two.0 (omega arith)
  ]

  pub length-put : (r : List ℕ) (t : ℕ) → (length (put d r t).word ≡ length r + 1) ⊎ (length (put d r t).word + 1 ≡ length r)
  length-put [] t = inl refl
  length-put (x ∷ r) t = elim (cases d five (x ∷ r) t) [
    | spur e ↦ rw e (inr (omega arith))
    | flip e ↦ rw (e, put-flip d five (x ∷ r) tt) (inl (length-flipped x r))
    | close e o ↦ rw (e, put-close d five (x ∷ r) o) (inr (length-closed x r o))
    | other f ↦ rw (put-else d five (x ∷ r) t tt f) (inl (omega arith))
  ]

  -- a number taken away twice
  take-back : (a b : ℕ) → a < d → b < d → add d a (minus d (add d a (minus d b))) ≡ b
  take-back a b ha hb =
      let inner = add-lt d a (minus d b) ha (minus-lt d b hb) in
      omega (
        arith,
        minus-cases d b hb,
        add-cases d a (minus d b),
        minus-cases d (add d a (minus d b)) inner,
        add-cases d a (minus d (add d a (minus d b))),
      )

  -- one more than a number, and a number taken away from it
  next-turn : (a n : ℕ) → a < d → n < d → add d (add d a 1) (minus d (add d a (minus d n))) ≡ add d 1 n
  next-turn a n ha hn =
      let inner = add-lt d a (minus d n) ha (minus-lt d n hn) in
      omega (
        arith,
        minus-cases d n hn,
        add-cases d a (minus d n),
        minus-cases d (add d a (minus d n)) inner,
        add-cases d a 1,
        add-cases d (add d a 1) (minus d (add d a (minus d n))),
        add-cases d 1 n,
      )

  back-turn : (c n : ℕ) → c < d → n < d → add d c (minus d (add d (add d c 1) (minus d n))) ≡ add d (minus d 1) n
  back-turn c n hc hn =
      let up = add-lt d c 1 hc (omega arith) in
      let inner = add-lt d (add d c 1) (minus d n) up (minus-lt d n hn) in
      omega (
        arith,
        minus-one d five,
        minus-cases d n hn,
        add-cases d c 1,
        add-cases d (add d c 1) (minus d n),
        minus-cases d (add d (add d c 1) (minus d n)) inner,
        add-cases d c (minus d (add d (add d c 1) (minus d n))),
        add-cases d (minus d 1) n,
      )

  lower-turn : (p m : ℕ) → p < d → m < d → add d (add d p (minus d 1)) (minus d m) ≡ add d (add d p (minus d m)) (minus d 1)
  lower-turn p m hp hm = omega (
    arith,
    minus-one d five,
    minus-cases d m hm,
    add-cases d p (minus d 1),
    add-cases d (add d p (minus d 1)) (minus d m),
    add-cases d p (minus d m),
    add-cases d (add d p (minus d m)) (minus d 1),
  )

  last-number : (p n n' : ℕ) → p < d → n < d → n' < d → add d n 1 ≡ n' → add d (add d p (minus d 1)) (minus d n) ≡ add d p (minus d n')
  last-number p n n' hp hn hn' e = omega (
    arith,
    minus-one d five,
    minus-cases d n hn,
    minus-cases d n' hn',
    add-cases d n 1,
    add-cases d p (minus d 1),
    add-cases d (add d p (minus d 1)) (minus d n),
    add-cases d p (minus d n'),
  )

abbrev record_state : List ℕ → ℕ → HyperState
record_state w n = record { word = w; number = n }

even-value : (places w : List ℕ) (i : ℕ) → length w % 2 ≡ 0 → value_at places w i ≡ slice_index places i
even-value places w i e = rw (eq-eqb (length w % 2) 0 e) refl

odd-value : (places w : List ℕ) (i : ℕ) → length w % 2 ≢ 0 → value_at places w i ≡ i
odd-value places w i e = rw (ne_eqb (length w % 2) 0 e) refl

value-below : (places w : List ℕ) (i : ℕ) → IsWheel places → i < length places → value_at places w i < length places
value-below places w i wheel below = elim (cases_eq (length w % 2) 0) [
  | inl e ↦ let is = even-value places w i e in let inside = wheel.inside i below in omega arith
  | inr e ↦ let is = odd-value places w i e in omega arith
]

-- a spoke leads where its turn does
next-is : (places : List ℕ) (s : HyperState) (i : ℕ) (u : List ℕ) (n : ℕ)
    → put (length places) (reverse s.word) (turn_to places s i) ≡ record { word = u; change = n } →
    hyper_next places s i ≡ record_state (reverse u) (add (length places) (value_at places (reverse u) i) (minus (length places) n))
next-is places s i u n e =
    ap (λ q. record_state (reverse q.word) (add (length places) (value_at places (reverse q.word) i) (minus (length places) q.change))) e

pub good_word : (places : List ℕ) (s : HyperState) → BelongsTo places s → IsCanonicalBackward (length places) (reverse s.word)
good_word places s b = good-from-canonical (length places) (reverse s.word) (rw (reverse-reverse s.word) b.canonical)

pub turn_below : (places : List ℕ) (s : HyperState) (i : ℕ) → BelongsTo places s → i < length places → turn_to places s i < length places
turn_below places s i b below =
    add-lt (length places) _ _ (value-below places s.word i b.own.wheel below) (minus-lt (length places) s.number b.number_below)

pub next_belongs : (places : List ℕ) (s : HyperState) (i : ℕ) → BelongsTo places s → i < length places
    → BelongsTo places (hyper_next places s i)
next_belongs places s i b below =
    let d = length places in
    let kept = put-good d b.own.five (reverse s.word) (turn_to places s i) (good_word places s b) (turn_below places s i b below) in
    record {
      own = b.own;
      canonical = canonical-from d (put d (reverse s.word) (turn_to places s i)).word kept.0;
      number_below = add-lt d _ _ (value-below places _ i b.own.wheel below) (minus-lt d _ kept.1);
    }

pub length-next : (places : List ℕ) (s : HyperState) (i : ℕ) → BelongsTo places s →
    (length (hyper_next places s i).word ≡ length s.word + 1) ⊎ (length (hyper_next places s i).word + 1 ≡ length s.word)
length-next places s i b =
    let p = put (length places) (reverse s.word) (turn_to places s i) in
    let back = length-reverse p.word in
    let front = length-reverse s.word in
    elim (length-put (length places) b.own.five (reverse s.word) (turn_to places s i)) [
      | inl longer ↦ inl (omega arith)
      | inr shorter ↦ inr (omega arith)
    ]

pub hyper_starts : StartsWell IsHyperWheel BelongsTo IsEven (λ s. length s.word) empty_state
hyper_starts = record {
  belongs = λ places own. record {
    own = own;
    canonical = canonical-from (length places) [] tt;
    number_below = let five = own.five in omega arith;
  };
  at_vertex = refl;
  size_zero = refl;
}

pub hyper_stays : StaysWell BelongsTo IsEven (λ s. length s.word) hyper_next
hyper_stays = record {
  belongs = next_belongs;
  at_vertex = λ places s i j b even i_below j_below. (
      let first = next_belongs places s i b i_below in
      let once = length-next places s i b in
      let twice = length-next places (hyper_next places s i) j first in
      omega arith
      );
  size_grows = λ places s i b below. let grown = length-next places s i b in omega arith;
}

pub hyper_there_and_back : ThereAndBack BelongsTo hyper_next
hyper_there_and_back places s i b below =
    let d = length places in
    let t = turn_to places s i in
    let p = put d (reverse s.word) t in
    let good = good_word places s b in
    let kept = put-good d b.own.five (reverse s.word) t good (turn_below places s i b below) in
    let middle = hyper_next places s i in
    let turn : turn_to places middle i ≡ p.change =
    take-back d b.own.five (value_at places (reverse p.word) i) p.change (value-below places _ i b.own.wheel below) kept.1 in
    let back : put d (reverse (reverse p.word)) (turn_to places middle i) ≡ record { word = reverse s.word; change = t } =
    ap₂ (put d) (reverse-reverse p.word) turn ∙ put-put d b.own.five (reverse s.word) t good in
    next-is places middle i (reverse s.word) t back
    ∙ ap (λ w. record_state w (add d (value_at places w i) (minus d t))) (reverse-reverse s.word)
    ∙ ap (record_state s.word)
    (take-back d b.own.five (value_at places s.word i) s.number (value-below places s.word i b.own.wheel below) b.number_below)

-- two spokes one after the other
two-next : (places : List ℕ) (s : HyperState) (i j t turn : ℕ) → BelongsTo places s → IsEven s → i < length places → j < length places →
    turn_to places s i ≡ t →
    add (length places) j
    (minus (length places) (add (length places) i (minus (length places) (put (length places) (reverse s.word) t).change))) ≡ turn →
    hyper_next places (hyper_next places s i) j
    ≡ record_state (reverse (put (length places) (put (length places) (reverse s.word) t).word turn).word)
    (add (length places) (slice_index places j)
    (minus (length places) (put (length places) (put (length places) (reverse s.word) t).word turn).change))
two-next places s i j t turn b even i_below j_below first second =
    let d = length places in
    let p = put d (reverse s.word) t in
    let q = put d p.word turn in
    let belongs = next_belongs places s i b i_below in
    let once = length-next places s i b in
    let twice = length-next places (hyper_next places s i) j belongs in
    let start : hyper_next places s i ≡ record_state (reverse p.word) (add d (value_at places (reverse p.word) i) (minus d p.change)) =
    next-is places s i p.word p.change (ap (put d (reverse s.word)) first) in
    let middle_word : length (hyper_next places s i).word ≡ length (reverse p.word) = ap (λ z. length z.word) start in
    let odd : length (reverse p.word) % 2 ≢ 0 = λ e. absurd (omega arith) in
    let middle : hyper_next places s i ≡ record_state (reverse p.word) (add d i (minus d p.change)) =
    start ∙ ap (λ v. record_state (reverse p.word) (add d v (minus d p.change))) (odd-value places (reverse p.word) i odd) in
    let turned : turn_to places (record_state (reverse p.word) (add d i (minus d p.change))) j ≡ turn =
    ap (λ v. add d v (minus d (add d i (minus d p.change)))) (odd-value places (reverse p.word) j odd) ∙ second in
    let ended : hyper_next places (record_state (reverse p.word) (add d i (minus d p.change))) j
    ≡ record_state (reverse q.word) (add d (value_at places (reverse q.word) j) (minus d q.change)) =
    next-is places (record_state (reverse p.word) (add d i (minus d p.change))) j q.word q.change
    (ap₂ (put d) (reverse-reverse p.word) turned) in
    let whole = ap (λ z. hyper_next places z j) middle ∙ ended in
    let last_word : length (hyper_next places (hyper_next places s i) j).word ≡ length (reverse q.word) = ap (λ z. length z.word) whole in
    let vertex : length (reverse q.word) % 2 ≡ 0 = omega arith in
    whole ∙ ap (λ v. record_state (reverse q.word) (add d v (minus d q.change))) (even-value places (reverse q.word) j vertex)

pub hyper_across : AcrossQuads BelongsTo IsEven hyper_next
hyper_across places s a c b even quad =
    let d = length places in
    let five = b.own.five in
    let u = reverse s.word in
    let good = good_word places s b in
    let inside = b.own.wheel.inside in
    let a_place_below = inside a quad.a_below in
    let c_place_below = inside c quad.c_below in
    let one_below : 1 < d = omega arith in
    let a_next = add-lt d a 1 quad.a_below one_below in
    let c_next = add-lt d c 1 quad.c_below one_below in
    let t = add d (slice_index places a) (minus d s.number) in
    let t_below = add-lt d (slice_index places a) (minus d s.number) a_place_below (minus-lt d s.number b.number_below) in
    let low = add d t (minus d 1) in
    let low_below = add-lt d t (minus d 1) t_below (minus-lt d 1 one_below) in
    let first_kept = put-good d five u t good t_below in
    let other_kept = put-good d five u low good low_below in
    let first_turn : turn_to places s a ≡ t = ap (λ v. add d v (minus d s.number)) (even-value places s.word a even) in
    let other_turn : turn_to places s (add d c 1) ≡ low =
    ap (λ v. add d v (minus d s.number)) (even-value places s.word (add d c 1) even ∙ quad.a_place)
    ∙ lower-turn d five (slice_index places a) s.number a_place_below b.number_below in
    let one =
    two-next places s a (add d a 1) t _ b even quad.a_below a_next first_turn
    (next-turn d five a (put d u t).change quad.a_below first_kept.1) in
    let two =
    two-next places s (add d c 1) c low _ b even c_next quad.c_below other_turn
    (back-turn d five c (put d u low).change quad.c_below other_kept.1) in
    let agree = across d five u t good t_below in
    let first_end = put-good d five (put d u t).word (add d 1 (put d u t).change) first_kept.0 (add-lt d 1 _ one_below first_kept.1) in
    let other_end =
    put-good d five (put d u low).word (add d (minus d 1) (put d u low).change) other_kept.0
    (add-lt d (minus d 1) _ (minus-lt d 1 one_below) other_kept.1) in
    let numbers : add d (slice_index places (add d a 1)) (minus d (first_quad_side d u t).change)
    ≡ add d (slice_index places c) (minus d (second_quad_side d u low).change) =
    ap (λ v. add d v (minus d (first_quad_side d u t).change)) quad.c_place
    ∙ last-number d five (slice_index places c) (first_quad_side d u t).change
    (second_quad_side d u low).change c_place_below first_end.1 other_end.1 agree.change in
    one ∙ ap₂ record_state (ap reverse agree.word) numbers ∙ sym two

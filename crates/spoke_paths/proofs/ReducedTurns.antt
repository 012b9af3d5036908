-- A reduced word whose entries are put one after another leaves a word with an entry.
use Rattle.spoke_paths.proofs.Common.{closes, HasNoBracket, IsReducedWord, ◌≡◌, ◌≢◌, ℕ, ◌<◌, ◌≤◌, inl, inr, arith, refl, sym, ◌∙◌, ap, true, false, List, [], ◌∷◌, All, length, reverse, cases_eq, eq-eqb, ne_eqb, common_steps, reverse-reverse, read, state, turns, canonical, led, empty_state, hyper_next, IsHyperWheel, in-range-from, InRange, add-cases, minus-one, minus-two, add-zero, add, minus, turn_word_of}
use Rattle.turn_words.proofs.Unique.{left, canonical-is-left}
use Rattle.turn_words.specs.Lemmas.WordEnds.{IsCons, Follows, open-cases, put-flip, put-else}
use Rattle.turn_words.specs.PutTurns.{Put, is_open, flipped, put}

-- what is known of the word that is left so far, of the change, and of the turns that come
data Keeps (d : ℕ) (u : List ℕ) (n : ℕ) (turns : List ℕ) : Type 0 where
  even : n ≡ 0 → (is_open u ≡ true → closes 1 2 turns ≡ false) → Keeps d u n turns
  raised : n ≡ 1 → closes (minus d 1) (minus d 2) turns ≡ false → Keeps d u n turns

flipped-cons : (d : ℕ) (u : List ℕ) → IsCons u → IsCons (flipped d u)
flipped-cons d [] c = absurd c
flipped-cons d (x ∷ []) c = tt
flipped-cons d (x ∷ y ∷ r) c = grind arith

closes-one : (one two : ℕ) (ts : List ℕ) → closes one two (one ∷ ts) ≡ true
closes-one one two ts = rw (eq-eqb one one refl) refl

closes-two : (one two : ℕ) (ts : List ℕ) → two ≢ one → closes one two (two ∷ ts) ≡ closes one two ts
closes-two one two ts h = rw (ne_eqb two one h, eq-eqb two two refl) refl

module _ (d : ℕ) (five : 5 ≤ d) where
  abbrev Stays : Put → List ℕ → Type 0
  Stays p ts = IsCons p.word × Keeps d p.word p.change ts

  -- the turn -1, and the turn -2 after a flip
  flips : (u : List ℕ) (t : ℕ) (ts : List ℕ) → IsCons u → t ≡ minus d 1 → closes (minus d 1) (minus d 2) ts ≡ false → Stays (put d u t) ts
  flips u t ts c e shut =
      let is : put d u t ≡ state (flipped d u) 1 = ap (put d u) e ∙ put-flip d five u c in grind (arith, flipped-cons)

  -- every other turn that does not close
  others : (u : List ℕ) (t : ℕ) (ts : List ℕ) → IsCons u → Follows d u t → (is_open (t ∷ u) ≡ true → closes 1 2 ts ≡ false)
      → Stays (put d u t) ts
  others u t ts c f shut =
      let is : put d u t ≡ state (t ∷ u) 0 = put-else d five u t c f in
      rw is (tt, even refl shut)

  after-even : (u : List ℕ) (y : ℕ) (ts : List ℕ) → IsCons u → y < d → (is_open u ≡ true → closes 1 2 (y ∷ ts) ≡ false)
      → HasNoBracket d (y ∷ ts) →
      Stays (put d u y) ts
  after-even u y ts c below shut h = elim (cases_eq y (minus d 1)) [
    | inl e ↦ flips u y ts c e (h.2 e)
    | inr not_minus ↦ others u y ts c
        (record {
          no_spur = h.0;
          no_flip = not_minus;
          no_close = λ one. grind (arith, closes, closes-one);
        })
        (λ opened. elim ((open-cases y u opened).1) [
          | inl one ↦ h.1 one
          | inr two ↦ sym (ap (λ z. closes 1 2 (z ∷ ts)) two.0) ∙ shut two.1
        ])
  ]

  after-raised : (u : List ℕ) (y : ℕ) (ts : List ℕ) → IsCons u → y < d → closes (minus d 1) (minus d 2) (y ∷ ts) ≡ false
      → HasNoBracket d (y ∷ ts) →
      Stays (put d u (add d y 1)) ts
  after-raised u y ts c below shut h =
      grind (arith, common_steps, minus-one, minus-two, add-cases, closes, closes-one, closes-two, open-cases)

  next-stays : (u : List ℕ) (n y : ℕ) (ts : List ℕ) → IsCons u → y < d → Keeps d u n (y ∷ ts) → HasNoBracket d (y ∷ ts)
      → Stays (put d u (add d y n)) ts
  next-stays u n y ts c below (even zero_change shut) h =
      let same : add d y n ≡ y = ap (add d y) zero_change ∙ add-zero d y below in
      rw same (after-even u y ts c below shut h)
  next-stays u n y ts c below (raised one_change shut) h =
      rw one_change (after-raised u y ts c below shut h)

  stays-cons : (u : List ℕ) (n : ℕ) (ts : List ℕ) → IsCons u → Keeps d u n ts → InRange d ts → HasNoBracket d ts
      → IsCons (read d (state u n) ts).word
  stays-cons u n [] c k s h = c
  stays-cons u n (y ∷ ts) c k s h =
      let next = next-stays u n y ts c s.0 k h in
      let p = put d u (add d y n) in
      stays-cons p.word p.change ts next.0 next.1 s.1 h.3

  left-cons : (first : ℕ) (ts : List ℕ) → InRange d (first ∷ ts) → HasNoBracket d ts → IsCons (read d (state [] 0) (first ∷ ts)).word
  left-cons first ts s h = stays-cons (add d first 0 ∷ []) 0 ts tt (even refl (λ opened. absurd cc)) s.1 h

not-cons : (u : List ℕ) → IsCons u → u ≡ [] → ⊥
not-cons [] c e = c
not-cons (x ∷ u) c e = absurd cc

-- a reduced word that leaves nothing is empty
left-empty : (d : ℕ) → 5 ≤ d → (w : List ℕ) → InRange d w → IsReducedWord d w → left d w ≡ [] → w ≡ []
left-empty d five [] s h e = refl
left-empty d five (first ∷ ts) s h e =
    let word = (read d (state [] 0) (first ∷ ts)).word in
    let none : word ≡ [] = sym (reverse-reverse word) ∙ ap reverse e in
    absurd (not-cons word (left-cons d five first ts s h) none)

no-spokes : (places path : List ℕ) → turn_word_of places path ≡ [] → path ≡ []
no-spokes places [] e = refl
no-spokes places (x ∷ path) e = absurd cc

pub hyper-empty : (places path : List ℕ) → IsHyperWheel places → All (λ spoke. spoke < length places) path
    → IsReducedWord (length places) (turn_word_of places path)
    → (led hyper_next places empty_state path).word ≡ [] → path ≡ []
hyper-empty places path own below reduced e =
    let d = length places in
    let w = turn_word_of places path in
    let word = turns places path own below in
    let left_is = canonical-is-left d w (led hyper_next places empty_state path).word word (canonical places path own below) in
    no-spokes places path (left-empty d own.five w (in-range-from d w word.in_range) reduced (sym left_is ∙ e))

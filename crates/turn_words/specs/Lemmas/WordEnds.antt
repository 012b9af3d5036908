-- The end of a canonical word, read from its last entry, and what a turn that is put there makes of it.
use Rattle.std.proofs.Common.{◌≡◌, ◌≢◌, ℕ, ◌<◌, ◌≤◌, ◌⊎◌, inl, inr, arith, refl, sym, ◌∙◌, ap, true, false, List, [], ◌∷◌}
use Rattle.std.proofs.lemmas.Bool.{cases_eq, eq-eqb, ne_eqb}
use Rattle.turn_words.specs.Modulo.{add, minus}
use Rattle.turn_words.specs.PutTurns.{is_open, flipped, closed, put}
use Rattle.turn_words.specs.Lemmas.Sums.{minus-one}

-- a turn that can follow in a canonical word
pub record Follows (d : ℕ) (r : List ℕ) (t : ℕ) : Type 0 where
  pub no_spur : t ≢ 0
  pub no_flip : t ≢ minus d 1
  pub no_close : t ≡ 1 → is_open r ≡ false

-- a canonical word, read from its end
abbrev pub IsCanonicalBackward : ℕ → List ℕ → Type 0
IsCanonicalBackward d [] = Unit {0}
IsCanonicalBackward d (x ∷ []) = x < d
IsCanonicalBackward d (t ∷ x ∷ r) = (t < d) × Follows d (x ∷ r) t × IsCanonicalBackward d (x ∷ r)

-- a word with an entry
abbrev pub IsCons : List ℕ → Type 0
IsCons [] = ⊥
IsCons (x ∷ r) = Unit {0}

pub good-cons : (d t : ℕ) (r : List ℕ) → IsCons r → t < d → Follows d r t → IsCanonicalBackward d r → IsCanonicalBackward d (t ∷ r)
good-cons d t [] c below f g = absurd c
good-cons d t (x ∷ r) c below f g = (below, f, g)

pub good-head : (d x : ℕ) (r : List ℕ) → IsCanonicalBackward d (x ∷ r) → x < d
good-head d x [] g = g
good-head d x (y ∷ r) g = g.0

pub good-tail : (d x : ℕ) (r : List ℕ) → IsCanonicalBackward d (x ∷ r) → IsCanonicalBackward d r
good-tail d x [] g = tt
good-tail d x (y ∷ r) g = g.2

-- what `is_open` says, by the last entry
pub open-one : (r : List ℕ) → IsCons r → is_open (1 ∷ r) ≡ true
open-one [] c = absurd c
open-one (x ∷ r) c = refl

pub open-two : (r : List ℕ) → IsCons r → is_open (2 ∷ r) ≡ is_open r
open-two [] c = absurd c
open-two (x ∷ r) c = refl

pub open-other : (t : ℕ) (r : List ℕ) → t ≢ 1 → t ≢ 2 → is_open (t ∷ r) ≡ false
open-other t [] a b = refl
open-other t (x ∷ r) a b = rw (ne_eqb t 1 a, ne_eqb t 2 b) refl

-- an open word ends in 1, or in 2 after an open word
pub open-cases : (t : ℕ) (r : List ℕ) → is_open (t ∷ r) ≡ true → IsCons r × ((t ≡ 1) ⊎ ((t ≡ 2) × (is_open r ≡ true)))
open-cases t [] o = absurd cc
open-cases t (x ∷ r) o = elim (cases_eq t 1) [
  | inl one ↦ (tt, inl one)
  | inr not_one ↦ elim (cases_eq t 2) [
    | inl two ↦ (tt, inr (two, sym (open-two (x ∷ r) tt) ∙ (let e = ap (λ n. is_open (n ∷ x ∷ r)) (sym two) in e ∙ o)))
    | inr not_two ↦ absurd (let e = open-other t (x ∷ r) not_one not_two in cc)
  ]
]

module _ (d : ℕ) (five : 5 ≤ d) where
  pub flipped-start : (x : ℕ) → flipped d (x ∷ []) ≡ 1 ∷ add d x 1 ∷ []
  flipped-start x = refl

  pub flipped-run : (r : List ℕ) → IsCons r → flipped d (minus d 2 ∷ r) ≡ 2 ∷ flipped d r
  flipped-run [] c = absurd c
  flipped-run (x ∷ r) c = rw (eq-eqb (minus d 2) (minus d 2) refl) refl

  pub flipped-end : (x : ℕ) (r : List ℕ) → x ≢ minus d 2 → flipped d (x ∷ r) ≡ 1 ∷ add d x 1 ∷ r
  flipped-end x [] h = refl
  flipped-end x (y ∷ r) h = rw (ne_eqb x (minus d 2) h) refl

  pub flipped-cons : (x : ℕ) (r : List ℕ) → IsCons (flipped d (x ∷ r))
  flipped-cons x [] = tt
  flipped-cons x (y ∷ r) = elim (cases_eq x (minus d 2)) [
    | inl e ↦ rw (eq-eqb x (minus d 2) e) tt
    | inr e ↦ rw (ne_eqb x (minus d 2) e) tt
  ]

  pub closed-one : (x : ℕ) (r : List ℕ) → closed d (1 ∷ x ∷ r) ≡ add d x (minus d 1) ∷ r
  closed-one x r = refl

  pub closed-two : (r : List ℕ) → IsCons r → closed d (2 ∷ r) ≡ minus d 2 ∷ closed d r
  closed-two [] c = absurd c
  closed-two (x ∷ r) c = refl

  pub closed-cons : (x : ℕ) (r : List ℕ) → IsCons (closed d (x ∷ r))
  closed-cons x [] = tt
  closed-cons x (y ∷ r) = elim (cases_eq x 1) [
    | inl e ↦ rw (eq-eqb x 1 e) tt
    | inr e ↦ rw (ne_eqb x 1 e) tt
  ]

  -- the five cases
  pub put-spur : (x : ℕ) (r : List ℕ) → put d (x ∷ r) 0 ≡ record { word = r; change = x }
  put-spur x r = refl

  pub put-flip : (r : List ℕ) → IsCons r → put d r (minus d 1) ≡ record { word = flipped d r; change = 1 }
  put-flip [] c = absurd c
  put-flip (x ∷ r) c =
      let one = minus-one d five in
      rw (ne_eqb (minus d 1) 0 (λ e. absurd (omega arith)), eq-eqb (minus d 1) (minus d 1) refl) refl

  pub put-close : (r : List ℕ) → is_open r ≡ true → put d r 1 ≡ record { word = closed d r; change = minus d 1 }
  put-close [] o = absurd cc
  put-close (x ∷ r) o =
      let one = minus-one d five in
      rw (ne_eqb 1 (minus d 1) (λ e. absurd (omega arith)), o) refl

  pub put-else : (r : List ℕ) (t : ℕ) → IsCons r → Follows d r t → put d r t ≡ record { word = t ∷ r; change = 0 }
  put-else [] t c f = absurd c
  put-else (x ∷ r) t c f =
      rw (ne_eqb t 0 f.no_spur, ne_eqb t (minus d 1) f.no_flip) (elim (cases_eq t 1) [
        | inl e ↦ rw (eq-eqb t 1 e, f.no_close e) refl
        | inr e ↦ rw (ne_eqb t 1 e) refl
      ])

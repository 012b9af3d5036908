-- A canonical word is the same thing read from its end.
use Rattle.std.proofs.Common.{◌≡◌, ◌≢◌, ℕ, ◌<◌, inl, inr, refl, sym, ◌∙◌, ap, true, false, List, [], ◌∷◌, ◌++◌, reverse, All}
use Rattle.std.specs.List.{AllByRecursion}
use Rattle.std.proofs.lemmas.Bool.{cases_eq, cases_Bool, ne_eqb}
use Rattle.std.proofs.lemmas.List.{append-nil, reverse-reverse}
use Rattle.std.proofs.lemmas.List.Elements.{recursion_from_All, All-nil, All-cons}
use Rattle.turn_words.specs.PutTurns.{is_open}
use Rattle.turn_words.specs.Canonical.{turns_of, closes_bracket, AreReduced, IsCanonical}
use Rattle.turn_words.specs.Lemmas.WordEnds.{IsCanonicalBackward, open-cases, open-two}
use Rattle.turn_words.specs.Lemmas.Lists.{InRange, reverse-next}

pub in-range-from : (d : ℕ) (w : List ℕ) → All (λ entry. entry < d) w → InRange d w
in-range-from d w all = go w (recursion_from_All (λ entry. entry < d) w all)
  where
    go : (w : List ℕ) → AllByRecursion (λ entry. entry < d) w → InRange d w
    go [] h = tt
    go (x ∷ w) h = (h.0, go w h.1)

pub all-from : (d : ℕ) (w : List ℕ) → InRange d w → All (λ entry. entry < d) w
all-from d [] h = All-nil (λ entry. entry < d)
all-from d (x ∷ w) h = All-cons (λ entry. entry < d) x w h.0 (all-from d w h.1)

pub in-range-reverse : (d : ℕ) (r w : List ℕ) → InRange d r → InRange d w → InRange d (reverse r ++ w)
in-range-reverse d [] w h i = i
in-range-reverse d (x ∷ r) w h i = rw (reverse-next x r w) (in-range-reverse d r (x ∷ w) h.1 (h.0, i))

in-range-good : (d : ℕ) (r : List ℕ) → IsCanonicalBackward d r → InRange d r
in-range-good d [] g = tt
in-range-good d (x ∷ []) g = (g, tt)
in-range-good d (x ∷ y ∷ r) g = (g.0, in-range-good d (y ∷ r) g.2)

closes-other : (x : ℕ) (ts : List ℕ) → x ≢ 1 → x ≢ 2 → closes_bracket (x ∷ ts) ≡ false
closes-other x ts a b = rw (ne_eqb x 1 a, ne_eqb x 2 b) refl

-- what is between a front that may be open and the turns that follow
abbrev Meets : List ℕ → List ℕ → Type 0
Meets r ts = is_open r ≡ true → closes_bracket ts ≡ false

meets-next : (x y : ℕ) (r ts : List ℕ) → (x ≡ 1 → is_open (y ∷ r) ≡ false) → Meets (x ∷ y ∷ r) ts → Meets (y ∷ r) (x ∷ ts)
meets-next x y r ts none meets opened = elim (cases_eq x 1) [
  | inl one ↦ let shut = none one in absurd cc
  | inr not_one ↦ elim (cases_eq x 2) [
    | inl two ↦
        let wide : is_open (x ∷ y ∷ r) ≡ true = ap (λ n. is_open (n ∷ y ∷ r)) two ∙ open-two (y ∷ r) tt ∙ opened in
        ap (λ n. closes_bracket (n ∷ ts)) two ∙ meets wide
    | inr not_two ↦ closes-other x ts not_one not_two
  ]
]

reduced-from : (d x : ℕ) (r ts : List ℕ) → IsCanonicalBackward d (x ∷ r) → AreReduced d ts → Meets (x ∷ r) ts
    → AreReduced d (turns_of (reverse (x ∷ r) ++ ts))
reduced-from d x [] ts g a meets = a
reduced-from d x (y ∷ r) ts g a meets =
    rw (reverse-next x (y ∷ r) ts) (
    reduced-from d y r (x ∷ ts) g.2
    (g.1.no_spur, g.1.no_flip, (λ one. meets (ap (λ n. is_open (n ∷ y ∷ r)) one)), a)
    (meets-next x y r ts g.1.no_close meets)
    )

record Splits (d x : ℕ) (r ts : List ℕ) : Type 0 where
  good : IsCanonicalBackward d (x ∷ r)
  reduced : AreReduced d ts
  meets : Meets (x ∷ r) ts

good-from : (d x : ℕ) (r ts : List ℕ) → InRange d (x ∷ r) → AreReduced d (turns_of (reverse (x ∷ r) ++ ts)) → Splits d x r ts
good-from d x [] ts i a = record { good = i.0; reduced = a; meets = λ opened. absurd cc }
good-from d x (y ∷ r) ts i a =
    let inner = good-from d y r (x ∷ ts) i.1 (rw (reverse-next x (y ∷ r) ts) at a) in
    let shut : (x ≡ 1 → is_open (y ∷ r) ≡ false) = λ one. elim (cases_Bool (is_open (y ∷ r))) [
      | inl opened ↦ let closes = ap (λ n. closes_bracket (n ∷ ts)) (sym one) in let none = inner.meets opened in absurd cc
      | inr not_open ↦ not_open
    ] in
    record {
      good = (i.0, record { no_spur = inner.reduced.0; no_flip = inner.reduced.1; no_close = shut }, inner.good);
      reduced = inner.reduced.3;
      meets = λ opened. elim ((open-cases x (y ∷ r) opened).1) [
        | inl one ↦ inner.reduced.2 one
        | inr two ↦ ap (λ n. closes_bracket (n ∷ ts)) (sym two.0) ∙ inner.meets two.1
      ];
    }

-- a word that is canonical from its end is canonical
pub canonical-from : (d : ℕ) (r : List ℕ) → IsCanonicalBackward d r → IsCanonical d (reverse r)
canonical-from d [] g = record { in_range = All-nil (λ entry. entry < d); reduced = tt }
canonical-from d (x ∷ r) g =
    let reduced = reduced-from d x r [] g tt (λ opened. refl) in
    let range = in-range-reverse d (x ∷ r) [] (in-range-good d (x ∷ r) g) tt in
    record {
      in_range = rw (append-nil (reverse (x ∷ r))) at (all-from d (reverse (x ∷ r) ++ []) range);
      reduced = rw (append-nil (reverse (x ∷ r))) at reduced;
    }

-- a canonical word is canonical from its end
pub good-from-canonical : (d : ℕ) (r : List ℕ) → IsCanonical d (reverse r) → IsCanonicalBackward d r
good-from-canonical d [] c = tt
good-from-canonical d (x ∷ r) c =
    let range = in-range-reverse d (reverse (x ∷ r)) [] (in-range-from d (reverse (x ∷ r)) c.in_range) tt in
    let plain : InRange d (x ∷ r) = rw (append-nil (reverse (reverse (x ∷ r))), reverse-reverse (x ∷ r)) at range in
    (good-from d x r [] plain (rw (append-nil (reverse (x ∷ r))) c.reduced)).good

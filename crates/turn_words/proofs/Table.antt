-- The table of the five cases, with the word written from its start.
use Rattle.turn_words.proofs.Common.{arith, ◌≡◌, ◌≢◌, ℕ, ◌≤◌, inl, inr, refl, sym, ◌∙◌, ap, ap₂, zero, suc, true, List, [], ◌∷◌, ◌++◌, reverse, replicate, append_assoc, cases_Bool, common_steps, reverse-append, reverse-reverse, reverse-cons, Follows, IsCons, open-cases, open-two, flipped-run, flipped-end, closed-two, put-flip, put-close, put-else, add, minus, Put, is_open, flipped, closed, put, put_last}
use Rattle.turn_words.specs.FiveCases.{FiveCases}
use Rattle.turn_words.proofs.RunLists.{reverse-replicate}

-- a front, an entry and a run, read from the end
reverse-run : (v : List ℕ) (x k y : ℕ) → reverse (v ++ x ∷ replicate k y) ≡ replicate k y ++ x ∷ reverse v
reverse-run v x k y = grind (arith, common_steps, reverse-cons, reverse-replicate)

reverse-bracket : (v : List ℕ) (x z k y : ℕ) → reverse (v ++ x ∷ z ∷ replicate k y) ≡ replicate k y ++ z ∷ x ∷ reverse v
reverse-bracket v x z k y =
    ap reverse (sym (append_assoc v (x ∷ []) (z ∷ replicate k y))) ∙ reverse-run (v ++ x ∷ []) z k y
    ∙ ap (λ u. replicate k y ++ z ∷ u) (reverse-append v (x ∷ []))

cons-run : (k y x : ℕ) (r : List ℕ) → IsCons (replicate k y ++ x ∷ r)
cons-run zero y x r = tt
cons-run (suc k) y x r = tt

cons-of : (r : List ℕ) → r ≢ [] → IsCons r
cons-of [] h = absurd (h refl)
cons-of (x ∷ r) h = tt

not-nil : (r : List ℕ) → IsCons r → r ≢ []
not-nil [] c = absurd c
not-nil (x ∷ r) c = λ e. absurd cc

nil-reverse : (w : List ℕ) → reverse w ≡ [] → w ≡ []
nil-reverse w e = sym (reverse-reverse w) ∙ ap reverse e

pub open-run : (k x : ℕ) (r : List ℕ) → is_open (replicate k 2 ++ 1 ∷ x ∷ r) ≡ true
open-run zero x r = refl
open-run (suc k) x r = open-two (replicate k 2 ++ 1 ∷ x ∷ r) (cons-run k 2 1 (x ∷ r)) ∙ open-run k x r

-- an open word, read from its end, ends in a run of 2 behind a 1 that is a turn
ends-open : (r : List ℕ) → is_open r ≡ true → (k : ℕ) × (x : ℕ) × (before : List ℕ) × (r ≡ replicate k 2 ++ 1 ∷ x ∷ before)
ends-open [] o = absurd cc
ends-open (t ∷ []) o = absurd cc
ends-open (t ∷ x ∷ r) o = elim ((open-cases t (x ∷ r) o).1) [
  | inl one ↦ (zero, x, r, ap (λ n. n ∷ x ∷ r) one)
  | inr two ↦ let rest = ends-open (x ∷ r) two.1 in (suc rest.0, rest.1, rest.2, ap₂ ◌∷◌ two.0 rest.3)
]

abbrev record_put : List ℕ → ℕ → Put
record_put w n = record { word = w; change = n }

module _ (d : ℕ) (five : 5 ≤ d) where
  pub flipped-table : (k x : ℕ) (r : List ℕ) → (r ≢ [] → x ≢ minus d 2) → flipped d (replicate k (minus d 2) ++ x ∷ r) ≡ replicate k 2
      ++ 1 ∷ add d x 1 ∷ r
  flipped-table zero x [] h = refl
  flipped-table zero x (y ∷ r) h = flipped-end d five x (y ∷ r) (h (not-nil (y ∷ r) tt))
  flipped-table (suc k) x r h =
      flipped-run d five (replicate k (minus d 2) ++ x ∷ r) (cons-run k (minus d 2) x r) ∙ ap (λ z. 2 ∷ z) (flipped-table k x r h)

  pub closed-table : (k x : ℕ) (r : List ℕ) → closed d (replicate k 2 ++ 1 ∷ x ∷ r) ≡ replicate k (minus d 2) ++ add d x (minus d 1) ∷ r
  closed-table zero x r = refl
  closed-table (suc k) x r =
      closed-two d five (replicate k 2 ++ 1 ∷ x ∷ r) (cons-run k 2 1 (x ∷ r)) ∙ ap (λ z. minus d 2 ∷ z) (closed-table k x r)

  -- a put from the end, seen from the start
  seen : (w u v : List ℕ) (t n : ℕ) → put d (reverse w) t ≡ record { word = u; change = n } → reverse v ≡ u
      → put_last d w t ≡ record { word = v; change = n }
  seen w u v t n e back = grind (arith, common_steps)

  pub five_cases : FiveCases d
  five_cases = record {
    start = λ t. refl;
    spur = λ v x. seen (v ++ x ∷ []) (reverse v) v 0 x (ap (λ r. put d r 0) (reverse-append v (x ∷ []))) refl;
    flip = λ v x k whole. (
        let front = λ (some : reverse v ≢ []). whole (λ e. some (ap reverse e)) in
        let c = cons-run k (minus d 2) x (reverse v) in
        seen (v ++ x ∷ replicate k (minus d 2)) (replicate k 2 ++ 1 ∷ add d x 1 ∷ reverse v) (v ++ add d x 1 ∷ 1 ∷ replicate k 2)
        (minus d 1) 1
        (ap (λ r. put d r (minus d 1)) (reverse-run v x k (minus d 2)) ∙ put-flip d five (replicate k (minus d 2) ++ x ∷ reverse v) c
        ∙ ap (λ z. record_put z 1) (flipped-table k x (reverse v) front))
        (reverse-bracket v (add d x 1) 1 k 2)
        );
    close = λ v x k. seen (v ++ x ∷ 1 ∷ replicate k 2) (replicate k (minus d 2) ++ add d x (minus d 1) ∷ reverse v)
        (v ++ add d x (minus d 1) ∷ replicate k (minus d 2)) 1 (minus d 1)
        (ap (λ r. put d r 1) (reverse-bracket v x 1 k 2) ∙ put-close d five (replicate k 2 ++ 1 ∷ x ∷ reverse v) (open-run k x (reverse v))
        ∙ ap (λ z. record_put z (minus d 1)) (closed-table k x (reverse v)))
        (reverse-run v (add d x (minus d 1)) k (minus d 2));
    other = λ w t some not_zero not_minus shut. (
        let c = cons-of (reverse w) (λ e. some (nil-reverse w e)) in
        let follows : Follows d (reverse w) t = record {
          no_spur = not_zero;
          no_flip = not_minus;
          no_close = λ one. elim (cases_Bool (is_open (reverse w))) [
            | inl opened ↦
                let ends = ends-open (reverse w) opened in
                absurd (shut one (record {
                  before = reverse ends.2;
                  x = ends.1;
                  k = ends.0;
                  is = sym (reverse-reverse w) ∙ ap reverse ends.3 ∙ sym
                      (ap reverse (reverse-bracket (reverse ends.2) ends.1 1 ends.0 2
                      ∙ ap (λ z. replicate ends.0 2 ++ 1 ∷ ends.1 ∷ z) (reverse-reverse ends.2)))
                      ∙ reverse-reverse (reverse ends.2 ++ ends.1 ∷ 1 ∷ replicate ends.0 2);
                }))
            | inr not_open ↦ not_open
          ];
        } in
        seen w (t ∷ reverse w) (w ++ t ∷ []) t 0 (put-else d five (reverse w) t c follows) (reverse-append w (t ∷ []))
        );
  }

-- A canonical word, said of every place in it.
use Rattle.turn_words.proofs.Common.{arith, ◌≡◌, ◌≢◌, ◌↔◌, ℕ, inl, inr, refl, sym, ◌∙◌, ap, zero, suc, true, false, List, [], ◌∷◌, ◌++◌, replicate, cases_eq, cases_Bool, ne_eqb, common_steps, closes_bracket, AreReduced, IsCanonical, StandsNowhere, minus}

reduced-rest : (d : ℕ) (before rest : List ℕ) → AreReduced d (before ++ rest) → AreReduced d rest
reduced-rest d [] rest a = a
reduced-rest d (b ∷ before) rest a = reduced-rest d before rest a.3

closes-run : (k : ℕ) (after : List ℕ) → closes_bracket (replicate k 2 ++ 1 ∷ after) ≡ true
closes-run zero after = refl
closes-run (suc k) after = closes-run k after

-- turns that close a bracket begin with a run of 2 and a 1
closes-split : (turns : List ℕ) → closes_bracket turns ≡ true → (k : ℕ) × (after : List ℕ) × (turns ≡ replicate k 2 ++ 1 ∷ after)
closes-split [] e = absurd cc
closes-split (t ∷ turns) e = elim (cases_eq t 1) [
  | inl one ↦ (zero, turns, ap (λ n. n ∷ turns) one)
  | inr not_one ↦ elim (cases_eq t 2) [
    | inl two ↦
        let rest = closes-split turns (ap (λ n. closes_bracket (n ∷ turns)) (sym two) ∙ e) in
        (suc rest.0, rest.1, ap (λ n. n ∷ turns) two ∙ ap (λ z. 2 ∷ z) rest.2)
    | inr not_two ↦ absurd (let none : closes_bracket (t ∷ turns) ≡ false = rw (ne_eqb t 1 not_one, ne_eqb t 2 not_two) refl in cc)
  ]
]

-- no spur, no -1 and no bracket in a list of turns
record Free (d : ℕ) (turns : List ℕ) : Type 0 where
  no_spur : (before after : List ℕ) → turns ≢ before ++ 0 ∷ after
  no_minus : (before after : List ℕ) → turns ≢ before ++ minus d 1 ∷ after
  no_bracket : (before after : List ℕ) (k : ℕ) → turns ≢ before ++ 1 ∷ replicate k 2 ++ 1 ∷ after

free-reduced : (d : ℕ) (turns : List ℕ) → AreReduced d turns → Free d turns
free-reduced d turns a = grind (arith, common_steps, reduced-rest, closes-run)

reduced-free : (d : ℕ) (turns : List ℕ) → Free d turns → AreReduced d turns
reduced-free d [] f = tt
reduced-free d (t ∷ turns) f = (
  (λ e. f.no_spur [] turns (ap (λ n. n ∷ turns) e)),
  (λ e. f.no_minus [] turns (ap (λ n. n ∷ turns) e)),
  (λ one. elim (cases_Bool (closes_bracket turns)) [
    | inl closes ↦
        let split = closes-split turns closes in
        absurd (f.no_bracket [] split.1 split.0 (ap (λ n. n ∷ turns) one ∙ ap (λ z. 1 ∷ z) split.2))
    | inr shut ↦ shut
  ]),
  reduced-free d turns (record {
    no_spur = λ before after e. f.no_spur (t ∷ before) after (ap (λ z. t ∷ z) e);
    no_minus = λ before after e. f.no_minus (t ∷ before) after (ap (λ z. t ∷ z) e);
    no_bracket = λ before after k e. f.no_bracket (t ∷ before) after k (ap (λ z. t ∷ z) e);
  }),
)

pub by_places : (d : ℕ) (word : List ℕ) → IsCanonical d word ↔ StandsNowhere d word
by_places d word = grind (arith, free-reduced, reduced-free)

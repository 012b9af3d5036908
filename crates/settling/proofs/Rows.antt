-- The words along a row, read from their end, and how a put makes such a word longer or shorter.
use Rattle.settling.proofs.Common.{entries, put_along, ◌≡◌, ℕ, ◌+◌, ◌<◌, ◌≤◌, inl, inr, arith, refl, sym, ◌∙◌, ap, ap₂, zero, suc, true, List, [], ◌∷◌, ◌++◌, length, reverse, reverse-reverse, append-nil, state, reverse-next, cases, spur, flip, close, other, add-cases, minus-one, minus-two, IsCons, open-cases, put-flip, put-close, put-else, add, minus, Put, is_open, closed, put, put_last}

-- the words along a row, read from their end
abbrev pub along : ℕ → Put → (ℕ → ℕ) → ℕ → Put
along d p row zero = p
along d p row (suc j) =
    let before = along d p row j in
    put d before.word (add d (row j) before.change)

-- entries of a row, read from the last one, in front of a word
abbrev pub upto : (ℕ → ℕ) → ℕ → ℕ → List ℕ → List ℕ
upto row m zero rest = rest
upto row m (suc k) rest = row (m + k) ∷ upto row m k rest

pub upto-length : (row : ℕ → ℕ) (m k : ℕ) (rest : List ℕ) → length (upto row m k rest) ≡ length rest + k
upto-length row m zero rest = omega arith
upto-length row m (suc k) rest = let before = upto-length row m k rest in omega arith

pub upto-cons : (row : ℕ → ℕ) (m k : ℕ) (rest : List ℕ) → IsCons rest → IsCons (upto row m k rest)
upto-cons row m zero rest c = c
upto-cons row m (suc k) rest c = tt

module _ (d : ℕ) (five : 5 ≤ d) where
  -- a close makes a word shorter
  shorter-closed : (x : ℕ) (r : List ℕ) → is_open (x ∷ r) ≡ true → length (closed d (x ∷ r)) + 1 ≡ length (x ∷ r)
  shorter-closed x [] o = absurd cc
  shorter-closed x (y ∷ r) o = elim ((open-cases x (y ∷ r) o).1) [
    | inl one ↦ rw one (omega arith)
    | inr two ↦ let rest = shorter-closed y r two.1 in rw two.0 (omega arith)
  ]

  -- a put that makes a word longer only puts the turn last, or is a flip
  pub data Grown (u : List ℕ) (t : ℕ) : Type 0 where
    plain : put d u t ≡ state (t ∷ u) 0 → Grown u t
    turned : t ≡ minus d 1 → (put d u t).change ≡ 1 → Grown u t

  pub grown : (u : List ℕ) (t : ℕ) → length (put d u t).word ≡ length u + 1 → Grown u t
  grown [] t longer = plain refl
  grown (x ∷ u) t longer = elim (cases d five (x ∷ u) t) [
    | spur e ↦ absurd (let is = rw e at longer in omega arith)
    | flip e ↦ turned e (rw (e, put-flip d five (x ∷ u) tt) refl)
    | close e o ↦
        let is = rw (e, put-close d five (x ∷ u) o) at longer in
        absurd (let shorter = shorter-closed x u o in omega arith)
    | other f ↦ plain (put-else d five (x ∷ u) t tt f)
  ]

  -- a word that became longer has an entry
  pub longer-cons : (u v : List ℕ) → length v ≡ length u + 1 → IsCons v
  longer-cons u [] e = absurd (omega arith)
  longer-cons u (x ∷ v) e = tt

  -- a turn and no change of it
  pub one-more : (t : ℕ) → add d t 1 ≡ minus d 1 → t < d → t ≡ minus d 2
  one-more t e below = omega (arith, minus-one d five, minus-two d five, add-cases d t 1)

-- the entries of a row, read from the last one, written from the first
pub upto-first : (row : ℕ → ℕ) (m k : ℕ) (rest : List ℕ) → upto row m (suc k) rest ≡ upto row (m + 1) k (row m ∷ rest)
upto-first row m zero rest = let e : m + 0 ≡ m = omega arith in ap (λ i. row i ∷ rest) e
upto-first row m (suc k) rest =
    let e : m + suc k ≡ m + 1 + k = omega arith in
    ap₂ (λ i l. row i ∷ l) e (upto-first row m k rest)

pub reverse-upto : (row : ℕ → ℕ) (m k : ℕ) (rest : List ℕ) → reverse (upto row m k rest) ≡ reverse rest ++ entries row m k
reverse-upto row m zero rest = sym (append-nil (reverse rest))
reverse-upto row m (suc k) rest =
    ap reverse (upto-first row m k rest) ∙ reverse-upto row (m + 1) k (row m ∷ rest) ∙ reverse-next (row m) rest (entries row (m + 1) k)

-- the words along a row, written from their start
pub along-is : (d : ℕ) (p : Put) (row : ℕ → ℕ) (j : ℕ) →
    put_along d p row j
    ≡ record {
      word = reverse (along d (state (reverse p.word) p.change) row j).word;
      change = (along d (state (reverse p.word) p.change) row j).change;
    }
along-is d p row zero = ap (λ w. state w p.change) (sym (reverse-reverse p.word))
along-is d p row (suc j) =
    let q = along d (state (reverse p.word) p.change) row j in
    ap (λ b. put_last d b.word (add d (row j) b.change)) (along-is d p row j)
    ∙ ap (λ w. let ended = put d w (add d (row j) q.change) in state (reverse ended.word) ended.change) (reverse-reverse q.word)

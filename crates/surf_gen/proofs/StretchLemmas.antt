-- What a test keeps of points in a row, and how such lists join.
use Rattle.surf_gen.proofs.Common.{◌≡◌, ◌≢◌, ℕ, zero, suc, ◌+◌, ◌-◌, ◌*◌, ◌<◌, ◌≤◌, Bool, true, false, cond, List, [], ◌∷◌, ◌++◌, length, map, arith, sym, ap, ◌∙◌, refl, length-append, map-append, filter-append, length-map-range_with_len, range_with_len, filter, flat_map, Point}
use Rattle.surf_gen.proofs.PartLemmas.{rows_more}

-- the numbers from a up to b, without b
abbrev pub upto : ℕ → ℕ → List ℕ
upto a b = range_with_len a (b - a)

pub same_range : (a b m n : ℕ) → a ≡ b → m ≡ n → range_with_len a m ≡ range_with_len b n
same_range a b m n starts lengths = ap (λ k. range_with_len k m) starts ∙ ap (λ k. range_with_len b k) lengths

pub range-append : (a m n : ℕ) → range_with_len a (m + n) ≡ range_with_len a m ++ range_with_len (a + m) n
range-append a zero n = same_range a (a + zero) (zero + n) n (omega arith) (omega arith)
range-append a (suc m) n =
    same_range a a (suc m + n) (suc (m + n)) refl (omega arith)
    ∙ ap (λ ks. a ∷ ks) (range-append (a + 1) m n)
    ∙ ap (λ ks. a ∷ range_with_len (a + 1) m ++ ks) (same_range (a + 1 + m) (a + suc m) n n (omega arith) refl)

pub upto-append : (a b c : ℕ) → a ≤ b → b ≤ c → upto a b ++ upto b c ≡ upto a c
upto-append a b c ab bc =
    ap (λ ks. upto a b ++ ks) (same_range b (a + (b - a)) (c - b) (c - b) (omega arith) refl)
    ∙ sym (range-append a (b - a) (c - b))
    ∙ same_range a a (b - a + (c - b)) (c - a) refl (omega arith)

-- the test keeps all of a stretch
pub stretch_kept : (keep : Point → Bool) (f : ℕ → Point) (a n : ℕ) → ((k : ℕ) → a ≤ k → k < a + n → keep (f k) ≡ true)
    → filter keep (map f (range_with_len a n)) ≡ map f (range_with_len a n)
stretch_kept keep f a zero kept = refl
stretch_kept keep f a (suc n) kept =
    ap (λ b. cond b (f a ∷ filter keep (map f (range_with_len (a + 1) n))) (filter keep (map f (range_with_len (a + 1) n))))
    (kept a (omega arith) (omega arith))
    ∙ ap (λ ps. f a ∷ ps) (stretch_kept keep f (a + 1) n (λ k low high. kept k (omega arith) (omega arith)))

-- the test keeps none of a stretch
pub stretch_gone : (keep : Point → Bool) (f : ℕ → Point) (a n : ℕ) → ((k : ℕ) → a ≤ k → k < a + n → keep (f k) ≡ false)
    → filter keep (map f (range_with_len a n)) ≡ []
stretch_gone keep f a zero gone = refl
stretch_gone keep f a (suc n) gone =
    ap (λ b. cond b (f a ∷ filter keep (map f (range_with_len (a + 1) n))) (filter keep (map f (range_with_len (a + 1) n))))
    (gone a (omega arith) (omega arith))
    ∙ stretch_gone keep f (a + 1) n (λ k low high. gone k (omega arith) (omega arith))

-- the numbers along a stretch, where they rise by one
pub stretch_numbers : (number : Point → ℕ) (f : ℕ → Point) (a b n : ℕ) → ((k : ℕ) → a ≤ k → k < a + n → number (f k) + a ≡ b + k)
    → map number (map f (range_with_len a n)) ≡ range_with_len b n
stretch_numbers number f a b zero rise = refl
stretch_numbers number f a b (suc n) rise =
    let first : number (f a) ≡ b = omega (arith, rise a (omega arith) (omega arith)) in
    ap (λ k. k ∷ map number (map f (range_with_len (a + 1) n))) first
    ∙ ap (λ ks. b ∷ ks) (stretch_numbers number f (a + 1) (b + 1) n (λ k low high. omega (arith, rise k (omega arith) (omega arith))))

-- a row, in two stretches
pub row_split : (keep : Point → Bool) (f : ℕ → Point) (m n : ℕ)
    → filter keep (map f (range_with_len 0 (m + n)))
    ≡ filter keep (map f (range_with_len 0 m)) ++ filter keep (map f (range_with_len m n))
row_split keep f m n =
    ap (λ ks. filter keep (map f ks)) (range-append 0 m n)
    ∙ ap (filter keep) (map-append f (range_with_len 0 m) (range_with_len (0 + m) n))
    ∙ filter-append keep (map f (range_with_len 0 m)) (map f (range_with_len (0 + m) n))
    ∙ ap (λ ks. filter keep (map f (range_with_len 0 m)) ++ filter keep (map f ks)) (same_range (0 + m) m n n (omega arith) refl)

-- numbers along lists of points, one list after the other
pub record Rises (number : Point → ℕ) (keep : Point → Bool) (ps : List Point) (a b : ℕ) : Type 0 where
  pub numbers : map number (filter keep ps) ≡ upto a b
  pub rises : a ≤ b

pub rises_along : (number : Point → ℕ) (keep : Point → Bool) (f : ℕ → List Point) (first : ℕ → ℕ) (n : ℕ)
    → ((k : ℕ) → k < n → Rises number keep (f k) (first k) (first (suc k)))
    → Rises number keep (flat_map f (range_with_len 0 n)) (first 0) (first n)
rises_along number keep f first zero each =
    record { numbers = same_range (first 0) (first 0) 0 (first 0 - first 0) refl (omega arith); rises = omega arith }
rises_along number keep f first (suc n) each =
    let before = rises_along number keep f first n (λ k lt. each k (omega arith)) in
    let here = each n (omega arith) in
    let same : n + 1 ≡ suc n = omega arith in
    record {
      numbers =
          ap (λ k. map number (filter keep (flat_map f (range_with_len 0 k)))) (sym same)
          ∙ ap (λ ps. map number (filter keep ps)) (rows_more f n)
          ∙ ap (map number) (filter-append keep (flat_map f (range_with_len 0 n)) (f n))
          ∙ map-append number (filter keep (flat_map f (range_with_len 0 n))) (filter keep (f n))
          ∙ ap (λ ks. ks ++ map number (filter keep (f n))) before.numbers
          ∙ ap (λ ks. upto (first 0) (first n) ++ ks) here.numbers
          ∙ upto-append (first 0) (first n) (first (suc n)) before.rises here.rises;
      rises = omega (arith, before.rises, here.rises);
    }

-- how many points are kept of a row of which one is not
pub count_but_one : (keep : Point → Bool) (f : ℕ → Point) (hole n : ℕ) → hole < n → keep (f hole) ≡ false
    → ((k : ℕ) → k < n → k ≢ hole → keep (f k) ≡ true) → length (filter keep (map f (range_with_len 0 n))) + 1 ≡ n
count_but_one keep f hole n lt gone kept =
    let rest = n - (hole + 1) in
    let before = range_with_len 0 hole in
    let behind = range_with_len (hole + 1) rest in
    let front : filter keep (map f before) ≡ map f before =
    stretch_kept keep f 0 hole (λ k low high. kept k (omega arith) (λ same. omega arith)) in
    let middle : filter keep (map f (range_with_len hole 1)) ≡ [] =
    stretch_gone keep f hole 1 (λ k low high. let same : k ≡ hole = omega arith in ap (λ j. keep (f j)) same ∙ gone) in
    let back : filter keep (map f behind) ≡ map f behind =
    stretch_kept keep f (hole + 1) rest (λ k low high. kept k (omega arith) (λ same. omega arith)) in
    let all : n ≡ hole + 1 + rest = omega arith in
    let split : filter keep (map f (range_with_len 0 n)) ≡ (map f before ++ []) ++ map f behind =
    ap (λ k. filter keep (map f (range_with_len 0 k))) all
    ∙ row_split keep f (hole + 1) rest
    ∙ ap (λ ps. ps ++ filter keep (map f behind)) (row_split keep f hole 1)
    ∙ ap (λ ps. (ps ++ filter keep (map f (range_with_len hole 1))) ++ filter keep (map f behind)) front
    ∙ ap (λ ps. (map f before ++ ps) ++ filter keep (map f behind)) middle
    ∙ ap (λ ps. (map f before ++ []) ++ ps) back in
    let long : length (filter keep (map f (range_with_len 0 n))) ≡ hole + 0 + rest =
    ap length split
    ∙ length-append (map f before ++ []) (map f behind)
    ∙ ap (λ k. k + length (map f behind)) (length-append (map f before) [])
    ∙ ap (λ k. k + 0 + length (map f behind)) (length-map-range_with_len f 0 hole)
    ∙ ap (λ k. hole + 0 + k) (length-map-range_with_len f (hole + 1) rest) in
    omega arith

-- how many points are kept of lists of `size` points each, where `gone k` of the first k lists are not
pub count_along : (keep : Point → Bool) (f : ℕ → List Point) (gone : ℕ → ℕ) (size n : ℕ)
    → ((k : ℕ) → k < n → length (filter keep (f k)) + gone (suc k) ≡ size + gone k)
    → length (filter keep (flat_map f (range_with_len 0 n))) + gone n ≡ n * size + gone 0
count_along keep f gone size zero each = omega arith
count_along keep f gone size (suc n) each =
    let before = count_along keep f gone size n (λ k lt. each k (omega arith)) in
    let here = each n (omega arith) in
    let same : n + 1 ≡ suc n = omega arith in
    let split : length (filter keep (flat_map f (range_with_len 0 (suc n))))
    ≡ length (filter keep (flat_map f (range_with_len 0 n))) + length (filter keep (f n)) =
    ap (λ k. length (filter keep (flat_map f (range_with_len 0 k)))) (sym same)
    ∙ ap (λ ps. length (filter keep ps)) (rows_more f n)
    ∙ ap length (filter-append keep (flat_map f (range_with_len 0 n)) (f n))
    ∙ length-append (filter keep (flat_map f (range_with_len 0 n))) (filter keep (f n)) in
    omega arith

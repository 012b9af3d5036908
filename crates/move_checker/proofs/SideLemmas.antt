-- The two sides of a chain, entry by entry against a walk.
use Rattle.move_checker.proofs.Common.{◌≡◌, ◌≢◌, ℕ, ◌+◌, ◌-◌, ◌<◌, ◌≤◌, List, ◌++◌, length, reverse, take, drop, get_or, ap, sym, ◌∙◌, arith, below_more, ext_get_or, get_or-reverse, get_or-take, get_or-drop, length-reverse, length-take-le, length-drop, drop-drop, drop-take, take-take, drop_at, take_at}
use Rattle.std.proofs.Math.Seq.{take-add}

-- so many entries were looked at, and are the walk's
pub record AreRead (entries rest walk : List ℕ) (spot : ℕ → ℕ) (k : ℕ) : Type 0 where
  pub left : rest ≡ drop k entries
  pub same : (j : ℕ) → j < k → get_or entries j 0 ≡ get_or walk (spot j) 0

pub AreRead-more : (entries old new walk : List ℕ) (spot : ℕ → ℕ) (k value : ℕ) → AreRead entries old walk spot k → new ≡ drop 1 old
    → get_or old 0 0 ≡ value → value ≡ get_or walk (spot k) 0
    → AreRead entries new walk spot (k + 1)
AreRead-more entries old new walk spot k value read behind first here =
    let place : k + 0 ≡ k = omega arith in
    let entry : get_or entries k 0 ≡ value =
    sym (ap (λ (l : List ℕ). get_or l 0 0) read.left ∙ get_or-drop k entries 0 0 ∙ ap (λ (j : ℕ). get_or entries j 0) place) ∙ first in
    record {
      left = behind ∙ ap (λ (l : List ℕ). drop 1 l) read.left ∙ drop-drop 1 k entries;
      same = below_more (λ j. get_or entries j 0 ≡ get_or walk (spot j) 0) k read.same (entry ∙ here);
    }

-- the entry that is looked at
pub AreRead-next : (entries rest walk : List ℕ) (spot : ℕ → ℕ) (k value : ℕ) → AreRead entries rest walk spot k
    → get_or rest 0 0 ≡ value → get_or entries k 0 ≡ value
AreRead-next entries rest walk spot k value read first =
    let place : k + 0 ≡ k = omega arith in
    sym (ap (λ (l : List ℕ). get_or l 0 0) read.left ∙ get_or-drop k entries 0 0 ∙ ap (λ (j : ℕ). get_or entries j 0) place) ∙ first

-- the side before a place, turned round, is the walk's up to it
pub before_same : (entries rest walk : List ℕ) (place k : ℕ) → length entries ≤ place → place ≤ length walk
    → AreRead entries rest walk (λ j. place - 1 - j) k → length entries ≤ k
    → reverse entries ≡ take (length entries) (drop (place - length entries) walk)
before_same entries rest walk place k few le read all =
    let n : ℕ = length entries in
    let room : n ≤ length (drop (place - n) walk) = omega (arith, few, le, length-drop (place - n) walk) in
    ext_get_or 0 (reverse entries) (take n (drop (place - n) walk))
    (omega (arith, length-reverse entries, length-take-le n (drop (place - n) walk) room))
    (λ i lt.
    let within : i < n = omega (arith, lt, length-reverse entries) in
    let back : n - 1 - i < k = omega (arith, within, all) in
    let forth : place - 1 - (n - 1 - i) ≡ place - n + i = omega (arith, within, few) in
    get_or-reverse entries i 0 within ∙ read.same (n - 1 - i) back ∙ ap (λ (j : ℕ). get_or walk j 0) forth
    ∙ sym (get_or-drop (place - n) walk i 0) ∙ sym (get_or-take n (drop (place - n) walk) i 0 within))

pub before_other : (entries walk : List ℕ) (place k : ℕ) → length entries ≤ place → k < length entries
    → get_or entries k 0 ≢ get_or walk (place - 1 - k) 0
    → reverse entries ≢ take (length entries) (drop (place - length entries) walk)
before_other entries walk place k few lt ne same =
    let n : ℕ = length entries in
    let i : ℕ = n - 1 - k in
    let within : i < n = omega (arith, lt) in
    let back : n - 1 - i ≡ k = omega (arith, lt) in
    let forth : place - n + i ≡ place - 1 - k = omega (arith, lt, few) in
    ne (ap (λ (j : ℕ). get_or entries j 0) (sym back) ∙ sym (get_or-reverse entries i 0 within)
    ∙ ap (λ (l : List ℕ). get_or l i 0) same ∙ get_or-take n (drop (place - n) walk) i 0 within
    ∙ get_or-drop (place - n) walk i 0 ∙ ap (λ (j : ℕ). get_or walk j 0) forth)

-- the side from a place on is the walk's
pub behind_same : (entries rest walk : List ℕ) (place k : ℕ) → place + length entries ≤ length walk
    → AreRead entries rest walk (λ j. place + j) k → length entries ≤ k
    → entries ≡ take (length entries) (drop place walk)
behind_same entries rest walk place k few read all =
    let room : length entries ≤ length (drop place walk) = omega (arith, few, length-drop place walk) in
    ext_get_or 0 entries (take (length entries) (drop place walk)) (sym (length-take-le (length entries) (drop place walk) room))
    (λ i lt. read.same i (omega (arith, lt, all)) ∙ sym (get_or-drop place walk i 0)
    ∙ sym (get_or-take (length entries) (drop place walk) i 0 lt))

pub behind_other : (entries walk : List ℕ) (place k : ℕ) → k < length entries → get_or entries k 0 ≢ get_or walk (place + k) 0
    → entries ≢ take (length entries) (drop place walk)
behind_other entries walk place k lt ne same =
    ne (ap (λ (l : List ℕ). get_or l k 0) same ∙ get_or-take (length entries) (drop place walk) k 0 lt ∙ get_or-drop place walk k 0)

-- both sides of a place are those of a walk from `start` on exactly where each is
module _ (before behind walk : List ℕ) (start : ℕ) where
  abbrev whole : Type 0
  whole = reverse before ++ behind ≡ take (length before + length behind) (drop start walk)

  pub same_before : whole → reverse before ≡ take (length before) (drop start walk)
  same_before read =
      sym (take_at (reverse before) behind (length before) (length-reverse before))
      ∙ ap (λ (l : List ℕ). take (length before) l) read
      ∙ take-take (length before) (length before + length behind) (drop start walk) (omega arith)

  pub same_behind : whole → behind ≡ take (length behind) (drop (start + length before) walk)
  same_behind read =
      sym (drop_at (reverse before) behind (length before) (length-reverse before))
      ∙ ap (λ (l : List ℕ). drop (length before) l) read
      ∙ drop-take (length before) (length behind) (drop start walk)
      ∙ ap (λ (l : List ℕ). take (length behind) l) (drop-drop (length before) start walk)

  pub sides_same : reverse before ≡ take (length before) (drop start walk)
      → behind ≡ take (length behind) (drop (start + length before) walk) → whole
  sides_same first second =
      ap (λ (l : List ℕ). l ++ behind) first
      ∙ ap (λ (l : List ℕ). take (length before) (drop start walk) ++ l)
      (second ∙ ap (λ (l : List ℕ). take (length behind) l) (sym (drop-drop (length before) start walk)))
      ∙ sym (take-add (length before) (length behind) (drop start walk))

-- so far the list is the walk, and with one segment more
pub one_more : (list walk : List ℕ) (start place n : ℕ) → take place list ≡ take place walk → start ≤ place
    → take n (drop start list) ≡ take n (drop start walk)
    → take (start + n) list ≡ take (start + n) walk
one_more list walk start place n so_far le same =
    take-add start n list
    ∙ ap (λ (l : List ℕ). l ++ take n (drop start list))
    (sym (take-take start place list le) ∙ ap (λ (l : List ℕ). take start l) so_far ∙ take-take start place walk le)
    ∙ ap (λ (l : List ℕ). take start walk ++ l) same ∙ sym (take-add start n walk)

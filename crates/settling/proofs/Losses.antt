-- A canonical row loses at most as many entries as the word had before: what the word before does to the row can be undone
-- by as many entries.
use Rattle.settling.proofs.Common.{entries, IsCanonicalRow, ◌≡◌, ℕ, ◌+◌, ◌<◌, ◌≤◌, inl, inr, arith, refl, sym, ◌∙◌, ap, zero, suc, List, [], ◌∷◌, ◌++◌, length, reverse, length-reverse, append-nil, read, IsSound, state, in-range-reverse, length-put, InRange, put-good, put-put, add-cases, minus-cases, add-lt, minus-lt, IsCanonicalBackward, good-cons, good-head, good-tail, add, minus, Put, put}
use Rattle.turn_words.proofs.Reaching.{read-append, read-good, read-reached, keeps-steps, start-sound}
use Rattle.turn_words.specs.StepTable.{next_changed}
use Rattle.settling.proofs.Rows.{along, upto, upto-cons, upto-length, reverse-upto}
use Rattle.settling.proofs.Settling.{upto-shut, row-follows}

good-in-range : (d : ℕ) (r : List ℕ) → IsCanonicalBackward d r → InRange d r
good-in-range d [] g = tt
good-in-range d (x ∷ r) g = (good-head d x r g, good-in-range d r (good-tail d x r g))

module _ (d : ℕ) (five : 5 ≤ d) where
  -- a word that is read makes the state at most as much longer
  read-longer : (p : Put) (w : List ℕ) → length (read d p w).word ≤ length p.word + length w
  read-longer p [] = omega arith
  read-longer p (y ∷ w) =
      let q = put d p.word (add d y p.change) in
      let later = read-longer q w in
      let whole : length (y ∷ w) ≡ length w + 1 = omega arith in
      elim (length-put d five p.word (add d y p.change)) [ inl longer ↦ omega arith | inr shorter ↦ omega arith ]

  -- the state before an entry was read
  before : Put → ℕ → Put
  before p y =
      let back = put d p.word p.change in
      state back.word (add d back.change (minus d y))

  before-sound : (p : Put) (y : ℕ) → IsSound d p → y < d → IsSound d (before p y)
  unfolding before
  before-sound p y s below =
      let kept = put-good d five p.word p.change s.good s.below in
      record { good = kept.0; below = add-lt d _ _ kept.1 (minus-lt d y below) }

  before-read : (p : Put) (y : ℕ) → IsSound d p → y < d → put d (before p y).word (add d y (before p y).change) ≡ p
  unfolding before
  before-read p y s below =
      let back = put d p.word p.change in
      let kept = put-good d five p.word p.change s.good s.below in
      let turn : add d y (add d back.change (minus d y)) ≡ back.change = grind (arith, minus-cases, add-cases) in
      ap (put d back.word) turn ∙ put-put d five p.word p.change s.good

  before-longer : (p : Put) (y : ℕ) → length (before p y).word ≤ length p.word + 1
  unfolding before
  before-longer p y = elim (length-put d five p.word p.change) [ inl longer ↦ omega arith | inr shorter ↦ omega arith ]

  -- a state from which a word leads to another state
  record ComesFrom (p : Put) (w : List ℕ) : Type 0 where
    from : Put
    sound : IsSound d from
    size : length from.word ≤ length p.word + length w
    leads : read d from w ≡ p

  comes-from : (p : Put) (w : List ℕ) → IsSound d p → InRange d w → ComesFrom p w
  comes-from p [] s i = record { from = p; sound = s; size = omega arith; leads = refl }
  comes-from p (y ∷ w) s i =
      let later = comes-from p w s i.1 in
      let longer = before-longer later.from y in
      let size = later.size in
      let whole : length (y ∷ w) ≡ length w + 1 = omega arith in
      record {
        from = before later.from y;
        sound = before-sound later.from y later.sound i.0;
        size = omega arith;
        leads = ap (λ q. read d q w) (before-read later.from y later.sound i.0) ∙ later.leads;
      }

  module _ (n : ℕ) (row : ℕ → ℕ) (canonical : IsCanonicalRow d n row) where
    -- a start direction and entries of a row behind it are canonical
    pub row-good : (start m k : ℕ) → start < d → IsCanonicalBackward d (upto row m k (start ∷ []))
    row-good start m zero below = below
    row-good start m (suc k) below =
        good-cons d (row (m + k)) (upto row m k (start ∷ [])) (upto-cons row m k (start ∷ []) tt) (canonical.below (m + k))
        (row-follows d n row five canonical (upto row m k (start ∷ [])) (m + k)
        (λ one. (let e : m + k + 0 ≡ m + k = omega arith in
        upto-shut d n row five canonical m 0 (start ∷ []) tt (λ q far one twos. refl) k 0 (omega arith) (ap row e ∙ one)
        (λ i below. absurd (omega arith)))))
        (row-good start m k below)

    entries-in-range : (m k : ℕ) → InRange d (entries row m k)
    entries-in-range m zero = tt
    entries-in-range m (suc k) = (canonical.below m, entries-in-range (m + 1) k)

    -- the words along a row are what is read of its entries
    along-read : (p : Put) (m k : ℕ) → (j : ℕ) → j ≡ m + k → read d (along d p row m) (entries row m k) ≡ along d p row j
    along-read p m zero j e = let f : m ≡ j = omega arith in ap (along d p row) f
    along-read p m (suc k) j e =
        let f : m + 1 ≡ suc m = omega arith in
        ap (λ i. read d (along d p row (suc m)) (entries row i k)) f ∙ along-read p (suc m) k j (omega arith)

    -- the word before and the row behind it, and a canonical word of the row alone
    pub loses-at-most : (p : Put) → IsSound d p → (j : ℕ) → j ≤ length (along d p row j).word + length p.word
    loses-at-most p s zero = omega arith
    loses-at-most p s (suc j) =
        let w = entries row 0 (suc j) in
        let u = reverse p.word in
        let ended = along d p row (suc j) in
        let in_row = entries-in-range 0 (suc j) in
        let changed : List ℕ = next_changed d p.change w in
        let u_in : InRange d (reverse p.word ++ []) = in-range-reverse d p.word [] (good-in-range d p.word s.good) tt in
        let u_range : InRange d u = rw (append-nil (reverse p.word)) at u_in in
        let origin = comes-from (state [] 0) u (start-sound d five) u_range in
        let first_below = add-lt d (row 0) p.change (canonical.below 0) s.below in
        -- the row alone
        let start = add d (row 0) p.change in
        let good = row-good start 1 j first_below in
        let alone : List ℕ = upto row 1 j (start ∷ []) in
        let alone_is : reverse alone ≡ changed =
        reverse-upto row 1 j (start ∷ []) in
        let long = upto-length row 1 j (start ∷ []) in
        let from_start : read d (state [] 0) changed ≡ state alone 0 =
        ap (read d (state [] 0)) (sym alone_is) ∙ read-good d five alone good in
        let whole : read d origin.from (u ++ changed) ≡ state alone 0 =
        read-append d five origin.from u changed ∙ ap (λ q. read d q changed) origin.leads ∙ from_start in
        -- the word that is left
        let reached = read-reached d five p w s in_row in
        let left_is : read d p w ≡ ended = along-read p 0 (suc j) (suc j) (omega arith) in
        let all_in : InRange d (u ++ changed) =
        in-range-reverse d p.word changed (good-in-range d p.word s.good) (first_below, entries-in-range 1 j) in
        let kept = (keeps-steps d five reached.0 origin.from (u ++ changed) (reverse (read d p w).word) origin.sound all_in reached.1).1 in
        let most = read-longer origin.from (reverse (read d p w).word) in
        let back = length-reverse (read d p w).word in
        let same = ap (λ q. length q.word) left_is in
        let alone_long = ap (λ q. length q.word) whole in
        let kept_long = ap length kept in
        let size = origin.size in
        let u_long = length-reverse p.word in
        let one_start : length (start ∷ []) ≡ 1 = refl in
        omega arith

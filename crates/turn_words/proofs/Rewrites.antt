-- What a flip and a close make of a word that is read from its end, and the steps that they note.
use Rattle.turn_words.proofs.Common.{◌≡◌, ◌≢◌, ℕ, ◌+◌, ◌-◌, ◌<◌, ◌≤◌, inl, inr, arith, refl, sym, ◌∙◌, ap, ap₂, zero, suc, Bool, true, false, List, [], ◌∷◌, ◌++◌, All, length, reverse, replicate, Option, Some, None, append_assoc, eq-eqb, common_steps, append-nil, length-reverse, in-range-from, in-range-reverse, InRange, IsCons, open-two, open-cases, minus, flip_steps, close_steps, put_steps, pushes, EndsOtherwise, EndsBelow, last_changed, is_open, flipped, closed, with_steps, Step, SpurOut, Push}
use Rattle.turn_words.proofs.RunLists.{cons-behind}
use Rattle.turn_words.proofs.Table.{flipped-table, closed-table}

-- steps noted after steps
pub with_steps-append : (o : Option (List Step)) (a b : List Step) → with_steps (with_steps o a) b ≡ with_steps o (a ++ b)
with_steps-append None a b = refl
with_steps-append (Some s) a b = ap Some (append_assoc s a b)

-- the first of some pushes is noted
pub pushes-next : (o p : Option (List Step)) (up : Bool) (at count : ℕ) → 0 < count → p ≡ with_steps o (Push at up ∷ [])
    → with_steps o (pushes up at count) ≡ with_steps p (pushes up (at - 1) (count - 1))
pushes-next o p up at zero h e = absurd (omega arith)
pushes-next o p up at (suc count) h e = grind (arith, with_steps-append)

-- entries below the degree, read from the end
back-in-range : (d : ℕ) (w : List ℕ) → All (λ entry. entry < d) w → InRange d (reverse w)
back-in-range d w all = rw (append-nil (reverse w)) at (in-range-reverse d w [] (in-range-from d w all) tt)

behind-in-range : (d c v : ℕ) (r : List ℕ) → InRange d (replicate c v ++ r) → InRange d r
behind-in-range d zero v r i = i
behind-in-range d (suc c) v r i = behind-in-range d c v r i.1

ends-below : (d v : ℕ) (r : List ℕ) → EndsOtherwise v r → InRange d r → EndsBelow d r
ends-below d v [] ends i = absurd ends
ends-below d v (x ∷ r) ends i = i.0

-- the last entry behind a run is below the degree
pub behind-below : (d c v : ℕ) (w r : List ℕ) → All (λ entry. entry < d) w → reverse w ≡ replicate c v ++ r → EndsOtherwise v r
    → EndsBelow d r
behind-below d c v w r all e ends = ends-below d v r ends (behind-in-range d c v r (rw e at (back-in-range d w all)))

-- so is the one before it
pub before-below : (d c v y : ℕ) (w r rest : List ℕ) → All (λ entry. entry < d) w → reverse w ≡ replicate c v ++ r → r ≡ y ∷ rest
    → IsCons rest → EndsBelow d rest
before-below d c v y w r rest all e split cons =
    let range : InRange d (y ∷ rest) = rw split at (behind-in-range d c v r (rw e at (back-in-range d w all))) in
    go rest cons range.1
  where
    go : (l : List ℕ) → IsCons l → InRange d l → EndsBelow d l
    go [] c i = absurd c
    go (x ∷ l) c i = i.0

length-behind : (c v x : ℕ) (r : List ℕ) → length (replicate c v ++ x ∷ r) ≡ c + (length r + 1)
length-behind c v x r = grind (arith, common_steps)

ends-whole : (v x : ℕ) (r : List ℕ) → EndsOtherwise v (x ∷ r) → r ≢ [] → x ≢ v
ends-whole v x [] ends some = absurd (some refl)
ends-whole v x (y ∷ r) ends some = ends

-- the spur that is noted
pub spur-noted : (d t x n : ℕ) (r rest : List ℕ) → t ≡ 0 → r ≡ x ∷ rest → n ≡ length r → SpurOut (n - 1) ∷ [] ≡ put_steps d r t
spur-noted d t x n r rest none split long = grind arith

-- a word whose last entry was changed has one
pub changed-some : (d by : ℕ) (w v : List ℕ) → reverse v ≡ last_changed d by w → IsCons w → 0 < length v
changed-some d by [] v e c = absurd c
changed-some d by (x ∷ w) v e c = let long = length-reverse v in let some = ap length e in omega arith

-- what a flip and a close make of a word
module _ (d : ℕ) (five : 5 ≤ d) where
  pub flip-written : (k : ℕ) (w0 r1 r2 r3 r4 : List ℕ) → w0 ≡ replicate k (minus d 2) ++ r1 → EndsOtherwise (minus d 2) r1
      → r2 ≡ last_changed d 1 r1 →
      r3 ≡ replicate 1 1 ++ r2 → r4 ≡ replicate k 2 ++ r3 → r4 ≡ flipped d w0
  flip-written k w0 [] r2 r3 r4 start ends changed one twos = absurd ends
  flip-written k w0 (x ∷ r) r2 r3 r4 start ends changed one twos =
      twos ∙ ap (λ z. replicate k 2 ++ z) (one ∙ ap (λ z. 1 ∷ z) changed)
      ∙ sym (ap (flipped d) start ∙ flipped-table d five k x r (ends-whole (minus d 2) x r ends))

  flip-steps : (k x : ℕ) (r : List ℕ) → (r ≢ [] → x ≢ minus d 2)
      → flip_steps d (replicate k (minus d 2) ++ x ∷ r) ≡ pushes true (k + length r) (suc k)
  flip-steps zero x [] h = refl
  flip-steps zero x (y ∷ r) h = grind arith
  flip-steps (suc k) x r h =
      let rest = replicate k (minus d 2) ++ x ∷ r in
      let long : length rest ≡ suc k + length r = length-behind k (minus d 2) x r
      ∙ (let q : k + (length r + 1) ≡ suc k + length r = omega arith in q) in
      let down : k + length r ≡ suc k + length r - 1 = omega arith in
      flip-first rest (cons-behind k (minus d 2) (x ∷ r) tt)
      ∙ ap₂ (λ n z. Push n true ∷ z) long (flip-steps k x r h ∙ ap (λ n. pushes true n (suc k)) down)
    where
      flip-first : (l : List ℕ) → IsCons l → flip_steps d (minus d 2 ∷ l) ≡ Push (length l) true ∷ flip_steps d l
      flip-first [] c = absurd c
      flip-first (y ∷ l) c = rw (eq-eqb (minus d 2) (minus d 2) refl) refl

  pub flip-noted : (k n : ℕ) (w0 r1 : List ℕ) → w0 ≡ replicate k (minus d 2) ++ r1 → EndsOtherwise (minus d 2) r1 → n ≡ length w0
      → pushes true (n - 1) (k + 1) ≡ flip_steps d w0
  flip-noted k n w0 [] start ends long = absurd ends
  flip-noted k n w0 (x ∷ r) start ends long =
      let all = ap length start ∙ length-behind k (minus d 2) x r in
      let first : n - 1 ≡ k + length r = omega arith in
      let count : k + 1 ≡ suc k = omega arith in
      ap₂ (pushes true) first count ∙ sym (ap (flip_steps d) start ∙ flip-steps k x r (ends-whole (minus d 2) x r ends))

  -- an open word without its twos ends in a turn 1
  open-behind : (k : ℕ) (r : List ℕ) → IsCons r → is_open (replicate k 2 ++ r) ≡ is_open r
  open-behind zero r c = refl
  open-behind (suc k) r c = open-two (replicate k 2 ++ r) (cons-behind k 2 r c) ∙ open-behind k r c

  pub open-ends : (k y : ℕ) (w0 r1 rest : List ℕ) → w0 ≡ replicate k 2 ++ r1 → EndsOtherwise 2 r1 → is_open w0 ≡ true → r1 ≡ y ∷ rest
      → (y ≡ 1) × IsCons rest
  open-ends k y w0 r1 rest start ends opened split =
      let ends_now : EndsOtherwise 2 (y ∷ rest) = rw split at ends in
      let still : is_open (y ∷ rest) ≡ true = sym (ap is_open (start ∙ ap (λ z. replicate k 2 ++ z) split)
      ∙ open-behind k (y ∷ rest) tt) ∙ opened in
      let cases = open-cases y rest still in
      elim cases.1 [
        | inl one ↦ (one, cases.0)
        | inr two ↦ absurd (go rest cases.0 ends_now two.0)
      ]
    where
      go : (l : List ℕ) → IsCons l → EndsOtherwise 2 (y ∷ l) → y ≡ 2 → ⊥
      go [] c e two = c
      go (x ∷ l) c e two = e two

  pub close-written : (k y : ℕ) (w0 r1 r2 r3 r4 : List ℕ) → w0 ≡ replicate k 2 ++ r1 → EndsOtherwise 2 r1 → is_open w0 ≡ true
      → r1 ≡ y ∷ r2 →
      r3 ≡ last_changed d (minus d 1) r2 → r4 ≡ replicate k (minus d 2) ++ r3 → r4 ≡ closed d w0
  close-written k y w0 r1 r2 r3 r4 start ends opened split changed twos =
      let one = open-ends k y w0 r1 r2 start ends opened split in
      go r2 one.1 (start ∙ ap (λ z. replicate k 2 ++ z) (split ∙ ap (λ n. n ∷ r2) one.0))
      (twos ∙ ap (λ z. replicate k (minus d 2) ++ z) changed)
    where
      go : (l : List ℕ) → IsCons l → w0 ≡ replicate k 2 ++ 1 ∷ l → r4 ≡ replicate k (minus d 2) ++ last_changed d (minus d 1) l
          → r4 ≡ closed d w0
      go [] c e f = absurd c
      go (x ∷ l) c e f = f ∙ sym (ap (closed d) e ∙ closed-table d five k x l)

  close-steps : (k x : ℕ) (r : List ℕ) → close_steps (replicate k 2 ++ 1 ∷ x ∷ r) ≡ pushes false (k + (length r + 1)) (suc k)
      ++ SpurOut (length r) ∷ []
  close-steps zero x r = grind arith
  close-steps (suc k) x r =
      let rest = replicate k 2 ++ 1 ∷ x ∷ r in
      let behind = length-behind k 2 1 (x ∷ r) in
      let tail : length (x ∷ r) ≡ length r + 1 = omega arith in
      let long : length rest ≡ suc k + (length r + 1) = omega arith in
      let down : k + (length r + 1) ≡ suc k + (length r + 1) - 1 = omega arith in
      close-first rest (cons-behind k 2 (1 ∷ x ∷ r) tt)
      ∙ ap₂ (λ n z. Push n false ∷ z) long (close-steps k x r ∙ ap (λ n. pushes false n (suc k) ++ SpurOut (length r) ∷ []) down)
    where
      close-first : (l : List ℕ) → IsCons l → close_steps (2 ∷ l) ≡ Push (length l) false ∷ close_steps l
      close-first [] c = absurd c
      close-first (y ∷ l) c = refl

  -- how long an open word is, and the steps of its close
  pub close-noted : (k y n : ℕ) (w0 r1 r2 : List ℕ) → w0 ≡ replicate k 2 ++ r1 → EndsOtherwise 2 r1 → is_open w0 ≡ true → r1 ≡ y ∷ r2
      → n ≡ length w0 →
      (k + 2 ≤ n) × (pushes false (n - 1) (k + 1) ++ SpurOut (n - 2 - k) ∷ [] ≡ close_steps w0)
  close-noted k y n w0 r1 r2 start ends opened split long =
      let one = open-ends k y w0 r1 r2 start ends opened split in
      go r2 one.1 (start ∙ ap (λ z. replicate k 2 ++ z) (split ∙ ap (λ n. n ∷ r2) one.0))
    where
      go : (l : List ℕ) → IsCons l → w0 ≡ replicate k 2 ++ 1 ∷ l → (k + 2 ≤ n)
          × (pushes false (n - 1) (k + 1) ++ SpurOut (n - 2 - k) ∷ [] ≡ close_steps w0)
      go [] c e = absurd c
      go (x ∷ l) c e =
          let all = ap length e ∙ length-behind k 2 1 (x ∷ l) in
          let tail : length (x ∷ l) ≡ length l + 1 = omega arith in
          let first : n - 1 ≡ k + (length l + 1) = omega arith in
          let spur : n - 2 - k ≡ length l = omega arith in
          let count : k + 1 ≡ suc k = omega arith in
          (omega arith, ap₂ (λ m z. m ++ SpurOut z ∷ []) (ap₂ (pushes false) first count) spur ∙ sym (ap close_steps e ∙ close-steps k x l))

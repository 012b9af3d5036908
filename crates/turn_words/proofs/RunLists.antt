-- Runs, written out and read from their end.
use Rattle.turn_words.proofs.Common.{◌≡◌, ◌≢◌, ℕ, ◌+◌, ◌-◌, ◌<◌, ◌≤◌, ◌⊎◌, inl, inr, arith, refl, sym, ◌∙◌, ap, ap₂, zero, suc, List, [], ◌∷◌, ◌++◌, length, reverse, replicate, take, get_or, Option, Some, None, append_assoc, common_steps, append-nil, reverse-append, length-append, length-replicate, length-reverse, replicate_more, replicate-append-replicate, take_all, take_more, IfSome, IsCons, EndsOtherwise, TopDiffers, written, AreFilled, AreApart}
use Rattle.std.specs.Option.{option_to_list}

-- a run of copies, read from its end
pub reverse-replicate : (n x : ℕ) → reverse (replicate n x) ≡ replicate n x
reverse-replicate zero x = refl
reverse-replicate (suc n) x =
    reverse-append (x ∷ []) (replicate n x) ∙ ap (λ z. z ++ (x ∷ [])) (reverse-replicate n x) ∙ replicate_more n x
    ∙ ap (λ m. replicate m x) (let e : n + 1 ≡ suc n = omega arith in e)

pub replicate-first : (n x : ℕ) → 0 < n → replicate n x ≡ x ∷ replicate (n - 1) x
replicate-first zero x h = absurd (omega arith)
replicate-first (suc n) x h = ap (λ m. x ∷ replicate m x) (let e : n ≡ suc n - 1 = omega arith in e)

pub cons-behind : (n x : ℕ) (r : List ℕ) → IsCons r → IsCons (replicate n x ++ r)
cons-behind zero x r c = c
cons-behind (suc n) x r c = tt

pub written-append : (rs ss : List (ℕ × ℕ)) → written (rs ++ ss) ≡ written rs ++ written ss
written-append [] ss = refl
written-append (r ∷ rs) ss = ap (λ z. replicate r.1 r.0 ++ z) (written-append rs ss)
    ∙ sym (append_assoc (replicate r.1 r.0) (written rs) (written ss))

-- a run on top, written out
pub written-push : (rs : List (ℕ × ℕ)) (r : ℕ × ℕ) → written (rs ++ r ∷ []) ≡ written rs ++ replicate r.1 r.0
written-push rs r = written-append rs (r ∷ []) ∙ ap (λ z. written rs ++ z) (append-nil (replicate r.1 r.0))

pub filled-push : (rs : List (ℕ × ℕ)) (r : ℕ × ℕ) → AreFilled rs → 0 < r.1 → AreFilled (rs ++ r ∷ [])
filled-push [] r f p = (p, tt)
filled-push (s ∷ rs) r f p = (f.0, filled-push rs r f.1 p)

pub filled-front : (rs : List (ℕ × ℕ)) (r : ℕ × ℕ) → AreFilled (rs ++ r ∷ []) → AreFilled rs × (0 < r.1)
filled-front [] r f = (tt, f.0)
filled-front (s ∷ rs) r f = let rest = filled-front rs r f.1 in ((f.0, rest.0), rest.1)

-- the run on top, if there is one, is taken off
pub popped-filled : (o : Option (ℕ × ℕ)) (old new : List (ℕ × ℕ)) → old ≡ new ++ option_to_list o → AreFilled old → AreFilled new
    × IfSome o (λ run. 0 < run.1)
popped-filled None old new e f = let same : old ≡ new = e ∙ append-nil new in (rw same at f, tt)
popped-filled (Some run) old new e f = let filled : AreFilled (new ++ run ∷ []) = rw e at f in filled-front new run filled

-- no more runs than turns
pub filled-length : (rs : List (ℕ × ℕ)) → AreFilled rs → length rs ≤ length (written rs)
filled-length [] f = omega arith
filled-length (r ∷ rs) f =
    let rest = filled-length rs f.1 in
    let long = length-append (replicate r.1 r.0) (written rs) in
    let copies = length-replicate r.1 r.0 in
    omega arith

pub apart-push : (rs : List (ℕ × ℕ)) (r : ℕ × ℕ) → AreApart rs → TopDiffers r.0 rs → AreApart (rs ++ r ∷ [])
apart-push [] r a d = tt
apart-push (s ∷ []) r a d = (d, tt)
apart-push (s ∷ t ∷ rs) r a d = (a.0, apart-push (t ∷ rs) r a.1 d)

pub apart-front : (rs : List (ℕ × ℕ)) (r : ℕ × ℕ) → AreApart (rs ++ r ∷ []) → AreApart rs × TopDiffers r.0 rs
apart-front [] r a = (tt, tt)
apart-front (s ∷ []) r a = (tt, a.0)
apart-front (s ∷ t ∷ rs) r a = let rest = apart-front (t ∷ rs) r a.1 in ((a.0, rest.0), rest.1)

pub top-differs : (v : ℕ) (rs : List (ℕ × ℕ)) (r : ℕ × ℕ) → r.0 ≢ v → TopDiffers v (rs ++ r ∷ [])
top-differs v [] r h = h
top-differs v (s ∷ []) r h = h
top-differs v (s ∷ t ∷ rs) r h = top-differs v (t ∷ rs) r h

pub differs-top : (v : ℕ) (rs : List (ℕ × ℕ)) (r : ℕ × ℕ) → TopDiffers v (rs ++ r ∷ []) → r.0 ≢ v
differs-top v [] r h = h
differs-top v (s ∷ []) r h = h
differs-top v (s ∷ t ∷ rs) r h = differs-top v (t ∷ rs) r h

-- a stack is empty, or it has a run on top
pub from-top : (rs : List (ℕ × ℕ)) → (rs ≡ []) ⊎ ((below : List (ℕ × ℕ)) × (r : ℕ × ℕ) × (rs ≡ below ++ r ∷ []))
from-top [] = inl refl
from-top (s ∷ rs) = elim (from-top rs) [
  | inl none ↦ inr ([], s, ap (λ z. s ∷ z) none)
  | inr some ↦ inr (s ∷ some.0, some.1, ap (λ z. s ∷ z) some.2)
]

-- the run on top by its place
pub last-run : (rs : List (ℕ × ℕ)) → 0 < length rs → rs ≡ take (length rs - 1) rs ++ get_or rs (length rs - 1) (0, 0) ∷ []
last-run rs h = sym (take_all (length rs - 1 + 1) rs (omega arith)) ∙ take_more rs (length rs - 1) (0, 0) (omega arith)

-- a word with its runs, read from its end
abbrev pub back : ℕ → List (ℕ × ℕ) → List ℕ
back start rs = reverse (start ∷ written rs)

pub back-written : (start : ℕ) (rs ss : List (ℕ × ℕ)) (v c : ℕ) → written ss ≡ written rs ++ replicate c v
    → back start ss ≡ replicate c v ++ back start rs
back-written start rs ss v c e = grind (arith, common_steps, written, back, reverse-replicate)

pub back-push : (start : ℕ) (rs : List (ℕ × ℕ)) (r : ℕ × ℕ) → back start (rs ++ r ∷ []) ≡ replicate r.1 r.0 ++ back start rs
back-push start rs r = back-written start rs (rs ++ r ∷ []) r.0 r.1 (written-push rs r)

pub back-cons : (start : ℕ) (rs : List (ℕ × ℕ)) → IsCons (back start rs)
back-cons start rs = cons (back start rs) (let long = length-reverse (start ∷ written rs) in omega arith)
  where
    cons : (r : List ℕ) → 0 < length r → IsCons r
    cons [] h = absurd (omega arith)
    cons (x ∷ r) h = tt

-- the last entry of a run on top, and what is before it
pub back-first : (start : ℕ) (rs : List (ℕ × ℕ)) (r : ℕ × ℕ) → 0 < r.1 → back start (rs ++ r ∷ []) ≡ r.0 ∷ replicate (r.1 - 1) r.0
    ++ back start rs
back-first start rs r h = back-push start rs r ∙ ap (λ z. z ++ back start rs) (replicate-first r.1 r.0 h)

ends-cons : (v x : ℕ) (r : List ℕ) → IsCons r → x ≢ v → EndsOtherwise v (x ∷ r)
ends-cons v x [] c h = tt
ends-cons v x (y ∷ r) c h = h

-- where the run on top has another value, so has the last turn
pub ends-otherwise : (v start : ℕ) (rs : List (ℕ × ℕ)) → AreFilled rs → TopDiffers v rs → EndsOtherwise v (back start rs)
ends-otherwise v start rs f d = elim (from-top rs) [
  | inl none ↦ rw none tt
  | inr some ↦
      let below = some.0 in
      let r = some.1 in
      let filled : AreFilled (below ++ r ∷ []) = rw some.2 at f in
      let differs : TopDiffers v (below ++ r ∷ []) = rw some.2 at d in
      rw (some.2, back-first start below r (filled-front below r filled).1)
      (ends-cons v r.0 (replicate (r.1 - 1) r.0 ++ back start below)
      (cons-behind (r.1 - 1) r.0 (back start below) (back-cons start below)) (differs-top v below r differs))
]

-- one value less
pub written-less : (old mid new : List (ℕ × ℕ)) (v c : ℕ) → old ≡ mid ++ (v, c) ∷ [] → 0 < c → new ≡ mid ++ (v, c - 1) ∷ []
    → written old ≡ written new ++ v ∷ []
written-less old mid new v c e h first = grind (arith, common_steps, written, written-push)

pub apart-less : (old mid new : List (ℕ × ℕ)) (v c : ℕ) → AreApart old → old ≡ mid ++ (v, c) ∷ [] → new ≡ mid ++ (v, c - 1) ∷ []
    → AreApart new
apart-less old mid new v c a e first = grind (arith, apart-front, apart-push)

-- a run of one value goes
pub written-last : (old mid : List (ℕ × ℕ)) (v c : ℕ) → old ≡ mid ++ (v, c) ∷ [] → c ≡ 1 → written old ≡ written mid ++ v ∷ []
written-last old mid v c e one = ap written e ∙ written-push mid (v, c) ∙ ap (λ n. written mid ++ replicate n v) one

-- a run that joins the one under it
pub written-joined : (mid new : List (ℕ × ℕ)) (v under c : ℕ) → new ≡ mid ++ (v, under + c) ∷ []
    → written new ≡ (written mid ++ replicate under v) ++ replicate c v
written-joined mid new v under c e =
    ap written e ∙ written-push mid (v, under + c) ∙ ap (λ z. written mid ++ z) (sym (replicate-append-replicate under c v))
    ∙ sym (append_assoc (written mid) (replicate under v) (replicate c v))

-- a list does not begin with a value
abbrev BeginsOtherwise : ℕ → List ℕ → Type 0
BeginsOtherwise v [] = Unit {0}
BeginsOtherwise v (x ∷ r) = x ≢ v

begins-otherwise : (r : ℕ × ℕ) (rs : List (ℕ × ℕ)) → AreFilled rs → AreApart (r ∷ rs) → BeginsOtherwise r.0 (written rs)
begins-otherwise r [] f a = tt
begins-otherwise r (q ∷ qs) f a = rw (replicate-first q.1 q.0 f.0) (λ e. a.0 (sym e))

apart-tail : (r : ℕ × ℕ) (rs : List (ℕ × ℕ)) → AreApart (r ∷ rs) → AreApart rs
apart-tail r [] a = tt
apart-tail r (q ∷ qs) a = a.1

-- equal lists begin with runs of one length
peeled : (c e v : ℕ) (a b : List ℕ) → BeginsOtherwise v a → BeginsOtherwise v b → replicate c v ++ a ≡ replicate e v ++ b → (c ≡ e)
    × (a ≡ b)
peeled zero zero v a b na nb h = (refl, h)
peeled zero (suc e) v [] b na nb h = absurd cc
peeled zero (suc e) v (x ∷ a) b na nb h = absurd (na (let q : x ≡ v = cc in q))
peeled (suc c) zero v a [] na nb h = absurd cc
peeled (suc c) zero v a (x ∷ b) na nb h = absurd (nb (let q : x ≡ v = cc in q))
peeled (suc c) (suc e) v a b na nb h =
    let rest : replicate c v ++ a ≡ replicate e v ++ b = cc in
    let both = peeled c e v a b na nb rest in grind arith

-- a list has one list of runs
pub one-list : (rs ss : List (ℕ × ℕ)) → AreFilled rs → AreFilled ss → AreApart rs → AreApart ss → written rs ≡ written ss → rs ≡ ss
one-list [] [] f g a b e = refl
one-list [] (s ∷ ss) f g a b e =
    let long = filled-length (s ∷ ss) g in
    let none : length (written (s ∷ ss)) ≡ 0 = ap length (sym e) in grind arith
one-list (r ∷ rs) [] f g a b e =
    let long = filled-length (r ∷ rs) f in
    let none : length (written (r ∷ rs)) ≡ 0 = ap length e in
    absurd (omega arith)
one-list (r ∷ rs) (s ∷ ss) f g a b e =
    let heads : r.0 ∷ replicate (r.1 - 1) r.0 ++ written rs ≡ s.0 ∷ replicate (s.1 - 1) s.0 ++ written ss =
    ap (λ z. z ++ written rs) (sym (replicate-first r.1 r.0 f.0)) ∙ e ∙ ap (λ z. z ++ written ss) (replicate-first s.1 s.0 g.0) in
    let value : r.0 ≡ s.0 = cc in
    let same : replicate r.1 r.0 ++ written rs ≡ replicate s.1 r.0 ++ written ss =
    e ∙ ap (λ n. replicate s.1 n ++ written ss) (sym value) in
    let other : BeginsOtherwise r.0 (written ss) = rw value (begins-otherwise s ss g.1 b) in
    let both = peeled r.1 s.1 r.0 (written rs) (written ss) (begins-otherwise r rs f.1 a) other same in
    let first : r ≡ s = ap₂ pair value both.0 in
    ap₂ ◌∷◌ first (one-list rs ss f.1 g.1 (apart-tail r rs a) (apart-tail s ss b) both.1)
  where
    pair : ℕ → ℕ → ℕ × ℕ
    pair v c = (v, c)

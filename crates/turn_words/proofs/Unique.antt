-- A turn word reaches one canonical word: the one that is left when its entries are put one after another.
use Rattle.turn_words.proofs.Common.{◌≡◌, ◌↔◌, ℕ, ◌+◌, ◌<◌, ◌≤◌, arith, refl, sym, ◌∙◌, ap, ap₂, subst, zero, suc, List, [], ◌∷◌, ◌++◌, All, length, reverse, take, get_or, common_steps, reverse-reverse, take_more, IsCanonical, IsCanonicalOf, IsTurnWord, canonical-from, good-from-canonical, in-range-from, InRange, IsCanonicalBackward, add, put, Reaches}
use Rattle.turn_words.proofs.Reading.{read, IsSound, state}
use Rattle.turn_words.proofs.Backward.{both-ways}
use Rattle.turn_words.proofs.Reaching.{reached-good, left-reached, read-sound, start-sound, after_steps-append, read-append}

-- what is left of a word
abbrev pub left : ℕ → List ℕ → List ℕ
left d w = reverse (read d (state [] 0) w).word

pub canonical-is-left : (d : ℕ) (w c : List ℕ) → IsTurnWord d w → IsCanonicalOf d w c → c ≡ left d w
canonical-is-left d w c t f =
    let range = in-range-from d w t.in_range in
    let good : IsCanonicalBackward d (reverse c) = good-from-canonical d (reverse c) (rw (reverse-reverse c) f.is_canonical) in
    let reached : Reaches d w (reverse (reverse c)) = rw (reverse-reverse c) f.reached in
    sym (reverse-reverse c) ∙ ap reverse (reached-good d t.five w (reverse c) range good reached)

pub left-is-canonical : (d : ℕ) (w : List ℕ) → IsTurnWord d w → IsCanonicalOf d w (left d w)
left-is-canonical d w t =
    let range = in-range-from d w t.in_range in
    let sound = read-sound d t.five (state [] 0) w (start-sound d t.five) range in
    record {
      is_canonical = canonical-from d (read d (state [] 0) w).word sound.good;
      reached = left-reached d t.five w range;
    }

pub unique : (d : ℕ) (w c e : List ℕ) → IsTurnWord d w → IsCanonicalOf d w c → IsCanonicalOf d w e → c ≡ e
unique d w c e t f g = canonical-is-left d w c t f ∙ sym (canonical-is-left d w e t g)

-- a canonical word reaches itself, by no steps
pub itself : (d : ℕ) (w : List ℕ) → IsCanonical d w → IsCanonicalOf d w w
itself d w c = record { is_canonical = c; reached = ([], refl) }

pub kept : (d : ℕ) (w c : List ℕ) → IsTurnWord d w → IsCanonical d w → IsCanonicalOf d w c → c ≡ w
kept d w c t i f = unique d w c w t f (itself d w i)

pub shared : (d : ℕ) (w v c e : List ℕ) → IsTurnWord d w → Reaches d w v → IsCanonicalOf d w c → IsCanonicalOf d v e → c ≡ e
shared d w v c e t r f g =
    unique d w c e t f (record {
      is_canonical = g.is_canonical;
      reached = (r.0 ++ g.reached.0, after_steps-append d r.0 g.reached.0 w v r.1 ∙ g.reached.1);
    })

pub reach_each_other : (d : ℕ) (w v c e : List ℕ) → IsTurnWord d w → IsTurnWord d v → IsCanonicalOf d w c → IsCanonicalOf d v e
    → Reaches d w v ↔ (c ≡ e)
reach_each_other d w v c e t u f g = (
  (λ r. shared d w v c e t r f g),
  (λ same.
      let back = (both-ways d v e u g.reached).1 in
      let there = subst (λ z. Reaches d w z) same f.reached in
      (there.0 ++ back.0, after_steps-append d there.0 back.0 w e there.1 ∙ back.1)),
)

-- what is known after the first `i` entries
pub record ReadsTo (d : ℕ) (w : List ℕ) (i : ℕ) (items : List ℕ) (change : ℕ) : Type 0 where
  pub left_is : read d (state [] 0) (take i w) ≡ state (reverse items) change
  pub size : length items ≤ i
  pub in_range : All (λ entry. entry < d) items
  pub change_below : change < d

in-range-take : (d n : ℕ) (w : List ℕ) → InRange d w → InRange d (take n w)
in-range-take d zero w i = tt
in-range-take d (suc n) [] i = tt
in-range-take d (suc n) (x ∷ w) i = (i.0, in-range-take d n w i.1)

pub reads-more : (d : ℕ) (w : List ℕ) (i : ℕ) (items new : List ℕ) (change turn next : ℕ) → IsTurnWord d w → i < length w
    → ReadsTo d w i items change →
    turn ≡ add d (get_or w i 0) change → reverse new ≡ (put d (reverse items) turn).word → next ≡ (put d (reverse items) turn).change
    → length new ≤ length items + 1 →
    ReadsTo d w (i + 1) new next
reads-more d w i items new change turn next t lt f turn_is new_is next_is longer =
    let range = in-range-from d w t.in_range in
    let sofar : read d (state [] 0) (take (i + 1) w) ≡ state (reverse new) next =
    ap (read d (state [] 0)) (take_more w i 0 lt) ∙ read-append d t.five (state [] 0) (take i w) (get_or w i 0 ∷ [])
    ∙ ap (λ q. read d q (get_or w i 0 ∷ [])) f.left_is ∙ ap (put d (reverse items)) (sym turn_is) ∙ ap₂ state (sym new_is) (sym next_is) in
    let sound = read-sound d t.five (state [] 0) (take (i + 1) w) (start-sound d t.five) (in-range-take d (i + 1) w range) in
    let now : IsSound d (state (reverse new) next) = subst (λ q. IsSound d q) sofar sound in
    let canonical : IsCanonical d new = rw (reverse-reverse new) at (canonical-from d (reverse new) now.good) in
    record {
      left_is = sofar;
      size = let size = f.size in omega arith;
      in_range = canonical.in_range;
      change_below = now.below;
    }

pub reads-end : (d : ℕ) (w : List ℕ) (i : ℕ) (items : List ℕ) (change : ℕ) → i ≡ length w → ReadsTo d w i items change → items ≡ left d w
reads-end d w i items change e f = grind (arith, common_steps, read)

-- A word as it is kept, and what the edits at its end make of it.
use Rattle.turn_words.proofs.Common.{◌≡◌, ◌≢◌, ℕ, ◌+◌, ◌-◌, ◌<◌, ◌≤◌, ◌^◌, ◌⊎◌, inl, inr, arith, refl, sym, ◌∙◌, ap, ap₂, zero, suc, true, false, eqb, ◌&&◌, List, [], ◌∷◌, ◌++◌, length, reverse, replicate, take, drop, get_or, cases_eq, eq-eqb, ne_eqb, common_steps, length-append, length-take-le, get_or-take, take_more, take-append-drop, add-cases, IsCons, open-one, open-two, open-other, add, word_of_runs, IsStoredWord, TopDiffers, is_open, written, AreFilled, AreApart}
use Rattle.std.specs.Bool.{Decides}
use Rattle.turn_words.proofs.RunLists.{cons-behind, written-append, written-push, filled-front, filled-length, apart-push, apart-front, top-differs, differs-top, last-run, back, back-written, back-push, back-cons, back-first, one-list}

word-some : (len start : ℕ) (rs : List (ℕ × ℕ)) → 0 < len → word_of_runs len start rs ≡ start ∷ written rs
word-some len start rs h = rw (ne_eqb len 0 (λ e. absurd (omega arith))) refl

word-none : (len start : ℕ) (rs : List (ℕ × ℕ)) → len ≡ 0 → word_of_runs len start rs ≡ []
word-none len start rs e = rw (eq-eqb len 0 e) refl

pub reverse-some : (len start : ℕ) (rs : List (ℕ × ℕ)) → 0 < len → reverse (word_of_runs len start rs) ≡ back start rs
reverse-some len start rs h = ap reverse (word-some len start rs h)

-- a word with a run is not empty
pub some-run : (len : ℕ) (rs : List (ℕ × ℕ)) (r : ℕ × ℕ) → IsStoredWord len (rs ++ r ∷ []) → 0 < len
some-run len rs r i = grind (arith, common_steps)

-- no more runs than entries
pub runs-few : (len : ℕ) (rs : List (ℕ × ℕ)) → IsStoredWord len rs → AreFilled rs → length rs ≤ len
runs-few len rs i f = grind (arith, filled-length)

-- the length that is kept
pub word-length : (len start : ℕ) (rs : List (ℕ × ℕ)) → IsStoredWord len rs → length (word_of_runs len start rs) ≡ len
word-length len start rs i = grind (arith, word-none, written, word-some)

stored-made : (len : ℕ) (rs : List (ℕ × ℕ)) → 0 < len → len < 2 ^ 32 → len ≡ length (written rs) + 1 → AreApart rs → IsStoredWord len rs
stored-made len rs some few long a = grind arith

pub length-written : (rs ss : List (ℕ × ℕ)) (v c : ℕ) → written ss ≡ written rs ++ replicate c v
    → length (written ss) ≡ length (written rs) + c
length-written rs ss v c e = grind (arith, common_steps, written)

-- what is left where entries of one value were taken off the end
pub record TakenOff (len start v c : ℕ) (old new : List (ℕ × ℕ)) : Type 0 where
  pub within : c < len
  pub stored : IsStoredWord (len - c) new
  pub word : reverse (word_of_runs len start old) ≡ replicate c v ++ reverse (word_of_runs (len - c) start new)

pub taken-off : (len start v c : ℕ) (old new : List (ℕ × ℕ)) → IsStoredWord len old → 0 < len → written old ≡ written new
    ++ replicate c v → AreApart new → TakenOff len start v c old new
taken-off len start v c old new i some e a = grind (arith, common_steps, length-written, stored-made, reverse-some, back-written)

-- the last entry, and what is before it
pub last-of : (len start v c : ℕ) (old mid : List (ℕ × ℕ)) → IsStoredWord len old → old ≡ mid ++ (v, c) ∷ [] → 0 < c
    → reverse (word_of_runs len start old) ≡ v ∷ replicate (c - 1) v ++ back start mid
last-of len start v c old mid i e h = grind (arith, common_steps, reverse-some, some-run, back, back-first)

-- the last entry was changed
pub record Changed (len start v x : ℕ) (rest : List ℕ) (new : List (ℕ × ℕ)) : Type 0 where
  pub stored : IsStoredWord len new
  pub word : reverse (word_of_runs len start new) ≡ x ∷ rest

-- the last entry of a run of more
pub changed-inside : (len start v x c : ℕ) (old mid one new : List (ℕ × ℕ)) → IsStoredWord len old → old ≡ mid ++ (v, c) ∷ [] → 1 < c
    → v ≢ x →
    one ≡ mid ++ (v, c - 1) ∷ [] → new ≡ one ++ (x, 1) ∷ [] → Changed len start v x (replicate (c - 1) v ++ back start mid) new
changed-inside len start v x c old mid one new i e more differs first second =
    let stored : IsStoredWord len (mid ++ (v, c) ∷ []) = rw e at i in
    let was = length-written mid (mid ++ (v, c) ∷ []) v c (written-push mid (v, c)) in
    let between = length-written mid (mid ++ (v, c - 1) ∷ []) v (c - 1) (written-push mid (v, c - 1)) in
    let now = length-written one (one ++ (x, 1) ∷ []) x 1 (written-push one (x, 1)) in
    let same : length (written one) ≡ length (written (mid ++ (v, c - 1) ∷ [])) = ap (λ z. length (written z)) first in
    let apart = apart-front mid (v, c) stored.apart in
    let under : AreApart one = rw first (apart-push mid (v, c - 1) apart.0 apart.1) in
    let top : TopDiffers x one = rw first (top-differs x mid (v, c - 1) differs) in
    let few = i.few in grind (arith, stored-made, apart-push, reverse-some, back, back-push)

-- the one entry of a run
pub changed-alone : (len start v x c : ℕ) (old mid new : List (ℕ × ℕ)) → IsStoredWord len old → old ≡ mid ++ (v, c) ∷ [] → c ≡ 1 →
    written new ≡ written mid ++ replicate 1 x → AreApart new → Changed len start v x (replicate (c - 1) v ++ back start mid) new
changed-alone len start v x c old mid new i e one is a =
    grind (arith, common_steps, some-run, length-written, written-push, stored-made, reverse-some, back-written, back)

-- the word under a run of 1 has room for another run
pub under-short : (len v c : ℕ) (old mid : List (ℕ × ℕ)) → IsStoredWord len old → old ≡ mid ++ (v, c) ∷ [] → 0 < c
    → length (written mid) + 1 < 2 ^ 32
under-short len v c old mid i e h = grind (arith, common_steps, some-run, length-written, written-push)

pub under-apart : (len v c : ℕ) (old mid : List (ℕ × ℕ)) → IsStoredWord len old → old ≡ mid ++ (v, c) ∷ [] → AreApart mid
under-apart len v c old mid i e = let stored : IsStoredWord len (mid ++ (v, c) ∷ []) = rw e at i in (apart-front mid (v, c) stored.apart).0

-- a number that is not 0 changes an entry
pub add-differs : (d v by : ℕ) → v < d → 0 < by → by < d → v ≢ add d v by
add-differs d v by lt some below e = absurd (omega (arith, add-cases d v by))

open-twos : (c : ℕ) (r : List ℕ) → IsCons r → is_open (replicate c 2 ++ r) ≡ is_open r
open-twos zero r h = refl
open-twos (suc c) r h = open-two (replicate c 2 ++ r) (cons-behind c 2 r h) ∙ open-twos c r h

-- whether the word is open, by its run on top and the one under it
module _ (len start : ℕ) (rs : List (ℕ × ℕ)) (i : IsStoredWord len rs) (f : AreFilled rs) (h : 0 < length rs) where
  abbrev below : List (ℕ × ℕ)
  below = take (length rs - 1) rs

  abbrev top : ℕ × ℕ
  top = get_or rs (length rs - 1) (0, 0)

  split : rs ≡ below ++ top ∷ []
  split = last-run rs h

  whole : IsStoredWord len (below ++ top ∷ [])
  whole = rw (← split) i

  top-filled : AreFilled below × (0 < top.1)
  top-filled = filled-front below top (rw (← split) f)

  end : reverse (word_of_runs len start rs) ≡ back start (below ++ top ∷ [])
  end = reverse-some len start rs (some-run len below top whole) ∙ ap (back start) split

  seen : is_open (reverse (word_of_runs len start rs)) ≡ is_open (top.0 ∷ replicate (top.1 - 1) top.0 ++ back start below)
  seen = ap is_open (end ∙ back-first start below top top-filled.1)

  pub open-at-one : top.0 ≡ 1 → true ≡ is_open (reverse (word_of_runs len start rs))
  open-at-one one = sym (seen ∙ ap (λ n. is_open (n ∷ replicate (top.1 - 1) top.0 ++ back start below)) one
      ∙ open-one (replicate (top.1 - 1) top.0 ++ back start below)
      (cons-behind (top.1 - 1) top.0 (back start below) (back-cons start below)))

  pub open-at-none : top.0 ≢ 1 → top.0 ≢ 2 → false ≡ is_open (reverse (word_of_runs len start rs))
  open-at-none not_one not_two = sym (seen ∙ open-other top.0 (replicate (top.1 - 1) top.0 ++ back start below) not_one not_two)

  under-twos : top.0 ≡ 2 → is_open (reverse (word_of_runs len start rs)) ≡ is_open (back start below)
  under-twos two = grind (arith, common_steps, back-push, back, open-twos, back-cons)

  pub open-at-start : top.0 ≡ 2 → length rs < 2 → false ≡ is_open (reverse (word_of_runs len start rs))
  open-at-start two short =
      let nothing : length rs - 1 ≡ 0 = omega arith in
      sym (under-twos two ∙ ap (λ n. is_open (back start (take n rs))) nothing)

  pub open-at-two : top.0 ≡ 2 → 2 ≤ length rs → eqb (get_or rs (length rs - 2) (0, 0)).0 1 ≡ is_open (reverse (word_of_runs len start rs))
  open-at-two two more =
      let long = length-take-le (length rs - 1) rs (omega arith) in
      let next : get_or below (length below - 1) (0, 0) ≡ get_or rs (length rs - 2) (0, 0) =
      ap (λ n. get_or below n (0, 0)) (let q : length below - 1 ≡ length rs - 2 = omega arith in q)
      ∙ get_or-take (length rs - 1) rs (length rs - 2) (0, 0) (omega arith) in
      let under = last-run below (omega arith) in
      let bottom = take (length below - 1) below in
      let run = get_or below (length below - 1) (0, 0) in
      let filled : AreFilled (bottom ++ run ∷ []) = rw (← under) top-filled.0 in
      let differs : TopDiffers top.0 (bottom ++ run ∷ []) = rw (← under) (apart-front below top whole.apart).1 in
      let not_two : run.0 ≢ 2 = λ e. differs-top top.0 bottom run differs (e ∙ sym two) in
      let rest = replicate (run.1 - 1) run.0 ++ back start bottom in
      let cons = cons-behind (run.1 - 1) run.0 (back start bottom) (back-cons start bottom) in
      ap (λ (q : ℕ × ℕ). eqb q.0 1) (sym next)
      ∙ sym (under-twos two ∙ ap (λ z. is_open (back start z)) under
      ∙ ap is_open (back-first start bottom run (filled-front bottom run filled).1) ∙ open-by run.0 rest cons not_two)
    where
      open-by : (t : ℕ) (r : List ℕ) → IsCons r → t ≢ 2 → is_open (t ∷ r) ≡ eqb t 1
      open-by t [] c h = absurd c
      open-by t (x ∷ r) c h = elim (cases_eq t 1) [
        | inl e ↦ rw (eq-eqb t 1 e) refl
        | inr e ↦ rw (ne_eqb t 1 e, ne_eqb t 2 h) refl
      ]

-- two words that are kept alike are equal
pub same-words : (len other start first : ℕ) (rs ss : List (ℕ × ℕ)) → len ≡ other → (len ≡ 0) ⊎ (start ≡ first) → rs ≡ ss
    → word_of_runs len start rs ≡ word_of_runs other first ss
same-words len other start first rs ss long begins runs = grind (arith, word-none)

-- equal words are kept alike
pub same-runs : (len other start first : ℕ) (rs ss : List (ℕ × ℕ)) → IsStoredWord len rs → IsStoredWord other ss → AreFilled rs
    → AreFilled ss →
    word_of_runs len start rs ≡ word_of_runs other first ss → (len ≡ other) × ((len ≡ 0) ⊎ (start ≡ first)) × (rs ≡ ss)
same-runs len other start first rs ss i j f g e = grind (arith, word-length, written, word-some, one-list)

-- the runs written out, one run on
pub written-next : (rs : List (ℕ × ℕ)) (k : ℕ) → k < length rs → written (take (k + 1) rs) ≡ written (take k rs)
    ++ replicate (get_or rs k (0, 0)).1 (get_or rs k (0, 0)).0
written-next rs k h = ap written (take_more rs k (0, 0) h) ∙ written-push (take k rs) (get_or rs k (0, 0))

pub written-within : (rs : List (ℕ × ℕ)) (k : ℕ) → k < length rs
    → length (written (take k rs)) + (get_or rs k (0, 0)).1 ≤ length (written rs)
written-within rs k h =
    let next = length-written (take k rs) (take (k + 1) rs) (get_or rs k (0, 0)).0 (get_or rs k (0, 0)).1 (written-next rs k h) in
    let whole : length (written rs) ≡ length (written (take (k + 1) rs)) + length (written (drop (k + 1) rs)) =
    ap (λ z. length (written z)) (sym (take-append-drop (k + 1) rs)) ∙ ap length (written-append (take (k + 1) rs) (drop (k + 1) rs))
    ∙ length-append (written (take (k + 1) rs)) (written (drop (k + 1) rs)) in grind arith

-- no run is empty
pub filled-at : (rs : List (ℕ × ℕ)) (k : ℕ) → AreFilled rs → k < length rs → 0 < (get_or rs k (0, 0)).1
filled-at [] k filled below = absurd (omega arith)
filled-at (r ∷ rs) zero filled below = filled.0
filled-at (r ∷ rs) (suc k) filled below = filled-at rs k filled.1 (omega arith)

-- two pairs are equal where their numbers are
pub pair-decides : (a b : ℕ × ℕ) → Decides (eqb a.0 b.0 && eqb a.1 b.1) (a ≡ b)
pair-decides a b = elim (cases_eq a.0 b.0) [
  | inl first ↦ elim (cases_eq a.1 b.1) [
    | inl second ↦
        let same : a ≡ b = ap₂ pair first second in
        ((λ yes. same), (λ e. rw (eq-eqb a.0 b.0 first, eq-eqb a.1 b.1 second) refl))
    | inr other ↦ (
      (λ yes. absurd (let no = rw (eq-eqb a.0 b.0 first, ne_eqb a.1 b.1 other) at yes in cc)),
      (λ e. absurd (other (ap (λ (q : ℕ × ℕ). q.1) e))),
    )
  ]
  | inr other ↦ ((λ yes. absurd (let no = rw (ne_eqb a.0 b.0 other) at yes in cc)), (λ e. absurd (other (ap (λ (q : ℕ × ℕ). q.0) e))))
]
  where
    pair : ℕ → ℕ → ℕ × ℕ
    pair v c = (v, c)

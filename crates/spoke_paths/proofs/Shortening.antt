-- What no spur and no bracket ends in, after a bracket was closed, and as a turn word.
use Rattle.spoke_paths.proofs.Common.{from_vertex, turn_of, Opens, EndsNothing, IsShort, IsBracketClosed, closes, HasNoBracket, IsReducedWord, ◌≡◌, ◌≢◌, ℕ, ◌+◌, ◌-◌, ◌<◌, ◌≤◌, arith, inl, inr, refl, sym, ◌∙◌, ap, suc, Bool, true, false, not, List, [], ◌∷◌, ◌++◌, All, length, get_or, drop, cases_eq, cases_lt, eq-eqb, ne_eqb, length_push, get_or_append_left, drop_all, append-nil, get_or-remove_below, length-remove, remove, if◌then◌else◌, add-cases, minus-cases, add-lt, minus-lt, add, minus, place_round, turns_after, turn_word_of, IsWheel}
use Rattle.spoke_paths.proofs.Turning.{from-next}
use Rattle.spoke_paths.proofs.Closing.{Signs, signs-of}

-- two paths that agree up to a place
abbrev Agree : List ℕ → List ℕ → ℕ → Type 0
Agree p q n = (k : ℕ) → k < n → get_or p k 0 ≡ get_or q k 0

turn-agrees : (places p q : List ℕ) (n k : ℕ) → Agree p q n → k < n → turn_of places p k ≡ turn_of places q k
turn-agrees places p q n k a h = grind arith

opens-agrees : (places p q : List ℕ) (n one two s at : ℕ) → Agree p q n → at ≤ n → Opens places p one two s at → Opens places q one two s at
opens-agrees places p q n one two s at a h o = grind (arith, turn-agrees)

pub ends-agrees : (places p q : List ℕ) (n at : ℕ) → ((k : ℕ) → k < n → get_or p k 0 ≡ get_or q k 0) → at < n
    → EndsNothing places p at → EndsNothing places q at
ends-agrees places p q n at a h e =
    let same = turn-agrees places p q n at a h in
    let back : Agree q p n = λ k l. sym (a k l) in
    record {
      no_spur = λ f. e.no_spur (same ∙ f);
      no_rise = λ f s o. e.no_rise (same ∙ f) s (opens-agrees places q p n _ _ s at back (omega arith) o);
      no_fall = λ f s o. e.no_fall (same ∙ f) s (opens-agrees places q p n _ _ s at back (omega arith) o);
    }

-- what is known of a place of the path where a bracket opens behind it, for the two kinds of brackets at once
record Ends (places path : List ℕ) (one two back at : ℕ) : Type 0 where
  no_spur : turn_of places path at ≢ 0
  no_one : turn_of places path at ≡ one → (s : ℕ) → ¬ Opens places path one two s at
  no_back : turn_of places path at ≢ back

-- the turn before a bracket that was closed
turn-before : (places old new : List ℕ) (start one two back run at : ℕ) → Signs (length places) one back two run → at + 1 ≡ start
    → 1 ≤ at → start + 1 < length old →
    turn_of places old at < length places → turn_of places old start ≡ one → ((s : ℕ) → ¬ Opens places old one two s start)
    → turn_of places old at ≢ 0 →
    IsBracketClosed places start back run old new → Ends places new one two back at
turn-before places old new start one two back run at signs at_is positive more x_in opening none not_zero c =
    let d = length places in
    let x = turn_of places old at in
    let before : start - 1 ≡ at = omega arith in
    let moved : turn_of places new at ≡ add d x back = ap (turn_of places new) (sym before) ∙ c.turn (omega arith)
    ∙ ap (λ k. add d (turn_of places old k) back) before in
    let sum = signs.sum in
    let o = signs.one_in in
    let b = signs.back_in in
    let two_is = signs.two_is in
    let not_one : x ≢ one = λ e. grind arith in
    record {
      no_spur = λ e. not_one (omega (arith, add-cases d x back));
      no_one = λ e s opened. (
          let two_before : x ≡ two = omega (arith, add-cases d x back, add-cases d one one) in
          let earlier = opened.earlier in
          let same : Opens places old one two s at =
          opens-agrees places new old at one two s at (λ k h. c.same k (omega arith)) (omega arith) opened in
          none s (record {
            turn = same.turn;
            earlier = omega arith;
            opening = same.opening;
            run = λ k from to. elim (cases_eq k at) [
              | inl is ↦ ap (turn_of places old) is ∙ two_before
              | inr other ↦ same.run k from (omega arith)
            ];
          })
          );
      no_back = λ e. not_zero (omega (arith, add-cases d x back));
    }

-- the two kinds of brackets
ends-nothing : (places path : List ℕ) (up : Bool) (at : ℕ) → 4 ≤ length places →
    Ends places path (if up then minus (length places) 1 else 1) (if up then minus (length places) 2 else 2)
    (if up then 1 else minus (length places) 1) at → EndsNothing places path at
ends-nothing places path true at four e = record { no_spur = e.no_spur; no_rise = λ f s o. e.no_back f; no_fall = e.no_one }
ends-nothing places path false at four e = record { no_spur = e.no_spur; no_rise = e.no_one; no_fall = λ f s o. e.no_back f }

none-opens : (places path : List ℕ) (up : Bool) (at : ℕ)
    → EndsNothing places path at → turn_of places path at ≡ (if up then minus (length places) 1 else 1) → (s : ℕ) →
    ¬ Opens places path (if up then minus (length places) 1 else 1) (if up then minus (length places) 2 else 2) s at
none-opens places path true at e f s o = e.no_fall f s o
none-opens places path false at e f s o = e.no_rise f s o

-- a turn 2 or -2 ends nothing
run-ends : (places path : List ℕ) (up : Bool) (at : ℕ) → 4 ≤ length places
    → turn_of places path at ≡ (if up then 2 else minus (length places) 2) → EndsNothing places path at
run-ends places path true at four e = grind (arith, minus-cases)
run-ends places path false at four e = grind (arith, minus-cases)

-- a path is short once its last bracket is closed
pub short-closed : (places old new : List ℕ) (up : Bool) (start : ℕ) → 4 ≤ length places →
    ((at : ℕ) → 1 ≤ at → at < length old → turn_of places old at < length places) →
    ((at : ℕ) → 1 ≤ at → at + 1 < length old → EndsNothing places old at) →
    Opens places old (if up then minus (length places) 1 else 1) (if up then minus (length places) 2 else 2) start (length old - 1) →
    IsBracketClosed places start (if up then 1 else minus (length places) 1) (if up then 2 else minus (length places) 2) old new
    → IsShort places new
short-closed places old new up start four turns short opens c at positive at_in =
    let d = length places in
    let shorter = c.shorter in
    let earlier = opens.earlier in
    elim (cases_lt (at + 1) start) [
      | inl low ↦ ends-agrees places old new (at + 1) at (λ k h. sym (c.same k (omega arith))) (omega arith)
          (short at positive (omega arith))
      | inr high ↦ elim (cases_eq (at + 1) start) [
        | inl here ↦
            ends-nothing places new up at four
            (turn-before places old new start _ _ _ _ at (signs-of d up four) here positive (omega arith) (turns at positive (omega arith))
            opens.opening
            (none-opens places old up start (short start opens.turn (omega arith)) opens.opening) (short at positive (omega arith)).no_spur
            c)
        | inr other ↦ run-ends places new up at four (c.behind at (omega arith) at_in)
      ]
    ]

-- a path with a last turn that ends nothing
pub short-more : (places path : List ℕ) (last : ℕ) → last + 1 ≡ length path
    → ((at : ℕ) → 1 ≤ at → at + 1 < length path → EndsNothing places path at) →
    EndsNothing places path last → IsShort places path
short-more places path last is short e at positive at_in = grind arith

-- a rest of a path, from a place on
record Rest (path : List ℕ) (n q : ℕ) (rest : List ℕ) : Type 0 where
  spoke : get_or path n 0 ≡ q
  more : (k : ℕ) → get_or rest k 0 ≡ get_or path (n + 1 + k) 0
  long : n + 1 + length rest ≡ length path

rest-next : (path : List ℕ) (n q i : ℕ) (rest : List ℕ) → Rest path n q (i ∷ rest) → Rest path (suc n) i rest
rest-next path n q i rest r =
    let long = r.long in
    record {
      spoke = sym (r.more 0 ∙ ap (λ k. get_or path k 0) (let e : n + 1 + 0 ≡ suc n = omega arith in e));
      more = λ k. r.more (suc k) ∙ ap (λ m. get_or path m 0) (let e : n + 1 + suc k ≡ suc n + 1 + k = omega arith in e);
      long = omega arith;
    }

head-turn : (places path : List ℕ) (n q i : ℕ) (rest : List ℕ) → Rest path n q (i ∷ rest) →
    add (length places) (place_round places (from_vertex (suc n)) i) (minus (length places) (place_round places (from_vertex (suc n)) q))
    ≡ turn_of places path (suc n)
head-turn places path n q i rest r =
    let next = rest-next path n q i rest r in
    let one_less : suc n - 1 ≡ n = omega arith in grind arith

module _ (places path : List ℕ) where
  -- a bracket that is open does not close
  never-closes : (one two start n q : ℕ) (rest : List ℕ) → ((m s : ℕ) → 1 ≤ m → m < length path → turn_of places path m ≡ one
      → ¬ Opens places path one two s m) →
      Rest path n q rest → 1 ≤ start → start ≤ n → turn_of places path start ≡ one
      → ((k : ℕ) → start < k → k < suc n → turn_of places path k ≡ two) →
      closes one two (turns_after places (from_vertex (suc n)) q rest) ≡ false
  never-closes one two start n q [] none r positive le opening run = refl
  never-closes one two start n q (i ∷ rest) none r positive le opening run =
      let long = r.long in
      let next = rest-next path n q i rest r in
      let turn = head-turn places path n q i rest r in
      let not_one : turn_of places path (suc n) ≢ one = λ e. grind arith in
      let side : not (from_vertex (suc n)) ≡ from_vertex (suc (suc n)) = sym (from-next (suc n)) in
      elim (cases_eq (turn_of places path (suc n)) two) [
        | inl e ↦
            let rest_none =
            never-closes one two start (suc n) i rest none next positive (omega arith) opening (λ k from to. elim (cases_eq k (suc n)) [
              | inl same ↦ ap (turn_of places path) same ∙ e
              | inr other ↦ run k from (omega arith)
            ]) in
            rw (turn, side, ne_eqb (turn_of places path (suc n)) one not_one, eq-eqb (turn_of places path (suc n)) two e) rest_none
        | inr not_two ↦ rw (turn, ne_eqb (turn_of places path (suc n)) one not_one, ne_eqb (turn_of places path (suc n)) two not_two) refl
      ]

  no-bracket : (n q : ℕ) (rest : List ℕ) → IsShort places path → Rest path n q rest
      → HasNoBracket (length places) (turns_after places (from_vertex (suc n)) q rest)
  no-bracket n q [] short r = tt
  no-bracket n q (i ∷ rest) short r =
      let next = rest-next path n q i rest r in
      let turn = head-turn places path n q i rest r in
      let side : not (from_vertex (suc n)) ≡ from_vertex (suc (suc n)) = sym (from-next (suc n)) in
      let e = short (suc n) (omega arith) (omega arith) in
      rw (side, turn) (
        e.no_spur,
        (λ one. never-closes 1 2 (suc n) (suc n) i rest (λ m s from to f. (short m from to).no_rise f s) next (omega arith) (omega arith)
            one (λ k from to. absurd (omega arith))),
        (λ one. never-closes (minus (length places) 1) (minus (length places) 2) (suc n) (suc n) i rest
            (λ m s from to f. (short m from to).no_fall f s) next (omega arith) (omega arith) one
            (λ k from to. absurd (omega arith))),
        no-bracket (suc n) i rest short next,
      )

pub reduced-from : (places path : List ℕ) → IsShort places path → IsReducedWord (length places) (turn_word_of places path)
reduced-from places [] short = tt
reduced-from places (q ∷ rest) short =
    no-bracket places (q ∷ rest) 0 q rest short (record {
      spoke = refl;
      more = λ k. ap (λ m. get_or (q ∷ rest) m 0) (let e : suc k ≡ 0 + 1 + k = omega arith in e);
      long = omega arith;
    })

pub turns-below : (places path : List ℕ) → IsWheel places → All (λ spoke. spoke < length places) path → (at : ℕ) → 1 ≤ at → at < length path
    → turn_of places path at < length places
turns-below places path wheel below at positive at_in = grind (arith, add-lt, minus-lt)

no-turn : (d p q : ℕ) → p < d → q < d → add d p (minus d q) ≡ 0 → p ≡ q
no-turn d p q hp hq e = omega (arith, minus-cases d q hq, add-cases d p (minus d q))

-- a turn 0 stands between equal spokes
pub equal-by-turn : (places path : List ℕ) → IsWheel places → All (λ spoke. spoke < length places) path → (at : ℕ)
    → 1 ≤ at → at < length path → turn_of places path at ≡ 0 →
    get_or path (at - 1) 0 ≡ get_or path at 0
equal-by-turn places path wheel below at positive at_in e = grind (arith, no-turn)

pub spur-short : (places old : List ℕ) (last : ℕ) → last + 1 ≡ length old → 1 ≤ last
    → ((at : ℕ) → 1 ≤ at → at + 1 < length old → EndsNothing places old at) →
    IsShort places (remove (remove old last) (last - 1))
spur-short places old last is positive short at at_one at_in =
    let once = length-remove old last (omega arith) in
    let twice = length-remove (remove old last) (last - 1) (omega arith) in
    ends-agrees places old (remove (remove old last) (last - 1)) (at + 1) at
    (λ k h. sym (get_or-remove_below (remove old last) (last - 1) 0 k (omega arith) (omega arith)
    ∙ get_or-remove_below old last 0 k (omega arith) (omega arith)))
    (omega arith) (short at at_one (omega arith))

pub minus-is : (d degree k : ℕ) → degree ≡ d → 0 < k → k < d → degree - k ≡ minus d k
minus-is d degree k e positive h = omega (arith, minus-cases d k h)

pub short-pushed : (places front now : List ℕ) (x : ℕ) → now ≡ front ++ x ∷ [] → IsShort places front → (at : ℕ)
    → 1 ≤ at → at + 1 < length now → EndsNothing places now at
short-pushed places front now x is short at positive at_in =
    let long : length now ≡ length front + 1 = ap length is ∙ length_push front x in
    ends-agrees places front now (at + 1) at (λ k h. sym (ap (λ z. get_or z k 0) is ∙ get_or_append_left front (x ∷ []) 0 k (omega arith)))
    (omega arith) (short at positive (omega arith))

pub all-read : (front spokes : List ℕ) (n : ℕ) → length spokes ≤ n → front ++ drop n spokes ≡ front
all-read front spokes n h = ap (λ z. front ++ z) (drop_all n spokes h) ∙ append-nil front

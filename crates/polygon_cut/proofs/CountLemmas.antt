-- Counting the numbers below a bound that pass a test: along a permutation, and over the darts of edges.
use Rattle.polygon_cut.proofs.Common.{Rotations, IsRotationSystem, ◌≡◌, ◌≢◌, inl, inr, ℕ, zero, suc, ◌+◌, ◌*◌, ◌<◌, ◌≤◌, Bool, true, false, ◌&&◌, ◌||◌, cond, eqb, ltb, refl, ap, sym, ◌∙◌, subst, arith, cases_Bool, cases_eq, cases_lt, eqb-true, eq-eqb, ltb-true, lt-ltb, and_right, and_left, count_below, count_same, count_less, found_below, passes_below, with_one, with_itself, with_other, count_with, any_below}

pub count_rises : (p : ℕ → Bool) (i j : ℕ) → i ≤ j → count_below p i ≤ count_below p j
count_rises p i zero l = (let none : i ≡ 0 = omega arith in subst (λ k. count_below p i ≤ count_below p k) none (omega arith))
count_rises p i (suc j) l = elim (cases_eq i (suc j)) [
  | inl same ↦ subst (λ k. count_below p i ≤ count_below p k) same (omega arith)
  | inr less ↦ (let before : count_below p i ≤ count_below p j = count_rises p i j (omega arith) in omega (arith, before))
]

pub count_at_most : (p : ℕ → Bool) (n : ℕ) → count_below p n ≤ n
count_at_most p zero = omega arith
count_at_most p (suc n) = elim (cases_Bool (p n)) [
  | inl passes ↦ rw passes (omega (arith, count_at_most p n))
  | inr fails ↦ rw fails (omega (arith, count_at_most p n))
]

pub count_nothing : (p : ℕ → Bool) (n : ℕ) → ((x : ℕ) → x < n → p x ≡ false) → count_below p n ≡ 0
count_nothing p zero h = refl
count_nothing p (suc n) h =
    let fails : p n ≡ false = h n (omega arith) in
    rw (fails, count_nothing p n (λ x l. h x (omega arith))) refl

-- a number that passes is counted
pub count_passes : (p : ℕ → Bool) (i j : ℕ) → i < j → p i ≡ true → count_below p i < count_below p j
count_passes p i j l is =
    let one : count_below p (suc i) ≡ count_below p i + 1 = rw is refl in
    omega (arith, one, count_rises p (suc i) j (omega arith))

-- the number that passes as the one with this number
pub record IsCounted (p : ℕ → Bool) (n i : ℕ) : Type 0 where
  pub at : ℕ
  pub within : at < n
  pub passes : p at ≡ true
  pub before : count_below p at ≡ i

pub count_selects : (p : ℕ → Bool) (n i : ℕ) → i < count_below p n → IsCounted p n i
count_selects p zero i l = absurd (omega arith)
count_selects p (suc n) i l = elim (cases_lt i (count_below p n)) [
  | inl less ↦
      let h : IsCounted p n i = count_selects p n i less in
      record { at = h.at; within = omega (arith, h.within); passes = h.passes; before = h.before }
  | inr more ↦ elim (cases_Bool (p n)) [
    | inl passes ↦
        let one : count_below p (suc n) ≡ count_below p n + 1 = rw passes refl in
        record { at = n; within = omega arith; passes = passes; before = omega (arith, one, l, more) }
    | inr fails ↦
        let one : count_below p (suc n) ≡ count_below p n + 0 = rw fails refl in
        absurd (omega (arith, one, l, more))
  ]
]

-- what passes among the first values of a map that takes no two numbers to one
abbrev among : (ℕ → ℕ) → ℕ → ℕ → Bool
among at j x = any_below (λ k. eqb (at k) x) j

and_true : (a b : Bool) → b ≡ true → (a && b) ≡ a
and_true true b h = h
and_true false b h = refl

or_false : (a b : Bool) → b ≡ false → (a || b) ≡ a
or_false true b h = refl
or_false false b h = h

-- a value that is new is counted where it passes
one_more_among : (p : ℕ → Bool) (at : ℕ → ℕ) (n j : ℕ) → at j < n → ((k : ℕ) → k < j → at k ≡ at j → ⊥)
    → count_below (λ x. p x && among at (suc j) x) n ≡ count_below (λ x. p x && among at j x) n + cond (p (at j)) 1 0
one_more_among p at n j within apart = elim (cases_Bool (p (at j))) [
  | inl passes ↦
      let more : count_below (λ x. p x && among at (suc j) x) n ≡ suc (count_below (λ x. p x && among at j x) n) =
      count_less (λ x. p x && among at (suc j) x) (λ x. p x && among at j x) n (at j) within
      (and_true (p (at j)) (among at (suc j) (at j)) here ∙ passes) (and_right (p (at j)) (among at j (at j)) fresh)
      (λ x x_in ne. elsewhere x ne) in
      rw passes (omega (arith, more))
  | inr fails ↦
      let same : count_below (λ x. p x && among at (suc j) x) n ≡ count_below (λ x. p x && among at j x) n =
      count_same (λ x. p x && among at (suc j) x) (λ x. p x && among at j x) n (λ x x_in. elim (cases_eq x (at j)) [
        | inl same ↦
            let out : p x ≡ false = ap p same ∙ fails in
            and_left (p x) (among at (suc j) x) out ∙ sym (and_left (p x) (among at j x) out)
        | inr ne ↦ elsewhere x ne
      ]) in
      rw fails (omega (arith, same))
]
  where
    here : among at (suc j) (at j) ≡ true
    here = passes_below (λ k. eqb (at k) (at j)) (suc j) j (omega arith) (eq-eqb (at j) (at j) refl)

    fresh : among at j (at j) ≡ false
    fresh = elim (cases_Bool (among at j (at j))) [
      | inl some ↦
          let found = found_below (λ k. eqb (at k) (at j)) j some in
          absurd (apart found.0 found.1 (eqb-true (at found.0) (at j) found.2))
      | inr none ↦ none
    ]

    elsewhere : (x : ℕ) → x ≢ at j → (p x && among at (suc j) x) ≡ (p x && among at j x)
    elsewhere x ne =
        let other : eqb (at j) x ≡ false = elim (cases_Bool (eqb (at j) x)) [
          | inl same ↦ absurd (ne (sym (eqb-true (at j) x same)))
          | inr none ↦ none
        ] in
        ap (λ (b : Bool). p x && b) (or_false (among at j x) (eqb (at j) x) other)

counted_among : (p : ℕ → Bool) (at : ℕ → ℕ) (n : ℕ) → ((k : ℕ) → k < n → at k < n)
    → ((k m : ℕ) → k < m → m < n → at k ≡ at m → ⊥) → (j : ℕ) → j ≤ n
    → count_below (λ x. p x && among at j x) n ≡ count_below (λ k. p (at k)) j
counted_among p at n within apart zero l = none n
  where
    none : (m : ℕ) → count_below (λ x. p x && false) m ≡ 0
    none zero = refl
    none (suc m) =
        let out : (p m && false) ≡ false = and_right (p m) false refl in
        rw (out, none m) refl
counted_among p at n within apart (suc j) l =
    one_more_among p at n j (within j (omega arith)) (λ k b. apart k j b (omega arith))
    ∙ ap (λ (m : ℕ). m + cond (p (at j)) 1 0) (counted_among p at n within apart j (omega arith))

-- along a permutation as many pass
pub count_along : (p : ℕ → Bool) (at : ℕ → ℕ) (n : ℕ) → ((k : ℕ) → k < n → at k < n)
    → ((k m : ℕ) → k < m → m < n → at k ≡ at m → ⊥) → ((x : ℕ) → x < n → (k : ℕ) × (k < n) × (at k ≡ x))
    → count_below (λ k. p (at k)) n ≡ count_below p n
count_along p at n within apart reaches =
    sym (counted_among p at n within apart n (omega arith))
    ∙ count_same (λ x. p x && among at n x) p n (λ x l.
    let from = reaches x l in
    and_true (p x) (among at n x) (passes_below (λ k. eqb (at k) x) n from.0 from.1 (eq-eqb (at from.0) x from.2)))

-- the darts of the edges below m that are in a set
abbrev darts_below : Rotations → (ℕ → Bool) → ℕ → ℕ → Bool
darts_below maps set m d = set (maps.edge d) && ltb (maps.edge d) m

less_more : (e m : ℕ) → e ≢ m → ltb e (suc m) ≡ ltb e m
less_more e m ne = grind arith

not_less : (e : ℕ) → ltb e e ≡ false
not_less e = elim (cases_Bool (ltb e e)) [ inl less ↦ absurd (let lower : e < e = ltb-true e e less in omega arith) | inr other ↦ other ]

two_more : {maps : Rotations} (set : ℕ → Bool) (m d : ℕ) → IsRotationSystem maps → d < maps.darts → maps.edge d ≡ m → set m ≡ true
    → count_below (darts_below maps set (suc m)) maps.darts ≡ suc (suc (count_below (darts_below maps set m) maps.darts))
two_more {maps} set m d r l on is =
    count_less (darts_below maps set (suc m)) (with_one (darts_below maps set m) d) maps.darts t t_in (now t t_on)
    (with_other (darts_below maps set m) d t (r.twin_other d l) ∙ not_yet t t_on) elsewhere
    ∙ ap suc (count_with (darts_below maps set m) maps.darts d l (not_yet d on))
  where
    t : ℕ
    t = maps.twin d

    t_in : t < maps.darts
    t_in = r.twin_within d l

    t_on : maps.edge t ≡ m
    t_on = (r.edges t d t_in l).1 (inr (sym (r.twin_back d l))) ∙ on

    now : (x : ℕ) → maps.edge x ≡ m → darts_below maps set (suc m) x ≡ true
    now x here =
        and_true (set (maps.edge x)) (ltb (maps.edge x) (suc m)) (lt-ltb (maps.edge x) (suc m) (omega (arith, here))) ∙ ap set here ∙ is

    not_yet : (x : ℕ) → maps.edge x ≡ m → darts_below maps set m x ≡ false
    not_yet x here = and_right (set (maps.edge x)) (ltb (maps.edge x) m) (ap (λ (e : ℕ). ltb e m) here ∙ not_less m)

    elsewhere : (x : ℕ) → x < maps.darts → x ≢ t → darts_below maps set (suc m) x ≡ with_one (darts_below maps set m) d x
    elsewhere x k ne = elim (cases_eq x d) [
      | inl same ↦
          let own : with_one (darts_below maps set m) d x ≡ true =
          ap (with_one (darts_below maps set m) d) same ∙ with_itself (darts_below maps set m) d in
          now x (ap maps.edge same ∙ on) ∙ sym own
      | inr other ↦
          let off : maps.edge x ≢ m = λ here. elim ((r.edges d x l k).0 (on ∙ sym here)) [ inl same ↦ other same | inr too ↦ ne too ] in
          ap (λ (b : Bool). set (maps.edge x) && b) (less_more (maps.edge x) m off)
          ∙ sym (with_other (darts_below maps set m) d x other)
    ]

-- each edge of a set has two darts
pub count_darts : {maps : Rotations} (edges : ℕ) (set : ℕ → Bool) → IsRotationSystem maps → ((d : ℕ) → d < maps.darts → maps.edge d < edges)
    → ((e : ℕ) → e < edges → (d : ℕ) × (d < maps.darts) × (maps.edge d ≡ e))
    → count_below (λ d. set (maps.edge d)) maps.darts ≡ 2 * count_below set edges
count_darts {maps} edges set r edge_in dart_of =
    count_same (λ d. set (maps.edge d)) (darts_below maps set edges) maps.darts
    (λ d l. sym (and_true (set (maps.edge d)) (ltb (maps.edge d) edges) (lt-ltb (maps.edge d) edges (edge_in d l))))
    ∙ go edges (omega arith)
  where
    none : (n : ℕ) → count_below (darts_below maps set 0) n ≡ 0
    none zero = refl
    none (suc n) =
        let out : ltb (maps.edge n) 0 ≡ false = elim (cases_Bool (ltb (maps.edge n) 0)) [
          | inl less ↦ absurd (let lower : maps.edge n < 0 = ltb-true (maps.edge n) 0 less in omega arith)
          | inr other ↦ other
        ] in
        let outside : (set (maps.edge n) && ltb (maps.edge n) 0) ≡ false = and_right (set (maps.edge n)) (ltb (maps.edge n) 0) out in
        rw (outside, none n) refl

    go : (m : ℕ) → m ≤ edges → count_below (darts_below maps set m) maps.darts ≡ 2 * count_below set m
    go zero l = none maps.darts
    go (suc m) l = elim (cases_Bool (set m)) [
      | inl passes ↦
          let more : count_below (darts_below maps set (suc m)) maps.darts ≡ suc (suc (count_below (darts_below maps set m) maps.darts)) =
          two_more set m (dart_of m (omega arith)).0 r (dart_of m (omega arith)).1 (dart_of m (omega arith)).2 passes in
          let one : count_below set (suc m) ≡ count_below set m + 1 = rw passes refl in
          omega (arith, more, one, go m (omega arith))
      | inr fails ↦
          let same : count_below (darts_below maps set (suc m)) maps.darts ≡ count_below (darts_below maps set m) maps.darts =
          count_same (darts_below maps set (suc m)) (darts_below maps set m) maps.darts (λ d k. elim (cases_eq (maps.edge d) m) [
            | inl here ↦
                let out : set (maps.edge d) ≡ false = ap set here ∙ fails in
                and_left (set (maps.edge d)) (ltb (maps.edge d) (suc m)) out ∙ sym (and_left (set (maps.edge d)) (ltb (maps.edge d) m) out)
            | inr other ↦ ap (λ (b : Bool). set (maps.edge d) && b) (less_more (maps.edge d) m other)
          ]) in
          let one : count_below set (suc m) ≡ count_below set m + 0 = rw fails refl in
          omega (arith, same, one, go m (omega arith))
    ]

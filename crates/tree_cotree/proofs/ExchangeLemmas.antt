-- A permutation of the numbers below n with two of its values exchanged: two rings become one, or one becomes two.
use Rattle.tree_cotree.proofs.Common.{IsPermutationBelow, steps_within, step_first, steps_add, reached_refl, reached_step, reached_trans, reached_back, Returns, returns_to, after_steps, IsReached, ◌≡◌, ◌≢◌, ◌⊎◌, inl, inr, ℕ, zero, suc, ◌+◌, ◌-◌, ◌<◌, ◌≤◌, Bool, true, false, eqb, cond, refl, ap, sym, ◌∙◌, subst, arith, cases_Bool, cases_lt, cases_eq, both_ways, eqb-true, eq-eqb, meets, ring_count, exchanged}
use Rattle.tree_cotree.proofs.ClassLemmas.{found_below, passes_below, IsEquivalenceBelow, MergesClasses, one_class_less}

-- reaching takes fewer than n steps
pub reached_soon : (n : ℕ) (f : ℕ → ℕ) → IsPermutationBelow n f → (x : ℕ) → x < n → (fuel k y : ℕ) → k < fuel → after_steps f k x ≡ y
    → (j : ℕ) × (j < n) × (after_steps f j x ≡ y)
reached_soon n f p x l zero k y few e = absurd (omega arith)
reached_soon n f p x l (suc fuel) k y few e = elim (cases_lt k n) [
  | inl less ↦ (k, less, e)
  | inr more ↦
      let round : Returns n f x = returns_to n f p x l in
      let period : ℕ = round.less + 1 in
      let back : after_steps f period x ≡ x = grind (arith, step_first) in
      let sum : k - period + period ≡ k = omega (arith, round.few, more) in
      let shorter : after_steps f (k - period) x ≡ y = grind (arith, steps_add) in
      reached_soon n f p x l fuel (k - period) y (omega (arith, round.few)) shorter
]

pub meets_from : {n : ℕ} {f : ℕ → ℕ} → IsPermutationBelow n f → {x y : ℕ} → x < n → IsReached f x y → meets f n x y ≡ true
meets_from {n} {f} p {x} {y} l r =
    let soon = reached_soon n f p x l (suc r.steps) r.steps y (omega arith) r.leads in
    passes_below (λ k. eqb (after_steps f k x) y) n soon.0 soon.1 (eq-eqb (after_steps f soon.0 x) y soon.2)

pub reached_from : (n : ℕ) (f : ℕ → ℕ) (x y : ℕ) → meets f n x y ≡ true → IsReached f x y
reached_from n f x y h = grind (arith, found_below)

pub rings_are_classes : {n : ℕ} {f : ℕ → ℕ} → IsPermutationBelow n f → IsEquivalenceBelow n (meets f n)
rings_are_classes {n} {f} p = record {
  itself = λ x l. meets_from p l (reached_refl f x);
  back = λ x y l k h. meets_from p k (reached_back n f p x y l (reached_from n f x y h));
  on = λ x y z l k m h j. meets_from p l (reached_trans f x y z (reached_from n f x y h) (reached_from n f y z j));
}

-- the values of the exchanged map
pub at_first : (f : ℕ → ℕ) (a b : ℕ) → exchanged f a b a ≡ f b
at_first f a b = rw (eq-eqb a a refl) refl

pub at_second : (f : ℕ → ℕ) (a b : ℕ) → a ≢ b → exchanged f a b b ≡ f a
at_second f a b ne = grind arith

pub elsewhere : (f : ℕ → ℕ) (a b x : ℕ) → x ≢ a → x ≢ b → exchanged f a b x ≡ f x
elsewhere f a b x na nb = grind arith

-- where a number goes: to the value of one of the two, or its own
record Exchange (f : ℕ → ℕ) (a b x : ℕ) : Type 0 where
  is : ((x ≡ a) × (exchanged f a b x ≡ f b)) ⊎ (((x ≡ b) × (exchanged f a b x ≡ f a)) ⊎ ((x ≢ a) × (x ≢ b) × (exchanged f a b x ≡ f x)))

exchange_of : (f : ℕ → ℕ) (a b x : ℕ) → a ≢ b → Exchange f a b x
exchange_of f a b x ne = grind (arith, at_first, at_second, elsewhere)

exchanged_within : {n : ℕ} {f : ℕ → ℕ} (a b : ℕ) → IsPermutationBelow n f → a < n → b < n → a ≢ b → (x : ℕ) → x < n → exchanged f a b x < n
exchanged_within {n} {f} a b p a_in b_in ne x l = grind (arith, exchange_of)

-- the map exchanged twice is the map
pub exchanged_twice : (f : ℕ → ℕ) (a b : ℕ) → a ≢ b → (x : ℕ) → exchanged (exchanged f a b) a b x ≡ f x
exchanged_twice f a b ne x = grind (arith, exchange_of, at_second, at_first, elsewhere)

pub exchanged_permutes : {n : ℕ} {f : ℕ → ℕ} (a b : ℕ) → IsPermutationBelow n f → a < n → b < n → a ≢ b
    → IsPermutationBelow n (exchanged f a b)
exchanged_permutes {f} a b p a_in b_in ne = grind (arith, exchanged_within, exchange_of)

-- Joining: the two stand on two rings of f.

-- on the ring of b the exchanged map goes as f does, up to b
up_to_second : (f : ℕ → ℕ) (a b : ℕ) → a ≢ b → (IsReached f a b → ⊥) → (k z : ℕ) → after_steps f k z ≡ b → (IsReached f z a → ⊥)
    → IsReached (exchanged f a b) z b
up_to_second f a b ne apart zero z e off = record { steps = 0; leads = e }
up_to_second f a b ne apart (suc k) z e off = elim (cases_eq z b) [
  | inl here ↦ record { steps = 0; leads = here }
  | inr other ↦
      let not_a : z ≢ a = λ same. off (record { steps = 0; leads = same }) in
      let step : exchanged f a b z ≡ f z = elsewhere f a b z not_a other in
      let rest : IsReached (exchanged f a b) (f z) b =
      up_to_second f a b ne apart k (f z) (step_first f k z ∙ e) (λ r. off (reached_trans f z (f z) a (reached_step f z) r)) in
      reached_trans (exchanged f a b) z (f z) b (record { steps = 1; leads = step }) rest
]

first_to_second : {n : ℕ} {f : ℕ → ℕ} (a b : ℕ) → IsPermutationBelow n f → a < n → b < n → a ≢ b → (IsReached f a b → ⊥)
    → IsReached (exchanged f a b) a b
first_to_second {n} {f} a b p a_in b_in ne apart =
    let round : Returns n f b = returns_to n f p b b_in in
    let off : IsReached f (f b) a → ⊥ = λ r. apart (reached_back n f p b a b_in (reached_trans f b (f b) a (reached_step f b) r)) in
    reached_trans (exchanged f a b) a (f b) b (record { steps = 1; leads = at_first f a b })
    (up_to_second f a b ne apart round.less (f b) round.back off)

-- one step of f is some steps of the exchanged map
step_still : {n : ℕ} {f : ℕ → ℕ} (a b : ℕ) → IsPermutationBelow n f → a < n → b < n → a ≢ b → (IsReached f a b → ⊥) → (x : ℕ)
    → IsReached (exchanged f a b) x (f x)
step_still {n} {f} a b p a_in b_in ne apart x =
    let g : ℕ → ℕ = exchanged f a b in
    let over : IsReached g a b = first_to_second a b p a_in b_in ne apart in
    let home : IsReached g b a = reached_back n g (exchanged_permutes a b p a_in b_in ne) a b a_in over in
    elim (exchange_of f a b x ne).is [
      | inl first ↦
          subst (λ (y : ℕ). IsReached g y (f y)) (sym first.0)
          (reached_trans g a b (f a) over (record { steps = 1; leads = at_second f a b ne }))
      | inr more ↦ elim more [
        | inl second ↦
            subst (λ (y : ℕ). IsReached g y (f y)) (sym second.0)
            (reached_trans g b a (f b) home (record { steps = 1; leads = at_first f a b }))
        | inr other ↦ record { steps = 1; leads = other.2 }
      ]
    ]

still_reached : {n : ℕ} {f : ℕ → ℕ} (a b : ℕ) → IsPermutationBelow n f → a < n → b < n → a ≢ b → (IsReached f a b → ⊥) → (k x : ℕ)
    → IsReached (exchanged f a b) x (after_steps f k x)
still_reached {f} a b p a_in b_in ne apart zero x = reached_refl (exchanged f a b) x
still_reached {f} a b p a_in b_in ne apart (suc k) x =
    reached_trans (exchanged f a b) x (after_steps f k x) (f (after_steps f k x)) (still_reached a b p a_in b_in ne apart k x)
    (step_still a b p a_in b_in ne apart (after_steps f k x))

-- x and y stand on one ring of f, or on those of a and b
abbrev pub IsOnMerged : (ℕ → ℕ) → ℕ → ℕ → ℕ → ℕ → Type 0
IsOnMerged f a b x y = IsReached f x y ⊎ ((IsReached f x a × IsReached f y b) ⊎ (IsReached f x b × IsReached f y a))

further : {f : ℕ → ℕ} {x y : ℕ} → IsReached f x y → IsReached f x (f y)
further {f} {x} {y} r = reached_trans f x y (f y) r (reached_step f y)

-- a step of the exchanged map stays on the rings that became one
stays_merged : {n : ℕ} {f : ℕ → ℕ} (a b : ℕ) → IsPermutationBelow n f → a < n → b < n → a ≢ b → (x y : ℕ) → x < n → y < n
    → IsOnMerged f a b x y
    → IsOnMerged f a b x (exchanged f a b y)
stays_merged {n} {f} a b p a_in b_in ne x y l k h =
    let before : (z : ℕ) → z < n → IsReached f (f z) z = λ z z_in. reached_back n f p z (f z) z_in (reached_step f z) in
    elim (exchange_of f a b y ne).is [
      | inl first ↦ grind (arith, further)
      | inr more ↦ elim more [
        | inl second ↦
            let at_b : IsOnMerged f a b x b → IsOnMerged f a b x (f a) = λ m. elim m [
              | inl to_b ↦ inr (inr (to_b, before a a_in))
              | inr crossed ↦ elim crossed [
                | inl c ↦ inl (further c.0)
                | inr c ↦ inr (inr (c.0, before a a_in))
              ]
            ] in
            subst (IsOnMerged f a b x) (sym second.1) (at_b (subst (IsOnMerged f a b x) second.0 h))
        | inr other ↦
            let plain : IsOnMerged f a b x (f y) = elim h [
              | inl to_y ↦ inl (further to_y)
              | inr crossed ↦ inr (elim crossed [
                | inl c ↦ inl (c.0, reached_trans f (f y) y b (before y k) c.1)
                | inr c ↦ inr (c.0, reached_trans f (f y) y a (before y k) c.1)
              ])
            ] in
            subst (IsOnMerged f a b x) (sym other.2) plain
      ]
    ]

merged_from : {n : ℕ} {f : ℕ → ℕ} (a b : ℕ) → IsPermutationBelow n f → a < n → b < n → a ≢ b → (x : ℕ) → x < n → (k : ℕ)
    → IsOnMerged f a b x (after_steps (exchanged f a b) k x)
merged_from {f} a b p a_in b_in ne x l zero = inl (reached_refl f x)
merged_from {n} {f} a b p a_in b_in ne x l (suc k) =
    stays_merged a b p a_in b_in ne x (after_steps (exchanged f a b) k x) l
    (steps_within n (exchanged f a b) (exchanged_permutes a b p a_in b_in ne) k x l) (merged_from a b p a_in b_in ne x l k)

-- two rings become one
pub joins_rings : {n : ℕ} {f : ℕ → ℕ} (a b : ℕ) → IsPermutationBelow n f → a < n → b < n → a ≢ b → (IsReached f a b → ⊥) → (x y : ℕ)
    → x < n → y < n
    → (IsReached (exchanged f a b) x y → IsOnMerged f a b x y) × (IsOnMerged f a b x y → IsReached (exchanged f a b) x y)
joins_rings {n} {f} a b p a_in b_in ne apart x y l k = (only, all)
  where
    g : ℕ → ℕ
    g = exchanged f a b

    gp : IsPermutationBelow n g
    gp = exchanged_permutes a b p a_in b_in ne

    over : IsReached g a b
    over = first_to_second a b p a_in b_in ne apart

    still : (u v : ℕ) → IsReached f u v → IsReached g u v
    still u v r = subst (IsReached g u) r.leads (still_reached a b p a_in b_in ne apart r.steps u)

    only : IsReached g x y → IsOnMerged f a b x y
    only r = subst (IsOnMerged f a b x) r.leads (merged_from a b p a_in b_in ne x l r.steps)

    all : IsOnMerged f a b x y → IsReached g x y
    all m = elim m [
      | inl r ↦ still x y r
      | inr crossed ↦ elim crossed [
        | inl c ↦ reached_trans g x a y (still x a c.0) (reached_trans g a b y over (reached_back n g gp y b k (still y b c.1)))
        | inr c ↦ reached_trans g x b y (still x b c.0) (reached_trans g b a y (reached_back n g gp a b a_in over)
            (reached_back n g gp y a k (still y a c.1)))
      ]
    ]

-- Splitting: the two stand on one ring of f.

record LeastPlace (p : ℕ → Bool) : Type 0 where
  place : ℕ
  here : p place ≡ true
  before : (i : ℕ) → i < place → p i ≡ false

least_place : (p : ℕ → Bool) (n : ℕ) → p n ≡ true → LeastPlace p
least_place p n h = go n (omega arith) h
  where
    none_under : (k : ℕ) → ((i : ℕ) → i < k → p i ≡ false) ⊎ ((i : ℕ) × (i < k) × (p i ≡ true) × ((j : ℕ) → j < i → p j ≡ false))
    none_under zero = inl (λ i l. absurd (omega arith))
    none_under (suc k) = elim (none_under k) [
      | inr found ↦ inr (found.0, omega (arith, found.1), found.2, found.3)
      | inl none ↦ elim (cases_Bool (p k)) [
        | inl hit ↦ inr (k, omega arith, hit, none)
        | inr miss ↦ grind arith
      ]
    ]

    go : (m : ℕ) → n ≤ m → p n ≡ true → LeastPlace p
    go m l hit = elim (none_under (suc n)) [
      | inl none ↦ absurd (both_ways (p n) (none n (omega arith)) hit)
      | inr found ↦ record { place = found.0; here = found.2; before = found.3 }
    ]

-- under the exchanged map the first of the two goes round without the other
pub splits_ring : {n : ℕ} {f : ℕ → ℕ} {a b : ℕ} → IsPermutationBelow n f → a < n → b < n → a ≢ b → IsReached f a b
    → IsReached (exchanged f a b) a b → ⊥
splits_ring {n} {f} {a} {b} p a_in b_in ne joined over =
    elim (inside over.steps) [
      | inl at_a ↦ ne (sym (sym over.leads ∙ at_a))
      | inr more ↦ never_second more.0 more.1 (more.2 ∙ over.leads)
    ]
  where
    g : ℕ → ℕ
    g = exchanged f a b

    to_first : IsReached f b a
    to_first = reached_back n f p a b a_in joined

    some_steps : to_first.steps ≢ 0
    some_steps none = ne (sym (sym (ap (λ (k : ℕ). after_steps f k b) none) ∙ to_first.leads))

    last : ℕ
    last = to_first.steps - 1

    arrives : after_steps f last (f b) ≡ a
    arrives =
        let count : suc last ≡ to_first.steps = omega (arith, some_steps) in
        step_first f last b ∙ ap (λ (k : ℕ). after_steps f k b) count ∙ to_first.leads

    least : LeastPlace (λ k. eqb (after_steps f k (f b)) a)
    least = least_place (λ k. eqb (after_steps f k (f b)) a) last (eq-eqb (after_steps f last (f b)) a arrives)

    k : ℕ
    k = least.place

    meets_a : after_steps f k (f b) ≡ a
    meets_a = eqb-true (after_steps f k (f b)) a least.here

    not_sooner : (i : ℕ) → i < k → after_steps f i (f b) ≢ a
    not_sooner i l e = both_ways (eqb (after_steps f i (f b)) a) (least.before i l) (eq-eqb (after_steps f i (f b)) a e)

    never_second : (i : ℕ) → i < k → after_steps f i (f b) ≢ b
    never_second i l e =
        let sum : k - suc i + suc i ≡ k = omega arith in
        let round : after_steps f (suc i) (f b) ≡ f b = ap f e in
        not_sooner (k - suc i) (omega arith) (ap (after_steps f (k - suc i)) (sym round) ∙ sym (steps_add f (k - suc i) (suc i) (f b))
        ∙ ap (λ (m : ℕ). after_steps f m (f b)) sum ∙ meets_a)

    -- where the exchanged map leads from a
    inside : (j : ℕ) → (after_steps g j a ≡ a) ⊎ ((i : ℕ) × (i < k) × (after_steps f i (f b) ≡ after_steps g j a))
    inside zero = inl refl
    inside (suc j) = elim (inside j) [
      | inl at_a ↦
          let to : g (after_steps g j a) ≡ f b = ap g at_a ∙ at_first f a b in
          elim (cases_lt 0 k) [
            | inl some ↦ inr (0, some, sym to)
            | inr none ↦ (let zero_is : 0 ≡ k = omega arith in inl (to ∙ ap (λ (m : ℕ). after_steps f m (f b)) zero_is ∙ meets_a))
          ]
      | inr at ↦
          let y : ℕ = after_steps g j a in
          let not_a : y ≢ a = λ e. not_sooner at.0 at.1 (at.2 ∙ e) in
          let not_b : y ≢ b = λ e. never_second at.0 at.1 (at.2 ∙ e) in
          let to : g y ≡ f y = elsewhere f a b y not_a not_b in
          let one : after_steps f (suc at.0) (f b) ≡ g y = ap f at.2 ∙ sym to in
          elim (cases_lt (suc at.0) k) [
            | inl less ↦ inr (suc at.0, less, one)
            | inr more ↦ (let end : suc at.0 ≡ k = omega (arith, at.1) in inl (sym one ∙ ap (λ (m : ℕ). after_steps f m (f b)) end
                ∙ meets_a))
          ]
    ]

-- How many rings there are.

classes_merge : {n : ℕ} {f : ℕ → ℕ} (a b : ℕ) → IsPermutationBelow n f → a < n → b < n → a ≢ b → (IsReached f a b → ⊥)
    → MergesClasses n (meets f n) (meets (exchanged f a b) n) a b
classes_merge {n} {f} a b p a_in b_in ne apart = record {
  only = λ x y l k is. elim ((joins_rings a b p a_in b_in ne apart x y l k).0 (reached_from n (exchanged f a b) x y is)) [
    | inl r ↦ inl (meets_from p l r)
    | inr crossed ↦ grind (arith, meets_from)
  ];
  all = λ x y l k m. meets_from (exchanged_permutes a b p a_in b_in ne) l ((joins_rings a b p a_in b_in ne apart x y l k).1 (elim m [
    | inl r ↦ inl (reached_from n f x y r)
    | inr crossed ↦ inr (elim crossed [
      | inl c ↦ inl (reached_from n f x a c.0, reached_from n f y b c.1)
      | inr c ↦ inr (reached_from n f x b c.0, reached_from n f y a c.1)
    ])
  ]));
}

-- where the two stood on two rings there is one ring less
pub one_ring_less : {n : ℕ} {f : ℕ → ℕ} (a b : ℕ) → IsPermutationBelow n f → a < n → b < n → a ≢ b → (IsReached f a b → ⊥)
    → ring_count f n ≡ suc (ring_count (exchanged f a b) n)
one_ring_less {n} {f} a b p a_in b_in ne apart =
    one_class_less (rings_are_classes p) (classes_merge a b p a_in b_in ne apart) a_in b_in not_met
  where
    not_met : meets f n a b ≡ false
    not_met = elim (cases_Bool (meets f n a b)) [
      | inl met ↦ absurd (apart (reached_from n f a b met))
      | inr other ↦ other
    ]

-- where they stood on one ring there is one ring more
pub one_ring_more : {n : ℕ} {f : ℕ → ℕ} {a b : ℕ} → IsPermutationBelow n f → a < n → b < n → a ≢ b → IsReached f a b
    → ring_count (exchanged f a b) n ≡ suc (ring_count f n)
one_ring_more {n} {f} {a} {b} p a_in b_in ne joined =
    let less : ring_count (exchanged f a b) n ≡ suc (ring_count (exchanged (exchanged f a b) a b) n) =
    one_ring_less a b (exchanged_permutes a b p a_in b_in ne) a_in b_in ne (splits_ring p a_in b_in ne joined) in
    let same : exchanged (exchanged f a b) a b ≡ f = λ i x. exchanged_twice f a b ne x i in grind arith

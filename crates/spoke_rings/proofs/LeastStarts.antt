-- Where the search for the least start of a closed list stands, what its end shows, and what least rotations tell.
use Rattle.spoke_rings.proofs.Common.{spoke_along, IsRotation, ComesBefore, IsLeastRotation, ◌≡◌, ℕ, ◌+◌, ◌-◌, ◌*◌, ◌/◌, ◌%◌, ◌<◌, ◌≤◌, ◌⊎◌, ◌↔◌, inl, inr, arith, refl, sym, ◌∙◌, ap, ap₂, subst, max, List, ◌++◌, take, drop, length, get_or, get_or_past, length-drop, take-append-drop, drop-append_seam, take-append_seam, cases_eq, cases_lt, same_number_lists}
use Rattle.spoke_rings.proofs.Along.{along-first, along-round, same-rows, rotated, rotated-at, rotated-length, rotated-along}
use Rattle.spoke_rings.proofs.Least.{from, compared, equal, first, second, Greater, least-start}

-- the list agrees so far from the start and from its rival, and each other start before the rival is greater than some start
pub record Leads (x : List ℕ) (start rival same : ℕ) : Type 0 where
  pub start_even : start % 2 ≡ 0
  pub rival_even : rival % 2 ≡ 0
  pub below : start < length x
  pub before : start < rival
  pub within : same ≤ length x
  pub agree : (t : ℕ) → t < same → spoke_along x (start + t) ≡ spoke_along x (rival + t)
  pub gone : (a : ℕ) → 2 * a < rival → (2 * a ≡ start → ⊥) → (b : ℕ) × Greater (from (spoke_along x) (2 * a)) (from (spoke_along x) (2 * b))

-- starts that agree so far and then differ are both followed by such starts
gone : (f : ℕ → ℕ) (i j k a : ℕ) → i % 2 ≡ 0 → j % 2 ≡ 0 → ((t : ℕ) → t < k → f (i + t) ≡ f (j + t)) → f (j + k) < f (i + k) →
    i ≤ 2 * a → 2 * a < i + (k + 2 - k % 2) → (b : ℕ) × Greater (from f (2 * a)) (from f (2 * b))
gone f i j k a i_even j_even same greater far below =
    let e = 2 * a - i in
    let b = (j + e) / 2 in
    let b_is : 2 * b ≡ j + e = omega arith in
    let x : (t : ℕ) → 2 * a + t ≡ i + (e + t) = λ t. omega arith in
    let y : (t : ℕ) → 2 * b + t ≡ j + (e + t) = λ t. omega arith in
    let last : e + (k - e) ≡ k = omega arith in (
      b,
      record {
        place = k - e;
        same = λ t before. ap f (x t) ∙ same (e + t) (omega arith) ∙ sym (ap f (y t));
        greater = let one = ap f (x (k - e)) in let other = ap f (y (k - e)) in
            let one_last = ap (λ n. f (i + n)) last in let other_last = ap (λ n. f (j + n)) last in omega arith;
      },
    )

pub leads-none : (x : List ℕ) → length x % 2 ≡ 0 → 0 < length x → Leads x 0 2 0
leads-none x even some = record {
  start_even = refl;
  rival_even = refl;
  below = some;
  before = omega arith;
  within = omega arith;
  agree = λ t below. absurd (omega arith);
  gone = λ a below other. absurd (other (omega arith));
}

-- the rival is greater
pub leads-on : (x : List ℕ) (start rival same : ℕ) → Leads x start rival same →
    spoke_along x (start + same) < spoke_along x (rival + same) → Leads x start (rival + (same + 2 - same % 2)) 0
leads-on x start rival same c less = record {
  start_even = c.start_even;
  rival_even = let e = c.rival_even in omega arith;
  below = c.below;
  before = let e = c.before in omega arith;
  within = omega arith;
  agree = λ t below. absurd (omega arith);
  gone = λ a below other. elim (cases_lt (2 * a) rival) [
    | inl before ↦ c.gone a before other
    | inr behind ↦ gone (spoke_along x) rival start same a c.rival_even c.start_even (λ t before. sym (c.agree t before)) less behind below
  ];
}

-- the start is greater, and the rival comes in its place
pub leads-over : (x : List ℕ) (start rival same : ℕ) → Leads x start rival same → rival < length x →
    spoke_along x (rival + same) < spoke_along x (start + same) → Leads x rival (max (start + (same + 2 - same % 2)) (rival + 2)) 0
leads-over x start rival same c inside less =
    let behind = same + 2 - same % 2 in
    let next = max (start + behind) (rival + 2) in
    let start_even = c.start_even in
    let rival_even = c.rival_even in
    let before = c.before in
    record {
      start_even = c.rival_even;
      rival_even = omega arith;
      below = inside;
      before = omega arith;
      within = omega arith;
      agree = λ t below. absurd (omega arith);
      gone = λ a below other. elim (cases_lt (2 * a) start) [
        | inl early ↦ c.gone a (omega arith) (λ e. omega arith)
        | inr late ↦ elim (cases_lt (2 * a) (start + behind)) [
          | inl near ↦ gone (spoke_along x) start rival same a c.start_even c.rival_even c.agree less late near
          | inr far ↦ c.gone a (omega arith) (λ e. omega arith)
        ]
      ];
    }

-- a row with an even period up to the rival is least from the start on
least-there : (f : ℕ → ℕ) (start rival period : ℕ) → 0 < period → period % 2 ≡ 0 → period ≤ rival →
    ((k : ℕ) → f (k + period) ≡ f k) →
    ((a : ℕ) → 2 * a < rival → (2 * a ≡ start → ⊥) → (b : ℕ) × Greater (from f (2 * a)) (from f (2 * b))) →
    (b : ℕ) → ¬ Greater (from f start) (from f (2 * b))
least-there f start rival period some even within round gone b g =
    let half_is : period ≡ 2 * (period / 2) = omega arith in
    let least = least-start f period some round (period / 2) half_is in
    let below = least.start_below in
    elim (cases_eq (2 * least.start) start) [
      | inl same ↦ least.least b (subst (λ s. Greater (from f s) (from f (2 * b))) (sym same) g)
      | inr differ ↦ (let smaller = gone least.start (omega arith) differ in least.least smaller.0 smaller.1)
    ]

-- so it is where the rival is past the list, or the list is the same from the rival on
leads-least : (x : List ℕ) (start rival same : ℕ) → length x % 2 ≡ 0 → Leads x start rival same →
    (length x ≤ rival) ⊎ (length x ≤ same) → (b : ℕ) → ¬ Greater (from (spoke_along x) start) (from (spoke_along x) (2 * b))
leads-least x start rival same even c (inl past) =
    let below = c.below in
    least-there (spoke_along x) start rival (length x) (omega arith) even past (along-round x) c.gone
leads-least x start rival same even c (inr all) =
    let f = spoke_along x in
    let n = length x in
    let below = c.below in
    let before = c.before in
    let rival_even = c.rival_even in
    let start_even = c.start_even in
    let agree = same-rows (from f start) (from f rival) n (omega arith)
    (λ k. (let e : start + (k + n) ≡ start + k + n = omega arith in ap f e ∙ along-round x (start + k)))
    (λ k. (let e : rival + (k + n) ≡ rival + k + n = omega arith in ap f e ∙ along-round x (rival + k)))
    (λ k inside. c.agree k (omega arith)) in
    let there : (k : ℕ) → start + (k + n - start) ≡ k + n = λ k. omega arith in
    let on : (k : ℕ) → rival + (k + n - start) ≡ k + (rival - start) + n = λ k. omega arith in
    least-there f start rival (rival - start) (omega arith) (omega arith) (omega arith)
    (λ k. sym (along-round x (k + (rival - start))) ∙ ap f (sym (on k)) ∙ sym (agree (k + n - start)) ∙ ap f (there k) ∙ along-round x k)
    c.gone

pub leads-rotation : (x : List ℕ) (start rival same : ℕ) → length x % 2 ≡ 0 → Leads x start rival same →
    (length x ≤ rival) ⊎ (length x ≤ same) → IsLeastRotation x (rotated start x)
leads-rotation x start rival same even c ended =
    let f = spoke_along x in
    let below = c.below in
    let within : start ≤ length x = omega arith in
    record {
      is_one = record { count = start; even = c.start_even; within = within; is = refl };
      least = λ other r before.
          let r_even = r.even in
          let half : r.count ≡ 2 * (r.count / 2) = omega arith in
          let less = before.less in
          let long = rotated-length x start within in
          let inside : before.place < length x =
          inside_of (rotated start x) before.place (length x) (get_or other before.place 0) long less in
          let at : (k : ℕ) → k < length x → get_or other k 0 ≡ from f (2 * (r.count / 2)) k =
          λ k l. (let e : k + r.count ≡ 2 * (r.count / 2) + k = omega arith in
          ap (λ (s : List ℕ). get_or s k 0) r.is ∙ rotated-at x r.count k r.within l ∙ ap f e) in
          let own : (k : ℕ) → k < length x → get_or (rotated start x) k 0 ≡ from f start k =
          λ k l. (let e : k + start ≡ start + k = omega arith in rotated-at x start k within l ∙ ap f e) in
          leads-least x start rival same even c ended (r.count / 2) (record {
            place = before.place;
            same = λ k l. (let far : k < length x = omega arith in sym (own k far) ∙ sym (before.same k l) ∙ at k far);
            greater = let one = at before.place inside in let two = own before.place inside in omega arith;
          });
    }
  where
    inside_of : (s : List ℕ) (place n m : ℕ) → length s ≡ n → m < get_or s place 0 → place < n
    inside_of s place n m long less = elim (cases_lt place n) [
      | inl inside ↦ inside
      | inr past ↦ (let none : length s ≤ place = omega arith in absurd (omega (arith, get_or_past s place 0 none)))
    ]

-- ---- rotations of one list

-- a rotation the other way
pub rotation-back : (a b : List ℕ) → length a % 2 ≡ 0 → IsRotation a b → IsRotation b a
rotation-back a b even r =
    let c = r.count in
    let within = r.within in
    let long = rotated-length a c r.within in
    let is = ap length r.is in
    let two = r.even in
    let size = length-drop c a in
    record {
      count = length a - c;
      even = omega arith;
      within = omega arith;
      is = sym (ap (rotated (length a - c)) r.is ∙ ap (λ n. rotated n (drop c a ++ take c a)) (sym size)
          ∙ ap₂ (λ x y. x ++ y) (drop-append_seam (drop c a) (take c a)) (take-append_seam (drop c a) (take c a))
          ∙ take-append-drop c a);
    }

-- a list that agrees with another one from an even start on is a rotation of it
turned-by : (x y : List ℕ) (c : ℕ) → length y ≡ length x → c % 2 ≡ 0 → c ≤ length x →
    (0 < length x → (t : ℕ) → spoke_along y t ≡ spoke_along x (t + c)) → IsRotation x y
turned-by x y c long even within agree =
    let rotated_long = rotated-length x c within in
    record {
      count = c;
      even = even;
      within = within;
      is = same_number_lists y (rotated c x) (omega arith) (λ t before. (
          let less : t < length (rotated c x) = omega arith in
          let some : 0 < length x = omega arith in
          sym (along-first y t before) ∙ agree some t ∙ sym (rotated-along x c within some t) ∙ along-first (rotated c x) t less
          ));
    }

pub rotation-on : (x y z : List ℕ) → length x % 2 ≡ 0 → IsRotation x y → IsRotation y z → IsRotation x z
rotation-on x y z even r s =
    let n = length x in
    let two = r.even in
    let more = s.even in
    let inside = r.within in
    let within = s.within in
    let y_long : length y ≡ n = ap length r.is ∙ rotated-length x r.count r.within in
    let z_long : length z ≡ n = ap length s.is ∙ rotated-length y s.count s.within ∙ y_long in
    let met : 0 < n → (t : ℕ) → spoke_along z t ≡ spoke_along x (t + s.count + r.count) =
    λ some t. ap (λ l. spoke_along l t) s.is ∙ rotated-along y s.count s.within (omega arith) t
    ∙ ap (λ l. spoke_along l (t + s.count)) r.is ∙ rotated-along x r.count r.within some (t + s.count) in
    elim (cases_lt n (s.count + r.count)) [
      | inl round ↦
          let e : (t : ℕ) → t + s.count + r.count ≡ t + (s.count + r.count - n) + n = λ t. omega arith in
          turned-by x z (s.count + r.count - n) z_long (omega arith) (omega arith)
          (λ some t. met some t ∙ ap (spoke_along x) (e t) ∙ along-round x (t + (s.count + r.count - n)))
      | inr short ↦
          let e : (t : ℕ) → t + s.count + r.count ≡ t + (s.count + r.count) = λ t. omega arith in
          turned-by x z (s.count + r.count) z_long (omega arith) (omega arith) (λ some t. met some t ∙ ap (spoke_along x) (e t))
    ]

-- of two lists neither of which comes before the other
neither_before : (p q : List ℕ) → length p ≡ length q → ¬ ComesBefore p q → ¬ ComesBefore q p → p ≡ q
neither_before p q long one other = elim (compared (λ k. get_or p k 0) (λ k. get_or q k 0) (length p)) [
  | equal h ↦ same_number_lists p q long h
  | first g ↦ absurd (other (record { place = g.place; same = λ k before. sym (g.same k before); less = g.greater }))
  | second g ↦ absurd (one (record { place = g.place; same = λ k before. sym (g.same k before); less = g.greater }))
]

-- least rotations tell lists but for where these start
pub least_rotations_tell : (x y p q : List ℕ) → length x % 2 ≡ 0 → length y % 2 ≡ 0 → IsLeastRotation x p → IsLeastRotation y q →
    (p ≡ q) ↔ IsRotation x y
least_rotations_tell x y p q even also one other = (
  (λ same. rotation-on x p y even one.is_one (rotation-back y p also (subst (IsRotation y) (sym same) other.is_one))),
  (λ r.
      let p_long : length p ≡ length x = ap length one.is_one.is ∙ rotated-length x one.is_one.count one.is_one.within in
      let q_long : length q ≡ length y = ap length other.is_one.is ∙ rotated-length y other.is_one.count other.is_one.within in
      let long : length y ≡ length x = ap length r.is ∙ rotated-length x r.count r.within in
      neither_before p q (omega arith) (other.least p (rotation-on y x p also (rotation-back x y even r) one.is_one))
      (one.least q (rotation-on x y q even r other.is_one))),
)

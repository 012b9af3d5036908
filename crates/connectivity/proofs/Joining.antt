-- Being joined by steps, and the classes that are made along them.
use Rattle.connectivity.proofs.Common.{renamed, joined_at, AreLeastMembers, JoinsOnlyBySteps, ◌≡◌, ◌≢◌, ◌⊎◌, inl, inr, ℕ, ◌<◌, List, [], ◌∷◌, ◌++◌, length, min, max, get_or, refl, ap, sym, ◌∙◌, subst, arith, cases_eq, nat_tests, length-map, get_or-map, ext_get_or, length-range_with_len, get_or-range_with_len, range_with_len, IsPath, AreJoined}
use Rattle.connectivity.proofs.Forests.{renamed_old, renamed_other}

path-append : {X : Type 0} (step : X → X → Type 0) (x : X) (path : List X) (y : X) (more : List X) (z : X) → IsPath step x path y
    → IsPath step y more z
    → IsPath step x (path ++ more) z
path-append step x [] y more z h k = subst (λ w. IsPath step w more z) (sym h) k
path-append step x (w ∷ path) y more z h k = (h.0, path-append step w path y more z h.1 k)

pub joined_refl : {X : Type 0} (step : X → X → Type 0) (x y : X) → x ≡ y → AreJoined step x y
joined_refl step x y h = ([], h)

pub joined_step : {X : Type 0} (step : X → X → Type 0) (x y : X) → step x y → AreJoined step x y
joined_step step x y h = (y ∷ [], (h, refl))

pub joined_trans : {X : Type 0} (step : X → X → Type 0) (x y z : X) → AreJoined step x y → AreJoined step y z → AreJoined step x z
joined_trans step x y z h k = (h.0 ++ k.0, path-append step x h.0 y k.0 z h.1 k.1)

joined_back : {X : Type 0} (step : X → X → Type 0) → ((x y : X) → step x y → step y x) → (x : X) (path : List X) (y : X)
    → IsPath step x path y → AreJoined step y x
joined_back step back x [] y h = joined_refl step y x (sym h)
joined_back step back x (z ∷ path) y h = joined_trans step y z x (joined_back step back z path y h.1) (joined_step step z x (back x z h.0))

-- steps that lead back too
pub joined_sym : {X : Type 0} (step : X → X → Type 0) → ((x y : X) → step x y → step y x) → (x y : X) → AreJoined step x y
    → AreJoined step y x
joined_sym step back x y h = joined_back step back x h.0 y h.1

-- what steps keep is the same at both ends
pub joined_keep : {X Y : Type 0} (step : X → X → Type 0) (f : X → Y) → ((x y : X) → step x y → f x ≡ f y)
    → (x : X) (path : List X) (y : X) → IsPath step x path y → f x ≡ f y
joined_keep step f keeps x [] y h = ap f h
joined_keep step f keeps x (z ∷ path) y h = keeps x z h.0 ∙ joined_keep step f keeps z path y h.1

abbrev pub high_at : List ℕ → ℕ → ℕ → ℕ
high_at least x y = max (get_or least x 0) (get_or least y 0)

abbrev pub low_at : List ℕ → ℕ → ℕ → ℕ
low_at least x y = min (get_or least x 0) (get_or least y 0)

pub length-joined_at : (least : List ℕ) (x y : ℕ) → length (joined_at least x y) ≡ length least
length-joined_at least x y = length-map least (renamed (high_at least x y) (low_at least x y))

pub get_or-joined_at : (least : List ℕ) (x y z : ℕ) → z < length least
    → get_or (joined_at least x y) z 0 ≡ renamed (high_at least x y) (low_at least x y) (get_or least z 0)
get_or-joined_at least x y z l = get_or-map (renamed (high_at least x y) (low_at least x y)) least z 0 0 l

renamed_ends : (p q : ℕ) → renamed (max p q) (min p q) p ≡ renamed (max p q) (min p q) q
renamed_ends p q = grind (arith, nat_tests)

renamed_cases : (p q r s : ℕ) → renamed (max p q) (min p q) r ≡ renamed (max p q) (min p q) s
    → (r ≡ s) ⊎ (((r ≡ p) × (s ≡ q)) ⊎ ((r ≡ q) × (s ≡ p)))
renamed_cases p q r s h = grind (arith, nat_tests)

-- the two that are joined have one entry
pub joined_at_ends : (least : List ℕ) (x y : ℕ) → x < length least → y < length least
    → get_or (joined_at least x y) x 0 ≡ get_or (joined_at least x y) y 0
joined_at_ends least x y l k =
    get_or-joined_at least x y x l ∙ renamed_ends (get_or least x 0) (get_or least y 0) ∙ sym (get_or-joined_at least x y y k)

-- equal entries stay equal
pub joined_at_keeps : (least : List ℕ) (x y z w : ℕ) → z < length least → w < length least → get_or least z 0 ≡ get_or least w 0
    → get_or (joined_at least x y) z 0 ≡ get_or (joined_at least x y) w 0
joined_at_keeps least x y z w l k h =
    get_or-joined_at least x y z l ∙ ap (renamed (high_at least x y) (low_at least x y)) h ∙ sym (get_or-joined_at least x y w k)

-- two of one class are joined already
renamed_same : (p q r : ℕ) → p ≡ q → renamed (max p q) (min p q) r ≡ r
renamed_same p q r h = grind (arith, nat_tests)

pub joined_at_same : (least : List ℕ) (x y : ℕ) → get_or least x 0 ≡ get_or least y 0 → joined_at least x y ≡ least
joined_at_same least x y same =
    ext_get_or 0 (joined_at least x y) least (length-joined_at least x y)
    (λ z l.
    get_or-joined_at least x y z (omega (arith, l, length-joined_at least x y))
    ∙ renamed_same (get_or least x 0) (get_or least y 0) (get_or least z 0) same)

pub joined_at_high : (least : List ℕ) (x y z : ℕ) → z < length least → get_or least z 0 ≡ high_at least x y
    → get_or (joined_at least x y) z 0 ≡ low_at least x y
joined_at_high least x y z l is =
    get_or-joined_at least x y z l ∙ renamed_old (high_at least x y) (low_at least x y) (get_or least z 0) is

pub joined_at_other : (least : List ℕ) (x y z : ℕ) → z < length least → get_or least z 0 ≢ high_at least x y
    → get_or (joined_at least x y) z 0 ≡ get_or least z 0
joined_at_other least x y z l ne =
    get_or-joined_at least x y z l ∙ renamed_other (high_at least x y) (low_at least x y) (get_or least z 0) ne

-- what is true of both entries is so of the greater and of the lesser
pub either_way : (holds : ℕ → Type 0) (p q : ℕ) → holds p → holds q → holds (max p q) × holds (min p q)
either_way holds p q at_p at_q = (
  elim greater [ inl is ↦ subst holds (sym is) at_p | inr is ↦ subst holds (sym is) at_q ],
  elim lesser [ inl is ↦ subst holds (sym is) at_p | inr is ↦ subst holds (sym is) at_q ],
)
  where
    greater : (max p q ≡ p) ⊎ (max p q ≡ q)
    greater = grind arith

    lesser : (min p q ≡ p) ⊎ (min p q ≡ q)
    lesser = grind arith

-- entries are below the length, and their own
pub entries_own : (least : List ℕ) (x y : ℕ) → AreLeastMembers least → x < length least → y < length least
    → ((high_at least x y < length least) × (get_or least (high_at least x y) 0 ≡ high_at least x y))
    × ((low_at least x y < length least) × (get_or least (low_at least x y) 0 ≡ low_at least x y))
entries_own least x y h l k =
    either_way (λ r. (r < length least) × (get_or least r 0 ≡ r)) (get_or least x 0) (get_or least y 0)
    (omega (arith, h.lesser x l, l), h.itself x l) (omega (arith, h.lesser y k, k), h.itself y k)

pub least_range : (n : ℕ) → AreLeastMembers (range_with_len 0 n)
least_range n =
    let read : (x : ℕ) → x < length (range_with_len 0 n) → get_or (range_with_len 0 n) x 0 ≡ x =
    λ x l. get_or-range_with_len 0 n x 0 (omega (arith, l, length-range_with_len 0 n)) ∙ omega arith in
    record {
      lesser = λ x l. omega (arith, read x l);
      itself = λ x l. ap (λ y. get_or (range_with_len 0 n) y 0) (read x l);
    }

-- the list stays one of least members
pub least_joined_at : (least : List ℕ) (x y : ℕ) → AreLeastMembers least → x < length least → y < length least
    → AreLeastMembers (joined_at least x y)
least_joined_at least x y h l k = record {
  lesser = λ z m. elim (cases_eq (get_or least z 0) high) [
    | inl is ↦ omega (arith, joined_at_high least x y z (few z m) is, is, h.lesser z (few z m))
    | inr ne ↦ omega (arith, joined_at_other least x y z (few z m) ne, h.lesser z (few z m))
  ];
  itself = λ z m. elim (cases_eq (get_or least z 0) high) [
    | inl is ↦
        let here : get_or new z 0 ≡ low = joined_at_high least x y z (few z m) is in
        ap (λ r. get_or new r 0) here ∙ low_stays ∙ sym here
    | inr ne ↦
        let here : get_or new z 0 ≡ get_or least z 0 = joined_at_other least x y z (few z m) ne in
        let below : get_or least z 0 < length least = omega (arith, h.lesser z (few z m), few z m) in
        ap (λ r. get_or new r 0) here
        ∙ joined_at_other least x y (get_or least z 0) below (λ e. ne (sym (h.itself z (few z m)) ∙ e))
        ∙ h.itself z (few z m) ∙ sym here
  ];
}
  where
    new : List ℕ
    new = joined_at least x y

    high : ℕ
    high = high_at least x y

    low : ℕ
    low = low_at least x y

    few : (z : ℕ) → z < length new → z < length least
    few z m = omega (arith, m, length-joined_at least x y)

    own : ((high < length least) × (get_or least high 0 ≡ high)) × ((low < length least) × (get_or least low 0 ≡ low))
    own = entries_own least x y h l k

    low_stays : get_or new low 0 ≡ low
    low_stays = elim (cases_eq (get_or least low 0) high) [
      | inl is ↦ joined_at_high least x y low own.1.0 is
      | inr ne ↦ joined_at_other least x y low own.1.0 ne ∙ own.1.1
    ]

-- where the two were in two classes, the greater entry is its own no longer, and each other number is its own just where it was
pub high_gone : (least : List ℕ) (x y : ℕ) → AreLeastMembers least → x < length least → y < length least
    → get_or least x 0 ≢ get_or least y 0 → get_or (joined_at least x y) (high_at least x y) 0 ≢ high_at least x y
high_gone least x y h l k apart e =
    let own = entries_own least x y h l k in
    let here : get_or (joined_at least x y) (high_at least x y) 0 ≡ low_at least x y =
    joined_at_high least x y (high_at least x y) own.0.0 own.0.1 in
    apart (low_is_high (get_or least x 0) (get_or least y 0) (sym here ∙ e))
  where
    low_is_high : (p q : ℕ) → min p q ≡ max p q → p ≡ q
    low_is_high p q same = grind arith

pub others_own : (least : List ℕ) (x y v : ℕ) → AreLeastMembers least → x < length least → y < length least → v < length least
    → v ≢ high_at least x y
    → (get_or least v 0 ≡ v → get_or (joined_at least x y) v 0 ≡ v) × (get_or (joined_at least x y) v 0 ≡ v → get_or least v 0 ≡ v)
others_own least x y v h l k m ne =
    let own = entries_own least x y h l k in (
      λ is. joined_at_other least x y v m (λ e. ne (sym is ∙ e)) ∙ is,
      λ is. elim (cases_eq (get_or least v 0) (high_at least x y)) [
        | inl high ↦
            let low : v ≡ low_at least x y = sym is ∙ joined_at_high least x y v m high in
            ap (λ z. get_or least z 0) low ∙ own.1.1 ∙ sym low
        | inr other ↦ sym (joined_at_other least x y v m other) ∙ is
      ],
    )

-- once two things that a step joins both ways are made one class, equal entries still come by steps alone
pub joins_only-joined_at : {X : Type 0} (IsThing : X → Type 0) (number : X → ℕ) (step : X → X → Type 0) (least : List ℕ) (a b : X)
    → JoinsOnlyBySteps IsThing number step least → ((x : X) → IsThing x → number x < length least)
    → IsThing a → IsThing b → step a b → step b a → JoinsOnlyBySteps IsThing number step (joined_at least (number a) (number b))
joins_only-joined_at {X} IsThing number step least a b h within is_a is_b there back x y is_x is_y same =
    let p : ℕ = get_or least (number a) 0 in
    let q : ℕ = get_or least (number b) 0 in
    let renamed_same : renamed (max p q) (min p q) (get_or least (number x) 0) ≡ renamed (max p q) (min p q) (get_or least (number y) 0) =
    sym (get_or-joined_at least (number a) (number b) (number x) (within x is_x)) ∙ same
    ∙ get_or-joined_at least (number a) (number b) (number y) (within y is_y) in
    elim (renamed_cases p q (get_or least (number x) 0) (get_or least (number y) 0) renamed_same) [
      | inl e ↦ h x y is_x is_y e
      | inr other ↦ elim other [
        | inl e ↦
            joined_trans step x a y (h x a is_x is_a e.0)
            (joined_trans step a b y (joined_step step a b there) (h b y is_b is_y (sym e.1)))
        | inr e ↦
            joined_trans step x b y (h x b is_x is_b e.0)
            (joined_trans step b a y (joined_step step b a back) (h a y is_a is_y (sym e.1)))
      ]
    ]

-- at first each thing is alone
pub joins_only-alone : {X : Type 0} (IsThing : X → Type 0) (number : X → ℕ) (step : X → X → Type 0) (n : ℕ)
    → ((x : X) → IsThing x → number x < n) → ((x y : X) → IsThing x → IsThing y → number x ≡ number y → x ≡ y)
    → JoinsOnlyBySteps IsThing number step (range_with_len 0 n)
joins_only-alone IsThing number step n within once x y is_x is_y same =
    let at_x = get_or-range_with_len 0 n (number x) 0 (within x is_x) in
    let at_y = get_or-range_with_len 0 n (number y) 0 (within y is_y) in
    joined_refl step x y (once x y is_x is_y (omega arith))

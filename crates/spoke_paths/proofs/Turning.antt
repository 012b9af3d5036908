-- Two neighbours of a path that are taken the other way round their quad: which step that is, and what becomes of the turns.
use Rattle.spoke_paths.proofs.Common.{is_quad, upper_way, lower_way, two_become, quad_turned, from_spoke, from_vertex, HasQuads, IsTurnedOver, ◌≡◌, ◌≢◌, ℕ, ◌+◌, ◌-◌, ◌<◌, arith, refl, sym, ◌∙◌, ap, zero, suc, Bool, true, false, not, List, [], ◌∷◌, ◌++◌, All, length, get_or, set, Option, Some, eq-eqb, common_steps, length-set, get_or-set_same, get_or-set_other, option_map, if◌then◌else◌, minus, place_round, IsWheel}
use Rattle.spoke_paths.proofs.StepsKeep.{quad-is}
use Rattle.spoke_paths.proofs.Ways.{changes}

pub from-next : (n : ℕ) → from_vertex (suc n) ≡ not (from_vertex n)
from-next n = grind arith

-- the point that a path stands at so many spokes later
abbrev pub turned : ℕ → Bool → Bool
turned zero b = b
turned (suc n) b = turned n (not b)

turned-not : (n : ℕ) (b : Bool) → turned n (not b) ≡ not (turned n b)
turned-not zero b = refl
turned-not (suc n) b = turned-not n (not b)

pub turned-is : (n : ℕ) → turned n true ≡ from_vertex n
turned-is zero = refl
turned-is (suc n) = turned-not n true ∙ ap not (turned-is n) ∙ sym (from-next n)

-- a rule used on two neighbours of a path
pub from-at : (rule : Bool → List ℕ → Option (List ℕ)) (at : ℕ) (b : Bool) (path rest : List ℕ) (v u : ℕ) → suc at < length path →
    ((tail : List ℕ) → rule (turned at b) (get_or path at 0 ∷ get_or path (suc at) 0 ∷ tail) ≡ Some (v ∷ u ∷ tail)) →
    from_spoke at b rule (path ++ rest) ≡ Some (set (set path at v) (suc at) u ++ rest)
from-at rule at b [] rest v u h k = absurd (omega arith)
from-at rule zero b (x ∷ []) rest v u h k = absurd (omega arith)
from-at rule zero b (x ∷ y ∷ path) rest v u h k = k (path ++ rest)
from-at rule (suc at) b (x ∷ path) rest v u h k =
    ap (option_map (λ changed. x ∷ changed)) (from-at rule at (not b) path rest v u (omega arith) k)

becomes : (x y v u : ℕ) (tail : List ℕ) → two_become (x ∷ y ∷ []) (v ∷ u ∷ []) (x ∷ y ∷ tail) ≡ Some (v ∷ u ∷ tail)
becomes x y v u tail = rw (eq-eqb x x refl, eq-eqb y y refl) refl

quad-turn : (places : List ℕ) (a c : ℕ) (up b : Bool) (x y v u : ℕ) (tail : List ℕ) → is_quad places a c ≡ true →
    (if up then lower_way (length places) b a c else upper_way (length places) b a c) ≡ x ∷ y ∷ [] →
    (if up then upper_way (length places) b a c else lower_way (length places) b a c) ≡ v ∷ u ∷ [] →
    quad_turned places a c up b (x ∷ y ∷ tail) ≡ Some (v ∷ u ∷ tail)
quad-turn places a c true b x y v u tail quad old new = grind (arith, becomes)
quad-turn places a c false b x y v u tail quad old new = grind (arith, becomes)

-- the step leads, with more spokes behind too
pub turn-leads : (places : List ℕ) (a c : ℕ) (up : Bool) (at : ℕ) (path rest : List ℕ) (v u : ℕ) → at + 1 < length path
    → is_quad places a c ≡ true →
    (if up then lower_way (length places) (from_vertex at) a c else upper_way (length places) (from_vertex at) a c)
    ≡ get_or path at 0 ∷ get_or path (at + 1) 0 ∷ [] →
    (if up then upper_way (length places) (from_vertex at) a c else lower_way (length places) (from_vertex at) a c) ≡ v ∷ u ∷ [] →
    from_spoke at true (quad_turned places a c up) (path ++ rest) ≡ Some (set (set path at v) (at + 1) u ++ rest)
turn-leads places a c up at path rest v u h quad old new =
    let next : at + 1 ≡ suc at = omega arith in
    let old_next = rw next at old in grind (arith, from-at, turned-is, quad-turn)

-- each spoke stays below the degree
pub below-set : (d : ℕ) (path : List ℕ) (at v : ℕ) → All (λ spoke. spoke < d) path → v < d → All (λ spoke. spoke < d) (set path at v)
below-set d path at v h v_in k e k_in = grind (arith, common_steps)

pub turned-over : (places : List ℕ) → IsWheel places → HasQuads places → (a c : ℕ) (up : Bool) (at : ℕ) (path : List ℕ) (v u : ℕ)
    → at + 1 < length path →
    is_quad places a c ≡ true →
    (if up then lower_way (length places) (from_vertex at) a c else upper_way (length places) (from_vertex at) a c)
    ≡ get_or path at 0 ∷ get_or path (at + 1) 0 ∷ [] →
    (if up then upper_way (length places) (from_vertex at) a c else lower_way (length places) (from_vertex at) a c) ≡ v ∷ u ∷ [] →
    IsTurnedOver places at (if up then minus (length places) 1 else 1) (if up then 1 else minus (length places) 1) path
    (set (set path at v) (at + 1) u)
turned-over places wheel w a c up at path v u h quad old new =
    let changed = changes places wheel w (from_vertex at) up a c (get_or path at 0) (get_or path (at + 1) 0) v u (quad-is places a c quad)
    old new in
    let once = length-set path at v in
    let twice = length-set (set path at v) (at + 1) u in
    let apart : at ≢ at + 1 = λ e. absurd (omega arith) in
    let here : get_or (set (set path at v) (at + 1) u) at 0 ≡ v =
    get_or-set_other (set path at v) (at + 1) at u 0 apart ∙ get_or-set_same path at v 0 (omega arith) in
    let next : get_or (set (set path at v) (at + 1) u) (at + 1) 0 ≡ u = get_or-set_same (set path at v) (at + 1) u 0 (omega arith) in
    let before : at + 1 - 1 ≡ at = omega arith in
    let flipped : from_vertex (at + 1) ≡ not (from_vertex at) = ap from_vertex (let e : at + 1 ≡ suc at = omega arith in e)
    ∙ from-next at in
    record {
      as_long = twice ∙ once;
      same = λ k not_here not_next. get_or-set_other (set path at v) (at + 1) k u 0 not_next ∙ get_or-set_other path at k v 0 not_here;
      first = ap (place_round places (from_vertex at)) here ∙ changed.first;
      between = rw (flipped, before, here, next) changed.between;
      second = ap (place_round places (from_vertex at)) next ∙ changed.second;
    }

pub turned-below : (places : List ℕ) → IsWheel places → HasQuads places → (a c : ℕ) (up : Bool) (at : ℕ) (path : List ℕ) (v u : ℕ) →
    All (λ spoke. spoke < length places) path → is_quad places a c ≡ true →
    (if up then lower_way (length places) (from_vertex at) a c else upper_way (length places) (from_vertex at) a c)
    ≡ get_or path at 0 ∷ get_or path (at + 1) 0 ∷ [] →
    (if up then upper_way (length places) (from_vertex at) a c else lower_way (length places) (from_vertex at) a c) ≡ v ∷ u ∷ [] →
    All (λ spoke. spoke < length places) (set (set path at v) (at + 1) u)
turned-below places wheel w a c up at path v u h quad old new =
    let changed = changes places wheel w (from_vertex at) up a c (get_or path at 0) (get_or path (at + 1) 0) v u (quad-is places a c quad)
    old new in grind (arith, below-set)

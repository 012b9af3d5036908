-- A dart gives to one entry of a tally what it gives to each edge of the table.
use Rattle.homology.proofs.Common.{boundary, total, along, share, number_at, signed_from, GrewBy, AreNumbersWithin, face_share, MOST_NUMBER, ◌≡◌, ◌≢◌, ◌⊎◌, inl, inr, ℕ, zero, suc, ◌+◌, ◌-◌, ◌*◌, ◌^◌, ◌<◌, ◌≤◌, true, List, [], ◌∷◌, ◌++◌, length, get_or, set, take, refl, ap, sym, ◌∙◌, subst, arith, ℤ, pos, ◌+ℤ◌, cases_eq, cases_lt, nat_tests, common_steps, ints, get_or-set_same, get_or-set_other, length-set, get_or_default, get_or_past, range_with_len, neg_ℤ, unsigned_abs, map, Contains, Any, face_side, length-sides_of_face, sides_of_face-more, sides_up_to, sides_up_to-none, sides_up_to-more, sides_up_to-all, length-sides_up_to, side_of_edge, IsEdgeBetween, edge_between, tail_of, head_of, Edge, IsTableOf, IsPairBefore, HasEnds, edge_in, FaceList, FaceSide, HasFileSize, face_at, sides_of_face, is_edge, IsWalk, Side}
use Rattle.surf_model.specs.declared.limits.TheConstants.{MOST_SIDES}
use Rattle.homology.proofs.SizeLemmas.{size-sum, size-opposite, size-share, size-along, size-total}

-- one more dart of a walk
pub along-next : (number : ℕ → ℕ → ℤ) (walk : List ℕ) (k : ℕ) → suc k < length walk
    → along number (take (suc (suc k)) walk) ≡ along number (take (suc k) walk) +ℤ number (get_or walk k 0) (get_or walk (suc k) 0)
along-next number [] k h = absurd (omega arith)
along-next number (u ∷ []) k h = absurd (omega arith)
along-next number (u ∷ v ∷ walk) zero h = omega (arith, ints)
along-next number (u ∷ v ∷ walk) (suc k) h =
    let more = along-next number (v ∷ walk) k (omega arith) in
    omega (arith, ints, more)

-- one more element of a list
pub total-more : {X : Type 0} (number : X → ℤ) (xs ys : List X)
    → total (map number (xs ++ ys)) ≡ total (map number xs) +ℤ total (map number ys)
total-more number [] ys = omega (arith, ints)
total-more number (x ∷ xs) ys =
    let more = total-more number xs ys in
    omega (arith, ints, more)

turned-share : (amount : ℤ) (edge : Edge) (u v : ℕ) → edge.low < edge.high → HasEnds u v edge
    → signed_from amount edge u ≡ share amount edge.low edge.high u v
turned-share amount edge u v up ends = grind (arith, nat_tests)

pub other-share : (amount : ℤ) (edge other : Edge) (u v : ℕ) → edge.low < edge.high → other.low < other.high → HasEnds u v edge
    → IsPairBefore edge.low edge.high other.low other.high ⊎ IsPairBefore other.low other.high edge.low edge.high
    → share amount other.low other.high u v ≡ pos 0
other-share amount edge other u v up rise ends apart = grind (arith, nat_tests)

-- two edges of a table come one before the other
pub apart : (mesh : FaceList) (table : List Edge) (j k : ℕ) → IsTableOf mesh table → j < length table → k < length table → j ≢ k
    → IsPairBefore (edge_in table j).low (edge_in table j).high (edge_in table k).low (edge_in table k).high
    ⊎ IsPairBefore (edge_in table k).low (edge_in table k).high (edge_in table j).low (edge_in table j).high
apart mesh table j k h lj lk differ = grind arith

-- a dart given to its edge
pub grown : (mesh : FaceList) (table : List Edge) (given wanted : ℕ → ℕ → ℤ) (old now new : List ℤ) (e u v : ℕ) (amount : ℤ)
    → IsTableOf mesh table → e < length table → HasEnds u v (edge_in table e) → length now ≡ length table → GrewBy table given old now
    → ((low high : ℕ) → wanted low high ≡ given low high +ℤ share amount low high u v)
    → new ≡ set now e (number_at now e +ℤ signed_from amount (edge_in table e) u) → GrewBy table wanted old new
grown mesh table given wanted old now new e u v amount h l ends long grew more is = record {
  long = ap (λ (xs : List ℤ). length xs) is ∙ length-set now e _ ∙ grew.long;
  each = λ k lk.
      let edge : Edge = edge_in table k in
      let want = more edge.low edge.high in
      let was = grew.each k lk in
      elim (cases_eq k e) [
        | inl same ↦
            let there : number_at new k ≡ number_at now e +ℤ signed_from amount (edge_in table e) u =
            ap (λ (xs : List ℤ). number_at xs k) is ∙ ap (λ j. number_at
            (set now e (number_at now e +ℤ signed_from amount (edge_in table e) u)) j) same
            ∙ get_or-set_same now e _ (pos 0) (omega arith) in
            let here : number_at now e ≡ number_at now k = ap (λ j. number_at now j) (sym same) in
            let gives : signed_from amount (edge_in table e) u ≡ share amount edge.low edge.high u v =
            turned-share amount (edge_in table e) u v (h.edges e _ l).ordered ends
            ∙ ap (λ j. share amount (edge_in table j).low (edge_in table j).high u v) (sym same) in
            omega (arith, ints, there, here, gives, want, was)
        | inr off ↦
            let there : number_at new k ≡ number_at now k =
            ap (λ (xs : List ℤ). number_at xs k) is ∙ get_or-set_other now e k _ (pos 0) off in
            let none : share amount edge.low edge.high u v ≡ pos 0 =
            other-share amount (edge_in table e) edge u v (h.edges e _ l).ordered (h.edges k _ lk).ordered ends
            (apart mesh table e k h l lk (λ same. off (sym same))) in
            omega (arith, ints, there, none, want, was)
      ];
}

-- how large an entry became
pub grown_size : (table : List Edge) (given : ℕ → ℕ → ℤ) (old now : List ℤ) (e bound more : ℕ) → GrewBy table given old now
    → e < length table → AreNumbersWithin bound old
    → unsigned_abs (given (edge_in table e).low (edge_in table e).high) ≤ more → unsigned_abs (number_at now e) ≤ bound + more
grown_size table given old now e bound more grew l within few = grind (arith, size-sum, number_at)

-- before the first dart of a walk
pub walk_start : (table : List Edge) (walk : List ℕ) (amount : ℤ) (old : List ℤ)
    → GrewBy table (λ low high. along (share amount low high) (take 1 walk)) old old
walk_start table walk amount old = grind (arith, along)

pub walk_step : (mesh : FaceList) (table : List Edge) (walk : List ℕ) (k : ℕ) (amount sent : ℤ) (old now new : List ℤ) (e u v : ℕ)
    → IsTableOf mesh table → e < length table → HasEnds u v (edge_in table e) → length now ≡ length table
    → GrewBy table (λ low high. along (share amount low high) (take (suc k) walk)) old now → k + 1 < length walk
    → u ≡ get_or walk k 0 → v ≡ get_or walk (k + 1) 0 → sent ≡ amount
    → new ≡ set now e (number_at now e +ℤ signed_from sent (edge_in table e) u)
    → GrewBy table (λ low high. along (share amount low high) (take (suc (k + 1)) walk)) old new
walk_step mesh table walk k amount sent old now new e u v h l ends long grew few u_is v_is same is =
    let higher : k + 1 ≡ suc k = omega arith in
    grown mesh table (λ low high. along (share amount low high) (take (suc k) walk))
    (λ low high. along (share amount low high) (take (suc (k + 1)) walk)) old now new e u v sent h l ends long grew
    (λ low high.
    ap (λ n. along (share amount low high) (take (suc n) walk)) higher
    ∙ along-next (share amount low high) walk k (omega arith)
    ∙ ap (λ n. along (share amount low high) (take (suc k) walk) +ℤ share amount low high (get_or walk k 0) (get_or walk n 0)) (sym higher)
    ∙ ap (λ x. along (share amount low high) (take (suc k) walk) +ℤ share amount low high x (get_or walk (k + 1) 0)) (sym u_is)
    ∙ ap (λ x. along (share amount low high) (take (suc k) walk) +ℤ share amount low high u x) (sym v_is)
    ∙ ap (λ z. along (share amount low high) (take (suc k) walk) +ℤ share z low high u v) (sym same))
    is

-- the ends of a side that stands in an edge
pub ends_of_side : (mesh : FaceList) (table : List Edge) (e : ℕ) (side : Side) → IsTableOf mesh table → e < length table
    → Contains (edge_in table e).sides side → HasEnds (tail_of mesh side) (head_of mesh side) (edge_in table e)
ends_of_side mesh table e side h l has = grind (arith, side_of_edge)

-- the sides of one face have its number
pub one_number : (of_face : ℕ → ℤ) (f low high : ℕ) (face : List ℕ)
    → total (map (λ (s : FaceSide). share (of_face s.face) low high s.tail s.head) (sides_of_face f face))
    ≡ total (map (λ (s : FaceSide). share (of_face f) low high s.tail s.head) (sides_of_face f face))
one_number of_face f low high face = along_range (range_with_len 0 (length face))
  where
    along_range : (places : List ℕ)
        → total (map (λ (s : FaceSide). share (of_face s.face) low high s.tail s.head) (map (face_side f face) places))
        ≡ total (map (λ (s : FaceSide). share (of_face f) low high s.tail s.head) (map (face_side f face) places))
    along_range [] = refl
    along_range (t ∷ places) = ap (λ z. share (of_face f) low high (face_side f face t).tail (face_side f face t).head +ℤ z)
        (along_range places)

-- opposite numbers give the opposite sum
pub total-opposite : (amount : ℤ) (low high : ℕ) (sides : List FaceSide)
    → total (map (λ (s : FaceSide). share (neg_ℤ amount) low high s.tail s.head) sides)
    ≡ neg_ℤ (total (map (λ (s : FaceSide). share amount low high s.tail s.head) sides))
total-opposite amount low high [] = refl
total-opposite amount low high (s ∷ sides) =
    let more = total-opposite amount low high sides in
    let here = share-back_number amount low high s.tail s.head in
    omega (arith, ints, more, here)
  where
    share-back_number : (amount : ℤ) (low high u v : ℕ) → share (neg_ℤ amount) low high u v ≡ neg_ℤ (share amount low high u v)
    share-back_number amount low high u v = grind (arith, nat_tests, ints)

-- what the sides of a face give
abbrev pub shares_of : ℤ → ℕ → ℕ → List FaceSide → ℤ
shares_of amount low high sides = total (map (λ (side : FaceSide). share amount low high side.tail side.head) sides)

pub face_start : (table : List Edge) (sides : List FaceSide) (amount : ℤ) (old : List ℤ)
    → GrewBy table (λ low high. shares_of amount low high (take 0 sides)) old old
face_start table sides amount old = record { long = refl; each = λ k l. omega (arith, ints) }

pub face_step : (mesh : FaceList) (table : List Edge) (f t : ℕ) (amount sent : ℤ) (old now new : List ℤ) (e u : ℕ)
    → IsTableOf mesh table → e < length table → Contains (edge_in table e).sides (record { face = record { 0 = f }; at = t })
    → length now ≡ length table
    → GrewBy table (λ low high. shares_of amount low high (take t (sides_of_face f (face_at mesh f)))) old now
    → t < length (face_at mesh f) → u ≡ get_or (face_at mesh f) t 0 → sent ≡ amount
    → new ≡ set now e (number_at now e +ℤ signed_from sent (edge_in table e) u)
    → GrewBy table (λ low high. shares_of amount low high (take (t + 1) (sides_of_face f (face_at mesh f)))) old new
face_step mesh table f t amount sent old now new e u h l has long grew few u_is same is =
    let side : Side = record { face = record { 0 = f }; at = t } in
    let v : ℕ = head_of mesh side in
    let face : List ℕ = face_at mesh f in
    let ends : HasEnds u v (edge_in table e) =
    subst (λ x. HasEnds x v (edge_in table e)) (sym u_is) (ends_of_side mesh table e side h l has) in
    grown mesh table (λ low high. shares_of amount low high (take t (sides_of_face f face)))
    (λ low high. shares_of amount low high (take (t + 1) (sides_of_face f face))) old now new e u v sent h l ends long grew
    (λ low high.
    let last : shares_of amount low high (face_side f face t ∷ []) ≡ share amount low high (get_or face t 0) v = omega (arith, ints) in
    ap (shares_of amount low high) (sides_of_face-more f face t few)
    ∙ total-more (λ (side : FaceSide). share amount low high side.tail side.head) (take t (sides_of_face f face)) (face_side f face t ∷ [])
    ∙ ap (λ z. shares_of amount low high (take t (sides_of_face f face)) +ℤ z) last
    ∙ ap (λ x. shares_of amount low high (take t (sides_of_face f face)) +ℤ share amount low high x v) (sym u_is)
    ∙ ap (λ z. shares_of amount low high (take t (sides_of_face f face)) +ℤ share z low high u v) (sym same))
    is

-- the numbered sides of the faces so far
abbrev pub shares_up_to : FaceList → List ℤ → ℕ → ℕ → ℕ → ℤ
shares_up_to mesh of_face n low high =
    total (map (λ (side : FaceSide). share (number_at of_face side.face) low high side.tail side.head) (sides_up_to mesh n))

pub faces_step : (mesh : FaceList) (table : List Edge) (of_face : List ℤ) (n : ℕ) (sent : ℤ) (old now new : List ℤ)
    → n < length mesh.faces → sent ≡ neg_ℤ (number_at of_face n) → length now ≡ length old
    → GrewBy table (λ low high. neg_ℤ (shares_up_to mesh of_face n low high)) old now → GrewBy table (face_share mesh sent n) now new
    → GrewBy table (λ low high. neg_ℤ (shares_up_to mesh of_face (n + 1) low high)) old new
faces_step mesh table of_face n sent old now new few same long grew more = record {
  long = more.long ∙ long;
  each = λ k lk.
      let low : ℕ = (edge_in table k).low in
      let high : ℕ = (edge_in table k).high in
      let face : List FaceSide = sides_of_face n (face_at mesh n) in
      let number : FaceSide → ℤ = λ side. share (number_at of_face side.face) low high side.tail side.head in
      let next : shares_up_to mesh of_face (n + 1) low high ≡ shares_up_to mesh of_face n low high +ℤ total (map number face) =
      ap (λ (sides : List FaceSide). total (map number sides)) (sides_up_to-more mesh n few)
      ∙ total-more number (sides_up_to mesh n) face in
      let here : face_share mesh sent n low high ≡ neg_ℤ (total (map number face)) =
      ap (λ z. shares_of z low high face) same ∙ total-opposite (number_at of_face n) low high face
      ∙ ap neg_ℤ (sym (one_number (number_at of_face) n low high (face_at mesh n))) in
      let one = grew.each k lk in
      let two = more.each k lk in
      omega (arith, ints, next, here, one, two);
}

pub faces_start : (mesh : FaceList) (table : List Edge) (of_face old : List ℤ)
    → GrewBy table (λ low high. neg_ℤ (shares_up_to mesh of_face 0 low high)) old old
faces_start mesh table of_face old = grind (arith, number_at, sides_up_to-none)

pub few_taken : {X : Type 0} (n : ℕ) (xs : List X) → length (take n xs) ≤ n
few_taken zero xs = omega arith
few_taken (suc n) [] = omega arith
few_taken (suc n) (x ∷ xs) =
    let more = few_taken n xs in grind arith

-- the edge of a dart of a walk
pub walk_edge : (mesh : FaceList) (table : List Edge) (walk : List ℕ) (k u v : ℕ) → IsTableOf mesh table → IsWalk mesh walk
    → k < length walk - 1 → u ≡ get_or walk k 0 → v ≡ get_or walk (k + 1) 0 → Any (HasEnds u v) table
walk_edge mesh table walk k u v h w few u_is v_is =
    let is : is_edge mesh u v ≡ true = ap (λ x. is_edge mesh x v) u_is ∙ ap (is_edge mesh (get_or walk k 0)) v_is ∙ w.edges k few in
    let found : IsEdgeBetween table u v = edge_between mesh table u v h is in
    (found.edge, edge_in table found.edge, found.in_table, get_or_default table found.edge _ _ found.in_table, found.ends)

-- how large the entries are once so many darts were given
pub walk_size : (table : List Edge) (walk : List ℕ) (k : ℕ) (amount : ℤ) (old now : List ℤ) (bound : ℕ)
    → GrewBy table (λ low high. along (share amount low high) (take (suc k) walk)) old now → length old ≡ length table
    → AreNumbersWithin bound old → unsigned_abs amount ≤ 1 → k < 2 ^ 31 → AreNumbersWithin (bound + 2 ^ 31) now
walk_size table walk k amount old now bound grew long within small few = record {
  each = λ e. elim (cases_lt e (length table)) [
    | inl l ↦
        let number : ℕ → ℕ → ℤ = share amount (edge_in table e).low (edge_in table e).high in
        let each : (u v : ℕ) → unsigned_abs (number u v) ≤ 1 =
        λ u v. omega (arith, size-share amount (edge_in table e).low (edge_in table e).high u v, small) in
        let sum = size-along number 1 (take (suc k) walk) each in
        let size = grown_size table (λ low high. along (share amount low high) (take (suc k) walk)) old now e bound
        (1 * length (take (suc k) walk)) grew l within sum in
        omega (arith, size, few_taken (suc k) walk)
    | inr past ↦
        let none : number_at now e ≡ pos 0 = get_or_past now e (pos 0) (omega (arith, grew.long, long, past)) in
        subst (λ z. unsigned_abs z ≤ bound + 2 ^ 31) (sym none) (omega arith)
  ];
}

-- there is room for one more dart
pub walk_room : (table : List Edge) (walk : List ℕ) (k : ℕ) (amount : ℤ) (old now : List ℤ) (e : ℕ)
    → GrewBy table (λ low high. along (share amount low high) (take (suc k) walk)) old now → e < length table
    → AreNumbersWithin (2 ^ 32) old
    → unsigned_abs amount ≤ 1 → k < 2 ^ 32 → unsigned_abs (number_at now e) + unsigned_abs amount < 2 ^ 62
walk_room table walk k amount old now e grew l within small few =
    let number : ℕ → ℕ → ℤ = share amount (edge_in table e).low (edge_in table e).high in
    let each : (u v : ℕ) → unsigned_abs (number u v) ≤ 1 = λ u v. grind (arith, size-share) in
    let sum = size-along number 1 (take (suc k) walk) each in
    let size = grown_size table (λ low high. along (share amount low high) (take (suc k) walk)) old now e (2 ^ 32)
    (1 * length (take (suc k) walk)) grew l within sum in grind (arith, few_taken)

-- a face has few sides
pub face_few : (mesh : FaceList) (f : ℕ) → HasFileSize mesh → f < length mesh.faces → length (face_at mesh f) ≤ MOST_SIDES
face_few mesh f small few = grind (arith, common_steps, length-sides_up_to, sides_up_to-more, length-sides_of_face)

-- there is room for one more side
pub face_room : (table : List Edge) (sides : List FaceSide) (t : ℕ) (amount : ℤ) (old now : List ℤ) (e : ℕ)
    → GrewBy table (λ low high. shares_of amount low high (take t sides)) old now → e < length table → AreNumbersWithin (2 ^ 60) old
    → unsigned_abs amount ≤ MOST_NUMBER → t ≤ MOST_SIDES → unsigned_abs (number_at now e) + unsigned_abs amount < 2 ^ 62
face_room table sides t amount old now e grew l within small few =
    let number : FaceSide → ℤ = λ side. share amount (edge_in table e).low (edge_in table e).high side.tail side.head in
    let each : (side : FaceSide) → unsigned_abs (number side) ≤ MOST_NUMBER = λ side. grind (arith, size-share) in
    let sum = size-total number MOST_NUMBER (take t sides) each in
    grind (arith, few_taken)

-- there is room for one more face
pub faces_room : (mesh : FaceList) (table : List Edge) (of_face : List ℤ) (n : ℕ) (old now : List ℤ) → HasFileSize mesh
    → GrewBy table (λ low high. neg_ℤ (shares_up_to mesh of_face n low high)) old now → length old ≡ length table
    → AreNumbersWithin (2 ^ 33) old → AreNumbersWithin MOST_NUMBER of_face → AreNumbersWithin (2 ^ 60) now
faces_room mesh table of_face n old now limits grew long within small = record {
  each = λ k. elim (cases_lt k (length table)) [
    | inl l ↦
        let low : ℕ = (edge_in table k).low in
        let high : ℕ = (edge_in table k).high in
        let number : FaceSide → ℤ = λ side. share (number_at of_face side.face) low high side.tail side.head in
        let each : (side : FaceSide) → unsigned_abs (number side) ≤ MOST_NUMBER =
        λ side. omega (arith, size-share (number_at of_face side.face) low high side.tail side.head, small.each side.face) in
        let sum = size-total number MOST_NUMBER (sides_up_to mesh n) each in
        let back : unsigned_abs (neg_ℤ (shares_up_to mesh of_face n low high)) ≤ MOST_NUMBER * length (sides_up_to mesh n) =
        omega (arith, sum, size-opposite (shares_up_to mesh of_face n low high)) in
        let size = grown_size table (λ low high. neg_ℤ (shares_up_to mesh of_face n low high)) old now k (2 ^ 33)
        (MOST_NUMBER * length (sides_up_to mesh n)) grew l within back in
        omega (arith, size, length-sides_up_to mesh n, limits.few_sides)
    | inr past ↦
        let none : number_at now k ≡ pos 0 = get_or_past now k (pos 0) (omega (arith, grew.long, long, past)) in
        subst (λ z. unsigned_abs z ≤ 2 ^ 60) (sym none) (omega arith)
  ];
}

-- all faces
pub faces_all : (mesh : FaceList) (table : List Edge) (of_face : List ℤ) (n : ℕ) (old now : List ℤ) → length mesh.faces ≤ n
    → GrewBy table (λ low high. neg_ℤ (shares_up_to mesh of_face n low high)) old now
    → GrewBy table (λ low high. neg_ℤ (boundary mesh (number_at of_face) low high)) old now
faces_all mesh table of_face n old now all grew = grind (arith, number_at, sides_up_to-all)

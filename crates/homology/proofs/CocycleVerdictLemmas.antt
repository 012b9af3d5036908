-- The sums of a cocycle, dart by dart, and what a test of one says.
use Rattle.homology.proofs.Common.{dart_number, along, number_at, signed_from, AreTableNumbers, MOST_NUMBER, ◌≡◌, inl, inr, ℕ, suc, ◌+◌, ◌*◌, ◌^◌, ◌<◌, ◌≤◌, List, [], ◌∷◌, length, get_or, take, refl, ap, sym, ◌∙◌, subst, arith, ℤ, pos, ◌+ℤ◌, to_z, of_z, w64, fits_signed_from_abs, unsigned_abs, Contains, FitsSigned, head_of, Edge, IsTableOf, HasEnds, edge_in, FaceList, face_at, Side}
use Rattle.homology.proofs.SizeLemmas.{size-sum, sent}
use Rattle.homology.proofs.AlongLemmas.{first_sides}
use Rattle.homology.proofs.TallyLemmas.{along-next, ends_of_side}

pub added_size : (s r : ℤ) (k : ℕ) → unsigned_abs s ≤ MOST_NUMBER * k → unsigned_abs r ≤ MOST_NUMBER
    → unsigned_abs (s +ℤ r) ≤ MOST_NUMBER * (k + 1)
added_size s r k h l = omega (arith, size-sum s r (MOST_NUMBER * k) MOST_NUMBER h l)

small_sent : (r : ℤ) → unsigned_abs r ≤ MOST_NUMBER → to_z w64 (of_z w64 r) ≡ r
small_sent r h = sent r (omega (arith, h))

-- a sum as the program forms it
pub added : (s r : ℤ) (k : ℕ) → unsigned_abs s ≤ MOST_NUMBER * k → unsigned_abs r ≤ MOST_NUMBER → k < 2 ^ 32
    → to_z w64 (of_z w64 (s +ℤ to_z w64 (of_z w64 r))) ≡ s +ℤ r
added s r k h l few = grind (arith, small_sent, sent, added_size)

pub added_fits : (s r : ℤ) (k : ℕ) → unsigned_abs s ≤ MOST_NUMBER * k → unsigned_abs r ≤ MOST_NUMBER → k < 2 ^ 32
    → FitsSigned w64 (s +ℤ to_z w64 (of_z w64 r))
added_fits s r k h l few = grind (arith, small_sent, fits_signed_from_abs, added_size)

turned-dart : (of_edge : ℕ → ℕ → ℤ) (edge : Edge) (u v : ℕ) → edge.low < edge.high → HasEnds u v edge
    → signed_from (of_edge edge.low edge.high) edge u ≡ dart_number of_edge u v
turned-dart of_edge edge u v up (inl e) = grind (arith, signed_from)
turned-dart of_edge edge u v up (inr e) = grind (arith, signed_from)

-- the number of a dart along an edge of the table
pub dart_is : (mesh : FaceList) (table : List Edge) (numbers : List ℤ) (of_edge : ℕ → ℕ → ℤ) (e u v : ℕ) (r : ℤ)
    → IsTableOf mesh table → AreTableNumbers table numbers of_edge → e < length table → HasEnds u v (edge_in table e)
    → r ≡ signed_from (number_at numbers e) (edge_in table e) u → r ≡ dart_number of_edge u v
dart_is mesh table numbers of_edge e u v r h are l ends is = grind (arith, signed_from, turned-dart)

pub round_step : (mesh : FaceList) (table : List Edge) (numbers : List ℤ) (of_edge : ℕ → ℕ → ℤ) (f t e u : ℕ) (s r : ℤ)
    → IsTableOf mesh table → AreTableNumbers table numbers of_edge → e < length table
    → Contains (edge_in table e).sides (record { face = record { 0 = f }; at = t }) → u ≡ get_or (face_at mesh f) t 0
    → s ≡ first_sides (dart_number of_edge) (face_at mesh f) t → r ≡ signed_from (number_at numbers e) (edge_in table e) u
    → s +ℤ r ≡ first_sides (dart_number of_edge) (face_at mesh f) (t + 1)
round_step mesh table numbers of_edge f t e u s r h are l has u_is s_is r_is =
    let side : Side = record { face = record { 0 = f }; at = t } in
    let v : ℕ = head_of mesh side in
    let ends : HasEnds u v (edge_in table e) =
    subst (λ x. HasEnds x v (edge_in table e)) (sym u_is) (ends_of_side mesh table e side h l has) in
    let higher : t + 1 ≡ suc t = omega arith in
    ap (λ z. z +ℤ r) s_is
    ∙ ap (λ z. first_sides (dart_number of_edge) (face_at mesh f) t +ℤ z)
    (dart_is mesh table numbers of_edge e u v r h are l ends r_is ∙ ap (λ x. dart_number of_edge x v) u_is)
    ∙ sym (ap (first_sides (dart_number of_edge) (face_at mesh f)) higher)

pub along_step : (mesh : FaceList) (table : List Edge) (numbers : List ℤ) (of_edge : ℕ → ℕ → ℤ) (walk : List ℕ) (k e u v : ℕ) (s r : ℤ)
    → IsTableOf mesh table → AreTableNumbers table numbers of_edge → e < length table → HasEnds u v (edge_in table e)
    → k + 1 < length walk → u ≡ get_or walk k 0 → v ≡ get_or walk (k + 1) 0
    → s ≡ along (dart_number of_edge) (take (suc k) walk) → r ≡ signed_from (number_at numbers e) (edge_in table e) u
    → s +ℤ r ≡ along (dart_number of_edge) (take (suc (k + 1)) walk)
along_step mesh table numbers of_edge walk k e u v s r h are l ends few u_is v_is s_is r_is =
    let higher : k + 1 ≡ suc k = omega arith in
    ap (λ z. z +ℤ r) s_is
    ∙ ap (λ z. along (dart_number of_edge) (take (suc k) walk) +ℤ z)
    (dart_is mesh table numbers of_edge e u v r h are l ends r_is ∙ ap (λ x. dart_number of_edge x v) u_is
    ∙ ap (dart_number of_edge (get_or walk k 0)) (v_is ∙ ap (λ n. get_or walk n 0) higher))
    ∙ sym (along-next (dart_number of_edge) walk k (omega arith))
    ∙ sym (ap (λ n. along (dart_number of_edge) (take (suc n) walk)) higher)

pub along_start : (number : ℕ → ℕ → ℤ) (walk : List ℕ) → along number (take 1 walk) ≡ pos 0
along_start number [] = refl
along_start number (u ∷ walk) = refl

-- Below a dart each face is expanded once at most.
use Rattle.free_forms.proofs.Common.{NoEdgeHasThreeSides, OpenView, HasFaceParents, EndsOutside, parent_of, expansion, ◌≡◌, ◌≢◌, ◌⊎◌, inl, inr, ℕ, zero, suc, ◌+◌, ◌-◌, ◌<◌, ◌≤◌, true, List, [], ◌∷◌, length, get_or, refl, ap, sym, ◌∙◌, subst, arith, cases_eq, eq-eqb, nat_tests, get_or_default, Contains, Option, Some, None, filter, if◌then◌else◌, ◌==◌, Contains-filter, face_side_in, IsSide, tail_of, head_of, FaceList, FaceSide, face_at, all_sides, joins, ArePartners, Side, run}
use Rattle.surf_model.proofs.NumberLemmas.{face_side}
use Rattle.free_forms.proofs.Expansions.{EachAlong, IsAlong, IsFound, acting, by_face, parent_face_of, found_face, expansion_places, places_behind, places_differ, expansion_size, side_at, across}

-- ---- a side has one partner

-- three elements of a list of two are not all different
two_same : {A : Type 0} (xs : List A) (a b c : A) → length xs ≤ 2 → Contains xs a → Contains xs b → Contains xs c → a ≢ b → a ≢ c → b ≡ c
two_same {A = A} xs a b c few has_a has_b has_c ab ac =
    elim (cases_eq has_b.0 has_c.0) [
      | inl same ↦ met has_b.0 has_c.0 b c has_b.1 has_b.2 has_c.2 same
      | inr other ↦ elim (cases_eq has_a.0 has_b.0) [
        | inl same ↦ absurd (ab (met has_a.0 has_b.0 a b has_a.1 has_a.2 has_b.2 same))
        | inr apart ↦
            absurd
            (ac (met has_a.0 has_c.0 a c has_a.1 has_a.2 has_c.2
            (let same : has_a.0 ≡ has_c.0 = omega (arith, has_a.1, has_b.1, has_c.1) in same)))
      ]
    ]
  where
    met : (i j : ℕ) (x y : A) → i < length xs → get_or xs i x ≡ x → get_or xs j y ≡ y → i ≡ j → x ≡ y
    met i j x y l is js same =
        sym is ∙ get_or_default xs i x y l ∙ ap (λ (n : ℕ). get_or xs n y) same ∙ js

-- a side as an entry of the list of all sides
abbrev entry_of : FaceList → Side → FaceSide
entry_of mesh side = face_side side.face.0 (face_at mesh side.face.0) side.at

abbrev name_of : FaceSide → Side
name_of entry = side_at entry.face entry.at

joins_other : (u v : ℕ) (s t : FaceSide) → joins u v s ≡ true
    → ((s.tail ≡ t.tail) × (s.head ≡ t.head)) ⊎ ((s.tail ≡ t.head) × (s.head ≡ t.tail)) → joins u v t ≡ true
joins_other u v s t h e = grind (arith, nat_tests)

pub one_partner : {mesh : FaceList} {side other third : Side} → NoEdgeHasThreeSides mesh → ArePartners mesh side other
    → ArePartners mesh side third → other ≡ third
one_partner {mesh} {side} {other} {third} few h k =
    let u : ℕ = tail_of mesh side in
    let v : ℕ = head_of mesh side in
    let own : joins u v (entry_of mesh side) ≡ true = grind (arith, nat_tests) in
    let listed : (s : Side) → IsSide mesh s → joins u v (entry_of mesh s) ≡ true
    → Contains (filter (joins u v) (all_sides mesh)) (entry_of mesh s) = λ s is joined. grind (arith, Contains-filter, face_side_in) in
    let same : entry_of mesh other ≡ entry_of mesh third =
    two_same (filter (joins u v) (all_sides mesh)) (entry_of mesh side) (entry_of mesh other) (entry_of mesh third) (few u v)
    (listed side h.first own) (listed other h.second (joins_other u v (entry_of mesh side) (entry_of mesh other) own h.one_edge))
    (listed third k.second (joins_other u v (entry_of mesh side) (entry_of mesh third) own k.one_edge))
    (λ e. h.different (ap name_of e)) (λ e. k.different (ap name_of e)) in
    ap name_of same

-- ---- crossings

-- the crossing number k from face g on, counted from 0, is to this side
abbrev CrossesTo : OpenView → ℕ → ℕ → Side → Type 0
CrossesTo surface zero g side = ArePartners surface.mesh (parent_of surface g) side
CrossesTo surface (suc k) g side =
    (other : Side) × ArePartners surface.mesh (parent_of surface g) other × CrossesTo surface k other.face.0 side

crosses_more : (surface : OpenView) (k g : ℕ) (side : Side) {next : Side} → CrossesTo surface k g side
    → ArePartners surface.mesh (parent_of surface side.face.0) next → CrossesTo surface (suc k) g next
crosses_more surface zero g side h more = (side, h, more)
crosses_more surface (suc k) g side h more = (h.0, h.1, crosses_more surface k h.0.face.0 side h.2 more)

-- fewer crossings are left then
nearer : (surface : OpenView) (k n g : ℕ) (side : Side) → EndsOutside surface n g → CrossesTo surface k g side
    → (m : ℕ) × (m < n) × EndsOutside surface m side.face.0
nearer surface k zero g side h crosses = absurd h
nearer surface zero (suc n) g side h crosses = (n, omega arith, h side crosses)
nearer surface (suc k) (suc n) g side h crosses =
    let rest = nearer surface k n crosses.0.face.0 side (h crosses.0 crosses.1) crosses.2 in (rest.0, omega (arith, rest.1), rest.2)

-- so no face is come to again
none_again : (surface : OpenView) (most k n f : ℕ) (side : Side) → n ≤ most → EndsOutside surface n f → CrossesTo surface k f side
    → side.face.0 ≡ f → ⊥
none_again surface zero k n f side few h crosses same = grind (arith, nearer)
none_again surface (suc most) k n f side few h crosses same =
    let next = nearer surface k n f side h crosses in
    none_again surface most k next.0 f side (omega (arith, next.1, few)) (subst (λ (g : ℕ). EndsOutside surface next.0 g) same next.2)
    crosses same

not_again : {surface : OpenView} (k f : ℕ) (side : Side) → HasFaceParents surface → f < length surface.mesh.faces
    → CrossesTo surface k f side
    → side.face.0 ≡ f → ⊥
not_again {surface} k f side has l =
    let n : ℕ = length surface.mesh.faces in
    none_again surface n k n f side (omega arith) (has.outside f l)

-- a face is come to by one of its sides alone
one_way : {surface : OpenView} (j k g : ℕ) (side other : Side) → HasFaceParents surface → CrossesTo surface j g side
    → CrossesTo surface k g other → side.face.0 ≡ other.face.0 → side ≡ other
one_way zero zero g side other has first second same = one_partner has.few_sides first second
one_way zero (suc k) g side other has first second same =
    let met : side ≡ second.0 = one_partner has.few_sides first second.1 in
    let face : second.0.face.0 ≡ other.face.0 = ap (λ (s : Side). s.face.0) (sym met) ∙ same in grind (arith, not_again)
one_way (suc j) zero g side other has first second same =
    let met : first.0 ≡ other = one_partner has.few_sides first.1 second in
    let face : first.0.face.0 ≡ side.face.0 = ap (λ (s : Side). s.face.0) met ∙ sym same in
    absurd (not_again j first.0.face.0 side has first.1.second.face first.2 (sym face))
one_way {surface} (suc j) (suc k) g side other has first second same =
    let met : second.0 ≡ first.0 = one_partner has.few_sides second.1 first.1 in
    one_way j k first.0.face.0 side other has first.2 (subst (λ (s : Side). CrossesTo surface k s.face.0 other) met second.2) same

-- ---- the faces that are expanded below a dart

-- each face is put on a list where it is entered
abbrev pub list_on : List ℕ → ℕ → ℕ → List ℕ
list_on faces u v = faces

abbrev pub list_in : ℕ → List ℕ → List ℕ
list_in f faces = f ∷ faces

abbrev pub listed : OpenView → ℕ → List ℕ → ℕ → ℕ → List ℕ
listed surface n = acting surface list_on list_in n

-- how often a number stands in a list
abbrev pub times : ℕ → List ℕ → ℕ
times g [] = 0
times g (x ∷ xs) = if x == g then suc (times g xs) else times g xs

-- a number comes once more at most, and then something holds
abbrev OnceMore : ℕ → List ℕ → List ℕ → Type 0 → Type 0
OnceMore g old new P = (times g new ≡ times g old) ⊎ ((times g new ≡ suc (times g old)) × P)

-- the dart goes along the parent of g, or of a face that crossings from g lead to
record IsBelow (surface : OpenView) (g u v : ℕ) : Type 0 where
  face : ℕ
  found : IsFound surface u v face
  ways : (g ≡ face) ⊎ ((k : ℕ) × (side : Side) × CrossesTo surface k g side × (side.face.0 ≡ face))

-- crossings from g lead to face f by the side at one of the places from i on
record ComesTo (surface : OpenView) (g f : ℕ) (places : ℕ → ℕ) (i n : ℕ) : Type 0 where
  at : ℕ
  from : i ≤ at
  below : at < i + n
  count : ℕ
  crosses : CrossesTo surface count g (side_at f (places at))

comes_to : {surface : OpenView} {g f place u v : ℕ} → HasFaceParents surface → f < length surface.mesh.faces → IsAlong surface f place u v
    → IsBelow surface g u v → (k : ℕ) × CrossesTo surface k g (side_at f place)
comes_to {surface} {g} {f} {place} has l along below =
    let step : ArePartners surface.mesh (parent_of surface below.face) (side_at f place) = across has l along below.found in
    elim below.ways [
      | inl same ↦ (0, subst (λ (h : ℕ). ArePartners surface.mesh (parent_of surface h) (side_at f place)) (sym same) step)
      | inr way ↦ (
        suc way.0,
        crosses_more surface way.0 g way.1 way.2
            (subst (λ (h : ℕ). ArePartners surface.mesh (parent_of surface h) (side_at f place)) (sym way.3) step),
      )
    ]

-- along different sides of a face, if so below each of them
once_along : {surface : OpenView} (g f n : ℕ) (places : ℕ → ℕ) (i : ℕ) (u : ℕ) (vs : List ℕ) (most : ℕ) → HasFaceParents surface
    → f < length surface.mesh.faces → ((a b : ℕ) → a < b → b < most → places b ≢ places a)
    → ((a b : ℕ) (old : List ℕ) → OnceMore g old (listed surface n old a b) (IsBelow surface g a b))
    → EachAlong surface f places i u vs → i + length vs ≤ most → (old : List ℕ)
    → OnceMore g old (run (listed surface n) old u vs) (ComesTo surface g f places i (length vs))
once_along g f n places i u [] most has l differ each along few old = inl refl
once_along {surface} g f n places i u (v ∷ vs) most has l differ each along few old =
    let next : List ℕ = listed surface n old u v in
    let here : IsBelow surface g u v → (k : ℕ) × CrossesTo surface k g (side_at f (places i)) = comes_to has l along.0 in
    elim (once_along g f n places (suc i) v vs most has l differ each along.1 (omega arith) next) [
      | inl rest ↦ grind arith
      | inr rest ↦ grind (arith, one_way, side_at)
    ]

times_more : (g f : ℕ) (faces : List ℕ) → f ≡ g → times g (f ∷ faces) ≡ suc (times g faces)
times_more g f faces same = rw (eq-eqb f g same) refl

times_other : (g f : ℕ) (faces : List ℕ) → f ≢ g → times g (f ∷ faces) ≡ times g faces
times_other g f faces other = grind (arith, nat_tests)

once_entered : {surface : OpenView} (g n : ℕ) {u v f : ℕ} → HasFaceParents surface
    → ((a b : ℕ) (old : List ℕ) → OnceMore g old (listed surface n old a b) (IsBelow surface g a b))
    → (old : List ℕ) → IsFound surface u v f
    → OnceMore g old (run (listed surface n) (f ∷ old) u (expansion surface.mesh (parent_of surface f) u)) (IsBelow surface g u v)
once_entered {surface} g n {u} {f} has each old found =
    let way : List ℕ = expansion surface.mesh (parent_of surface f) u in
    let told = expansion_places has found in
    let places : ℕ → ℕ = places_behind surface f told.0 in
    let most : ℕ = length (face_at surface.mesh f) - 1 in
    let size : length way ≡ most = expansion_size surface f u in
    let rest = once_along g f n places 0 u way most has found.within
    (λ a b less few. places_differ f told.0 a b has found.within less (omega arith)) each told.1 (omega (arith, size)) (f ∷ old) in
    elim (cases_eq f g) [
      | inl same ↦ grind (arith, times_more, not_again, side_at)
      | inr other ↦ grind (arith, times_other, side_at)
    ]

once_by_face : {surface : OpenView} (g n u v : ℕ) → HasFaceParents surface
    → ((a b : ℕ) (old : List ℕ) → OnceMore g old (listed surface n old a b) (IsBelow surface g a b))
    → (old : List ℕ) (o : Option ℕ) → parent_face_of surface u v ≡ o
    → OnceMore g old (by_face surface list_on list_in (listed surface n) o old u v) (IsBelow surface g u v)
once_by_face g n u v has each old None e = inl refl
once_by_face {surface} g n u v has each old (Some f) e = once_entered g n has each old (found_face surface u v f e)

once_below : {surface : OpenView} (g n : ℕ) → HasFaceParents surface → (u v : ℕ) (old : List ℕ)
    → OnceMore g old (listed surface n old u v) (IsBelow surface g u v)
once_below g zero has u v old = inl refl
once_below {surface} g (suc n) has u v old = once_by_face g n u v has (once_below g n has) old (parent_face_of surface u v) refl

-- no face stands twice in the list
pub listed_once : {surface : OpenView} (g n u v : ℕ) → HasFaceParents surface → times g (listed surface n [] u v) ≤ 1
listed_once g n u v has = grind (arith, once_below)

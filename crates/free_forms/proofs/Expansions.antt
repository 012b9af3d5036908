-- How darts act where a dart along a parent edge acts as its expansion does: what holds of every base, by which the other darts act.
use Rattle.free_forms.proofs.Common.{partners_swap, OpenView, HasFaceParents, EndsOutside, Joins, IsParentEdge, parent_of, expansion, ◌≡◌, ◌≢◌, ◌⊎◌, inl, inr, ℕ, zero, suc, ◌+◌, ◌-◌, ◌<◌, ◌≤◌, Bool, true, false, not, List, [], ◌∷◌, length, get_or, refl, ap, sym, ◌∙◌, subst, arith, cases_eq, cases_lt, eq-eqb, nat_tests, Option, Some, None, cond, if◌then◌else◌, step_within, ends_differ, corner_after, meet, joins_swap, IsSide, tail_of, head_of, FaceSide, face_at, next_corner, joins, ArePartners, Side, acts_exactly, run_stays, next_back, after_within, after_more, after_back, after_add, corners_apart, end_from, end_beyond, each_dart, each_any, run-more, walked-round, run, vertices_beyond, EachDart, ActsAlong, FacesActAsNothing}

-- each pair of vertices acts, also in lists that are no walks; states are told apart by equality
abbrev pub AnyDart : ℕ → ℕ → Type 0
AnyDart u v = Unit {0}

abbrev pub Equal : {State : Type 0} → State → State → Type 0
Equal s t = s ≡ t

abbrev pub ActsAnywhere : {State : Type 0} → (State → ℕ → ℕ → State) → (ℕ → State → Type 0) → Type 0
ActsAnywhere act At = ActsAlong AnyDart Equal act At

-- the parent of face f with its vertices
abbrev pub whole_parent : OpenView → ℕ → FaceSide
whole_parent surface f =
    let side = parent_of surface f in
    record { face = f; at = side.at; tail = tail_of surface.mesh side; head = head_of surface.mesh side }

-- a face below n whose parent joins the two vertices
abbrev pub parent_face : OpenView → ℕ → ℕ → ℕ → Option ℕ
parent_face surface zero u v = None
parent_face surface (suc f) u v = if joins u v (whole_parent surface f) then Some f else parent_face surface f u v

abbrev pub parent_face_of : OpenView → ℕ → ℕ → Option ℕ
parent_face_of surface u v = parent_face surface (length surface.mesh.faces) u v

-- a dart acts by the expansion of a face's parent, or by the base where there is none
abbrev pub by_face : {State : Type 0} → OpenView → (State → ℕ → ℕ → State) → (ℕ → State → State) → (State → ℕ → ℕ → State)
    → Option ℕ → State → ℕ → ℕ → State
by_face surface base enter inner None s u v = base s u v
by_face surface base enter inner (Some f) s u v = run inner (enter f s) u (expansion surface.mesh (parent_of surface f) u)

-- for so many levels of expansions, each of which is entered
abbrev pub acting : {State : Type 0} → OpenView → (State → ℕ → ℕ → State) → (ℕ → State → State) → ℕ → State → ℕ → ℕ → State
acting surface base enter zero s u v = base s u v
acting surface base enter (suc n) s u v =
    by_face surface base enter (acting surface base enter n) (parent_face_of surface u v) s u v

-- a face whose parent is the edge of the two vertices
pub record IsFound (surface : OpenView) (u v f : ℕ) : Type 0 where
  pub within : f < length surface.mesh.faces
  pub joined : Joins surface.mesh (parent_of surface f) u v

joins_ends : (u v : ℕ) (side : FaceSide) → joins u v side ≡ true → ((side.tail ≡ u) × (side.head ≡ v)) ⊎ ((side.tail ≡ v) × (side.head ≡ u))
joins_ends u v side h = grind (arith, nat_tests)

ends_join : (u v : ℕ) (side : FaceSide) → ((side.tail ≡ u) × (side.head ≡ v)) ⊎ ((side.tail ≡ v) × (side.head ≡ u)) → joins u v side ≡ true
ends_join u v side h = grind (arith, nat_tests)

chosen : (test : Bool) (f g : ℕ) (rest : Option ℕ) → cond test (Some f) rest ≡ Some g → ((test ≡ true) × (f ≡ g)) ⊎ (rest ≡ Some g)
chosen true f g rest e = inl (refl, cc)
chosen false f g rest e = inr e

passed : (test : Bool) (f : ℕ) (rest : Option ℕ) → cond test (Some f) rest ≡ None → (test ≡ false) × (rest ≡ None)
passed true f rest e = cc
passed false f rest e = (refl, e)

face_below : (surface : OpenView) (n u v f : ℕ) → parent_face surface n u v ≡ Some f
    → (f < n) × Joins surface.mesh (parent_of surface f) u v
face_below surface zero u v f e = cc
face_below surface (suc n) u v f e =
    elim (chosen (joins u v (whole_parent surface n)) n f (parent_face surface n u v) e) [
      | inl here ↦ grind (arith, joins_ends)
      | inr later ↦ (let rest = face_below surface n u v f later in (omega (arith, rest.0), rest.1))
    ]

pub found_face : (surface : OpenView) (u v f : ℕ) → parent_face_of surface u v ≡ Some f → IsFound surface u v f
found_face surface u v f e =
    let h = face_below surface (length surface.mesh.faces) u v f e in grind arith

none_below : (surface : OpenView) (n u v f : ℕ) → parent_face surface n u v ≡ None → f < n
    → Joins surface.mesh (parent_of surface f) u v → ⊥
none_below surface zero u v f e l h = absurd (omega arith)
none_below surface (suc n) u v f e l h =
    let told = passed (joins u v (whole_parent surface n)) n (parent_face surface n u v) e in
    elim (cases_eq f n) [
      | inl same ↦ grind (arith, ends_join)
      | inr other ↦ none_below surface n u v f told.1 (omega arith) h
    ]

pub face_swap : (surface : OpenView) (n u v : ℕ) → parent_face surface n u v ≡ parent_face surface n v u
face_swap surface zero u v = refl
face_swap surface (suc n) u v =
    ap (λ (b : Bool). cond b (Some n) (parent_face surface n u v)) (joins_swap u v (whole_parent surface n))
    ∙ ap (cond (joins v u (whole_parent surface n)) (Some n)) (face_swap surface n u v)

pub parent_in_mesh : {surface : OpenView} (f : ℕ) → HasFaceParents surface → f < length surface.mesh.faces
    → IsSide surface.mesh (parent_of surface f)
parent_in_mesh f has l = record { face = l; place = has.within f l }

pub ends_same : (t h u v low high : ℕ) → ((t ≡ low) × (h ≡ high)) ⊎ ((t ≡ high) × (h ≡ low))
    → ((u ≡ low) × (v ≡ high)) ⊎ ((u ≡ high) × (v ≡ low))
    → ((t ≡ u) × (h ≡ v)) ⊎ ((t ≡ v) × (h ≡ u))
ends_same t h u v low high first second = grind arith

-- two parents are not the two sides of one edge
no_two_parents : (surface : OpenView) (n f g : ℕ) → ArePartners surface.mesh (parent_of surface f) (parent_of surface g)
    → EndsOutside surface n f → ⊥
no_two_parents surface zero f g partners h = h
no_two_parents surface (suc n) f g partners h =
    no_two_parents surface n g f (partners_swap surface.mesh (parent_of surface f) (parent_of surface g) partners)
    (h (parent_of surface g) partners)

one_face : {surface : OpenView} {u v f g : ℕ} → HasFaceParents surface → IsFound surface u v f → IsFound surface u v g → f ≡ g
one_face {surface} {u} {v} {f} {g} has one other =
    elim (cases_eq f g) [
      | inl same ↦ same
      | inr apart ↦
          absurd (no_two_parents surface (length surface.mesh.faces) f g (record {
            first = parent_in_mesh f has one.within;
            second = parent_in_mesh g has other.within;
            different = λ same. apart (ap (λ (s : Side). s.face.0) same);
            one_edge = ends_same _ _ _ _ u v one.joined other.joined;
          }) (has.outside f one.within))
    ]

pub face_found : {surface : OpenView} {u v f : ℕ} → HasFaceParents surface → IsFound surface u v f → parent_face_of surface u v ≡ Some f
face_found {surface} {u} {v} {f} has found = go (parent_face_of surface u v) refl
  where
    go : (o : Option ℕ) → parent_face_of surface u v ≡ o → o ≡ Some f
    go None e = absurd (none_below surface (length surface.mesh.faces) u v f e found.within found.joined)
    go (Some g) e = ap Some (one_face has (found_face surface u v g e) found)

pub no_face_found : (surface : OpenView) (u v : ℕ) → (IsParentEdge surface u v → ⊥) → parent_face_of surface u v ≡ None
no_face_found surface u v none = go (parent_face_of surface u v) refl
  where
    go : (o : Option ℕ) → parent_face_of surface u v ≡ o → o ≡ None
    go None e = refl
    go (Some g) e = let found = found_face surface u v g e in absurd (none (g, found.within, found.joined))

-- a parent's two ends and its two corners: its edge leads from the one to the other, and so does each expansion the other way round
pub record Ends (surface : OpenView) (f u v : ℕ) : Type 0 where
  pub rising : Bool
  pub from : ℕ
  pub to : ℕ
  pub from_within : from < length (face_at surface.mesh f)
  pub at_u : get_or (face_at surface.mesh f) from 0 ≡ u
  pub at_v : get_or (face_at surface.mesh f) to 0 ≡ v
  pub far : corner_after rising (length (face_at surface.mesh f)) from (length (face_at surface.mesh f) - 1) ≡ to
  pub way : expansion surface.mesh (parent_of surface f) u
      ≡ vertices_beyond (face_at surface.mesh f) rising from (length (face_at surface.mesh f) - 1)
  pub back : expansion surface.mesh (parent_of surface f) v
      ≡ vertices_beyond (face_at surface.mesh f) (not rising) to (length (face_at surface.mesh f) - 1)

-- all steps but one, and all steps but one the other way
most_falling : (m t : ℕ) → t < m → corner_after false m t (m - 1) ≡ next_corner true m t
most_falling m t l = sym (meet true m t 1 l (omega arith))

most_rising : (m t : ℕ) → t < m → corner_after true m (next_corner true m t) (m - 1) ≡ t
most_rising m t l = grind (arith, meet, step_within, after_back)

by_test : (test : Bool) (x y : List ℕ) → test ≡ true → cond test x y ≡ x
by_test test x y e = rw e refl

by_test_not : (test : Bool) (x y : List ℕ) → test ≡ false → cond test x y ≡ y
by_test_not test x y e = rw e refl

pub from_tail : (surface : OpenView) (f u : ℕ) → tail_of surface.mesh (parent_of surface f) ≡ u
    → expansion surface.mesh (parent_of surface f) u
    ≡ vertices_beyond (face_at surface.mesh f) false (parent_of surface f).at (length (face_at surface.mesh f) - 1)
from_tail surface f u is = by_test _ _ _ (eq-eqb (tail_of surface.mesh (parent_of surface f)) u is)

pub from_head : (surface : OpenView) (f u : ℕ) → tail_of surface.mesh (parent_of surface f) ≢ u
    → expansion surface.mesh (parent_of surface f) u
    ≡ vertices_beyond (face_at surface.mesh f) true (next_corner true (length (face_at surface.mesh f)) (parent_of surface f).at)
    (length (face_at surface.mesh f) - 1)
from_head surface f u isnt = grind (arith, by_test_not)

pub length_beyond : (ring : List ℕ) (rising : Bool) (t k : ℕ) → length (vertices_beyond ring rising t k) ≡ k
length_beyond ring rising t zero = refl
length_beyond ring rising t (suc k) = ap suc (length_beyond ring rising (next_corner rising (length ring) t) k)

-- an expansion has all sides but one
pub expansion_size : (surface : OpenView) (f u : ℕ)
    → length (expansion surface.mesh (parent_of surface f) u) ≡ length (face_at surface.mesh f) - 1
expansion_size surface f u = grind (arith, from_tail, length_beyond, from_head)

pub ends_of : {surface : OpenView} {f u v : ℕ} → HasFaceParents surface → IsFound surface u v f → Ends surface f u v
ends_of {surface} {f} {u} {v} has found =
    let side : Side = parent_of surface f in
    let ring : List ℕ = face_at surface.mesh f in
    let m : ℕ = length ring in
    let next : ℕ = next_corner true m side.at in
    let within : side.at < m = has.within f found.within in
    elim found.joined [
      | inl e ↦ grind (arith, most_falling, from_tail, from_head)
      | inr e ↦ grind (arith, step_within, most_rising, from_head, from_tail)
    ]

-- an expansion leads to the other end
pub expansion_ends : {surface : OpenView} {f u v : ℕ} → HasFaceParents surface → IsFound surface u v f
    → end_from u (expansion surface.mesh (parent_of surface f) u) ≡ v
expansion_ends {surface} {f} {u} {v} has found =
    let e : Ends surface f u v = ends_of has found in
    let ring : List ℕ = face_at surface.mesh f in
    let k : ℕ = length ring - 1 in grind (arith, end_beyond)

-- some steps round a face and as many back change nothing
round_and_back : {State : Type 0} (act : State → ℕ → ℕ → State) (At : ℕ → State → Type 0) → ActsAnywhere act At
    → (ring : List ℕ) (rising : Bool) (t k : ℕ) → t < length ring → (s : State) → At (get_or ring t 0) s
    → run act (run act s (get_or ring t 0) (vertices_beyond ring rising t k)) (get_or ring (corner_after rising (length ring) t k) 0)
    (vertices_beyond ring (not rising) (corner_after rising (length ring) t k) k)
    ≡ s
round_and_back act At acts ring rising t zero l s at = refl
round_and_back {State} act At acts ring rising t (suc k) l s at =
    let m : ℕ = length ring in
    let next : ℕ = next_corner rising m t in
    let next_in : next < m = step_within rising m t l in
    let far : ℕ = corner_after rising m next k in
    let along : State = act s (get_or ring t 0) (get_or ring next 0) in
    let near : corner_after (not rising) m far k ≡ next = after_back rising m next k next_in in
    let home : corner_after (not rising) m far (suc k) ≡ t = grind (arith, after_more, next_back) in
    run-more act (run act along (get_or ring next 0) (vertices_beyond ring rising next k)) ring (not rising) far k
    ∙ ap (λ (x : State). act x (get_or ring (corner_after (not rising) m far k) 0)
    (get_or ring (corner_after (not rising) m far (suc k)) 0))
    (round_and_back act At acts ring rising next k next_in along (acts.stays _ _ s tt at))
    ∙ ap (λ (c : ℕ). act along (get_or ring c 0) (get_or ring (corner_after (not rising) m far (suc k)) 0)) near
    ∙ ap (λ (c : ℕ). act along (get_or ring next 0) (get_or ring c 0)) home ∙ acts.back _ _ s tt at

-- an expansion and the way back along it change nothing
pub expansion_back : {State : Type 0} (act : State → ℕ → ℕ → State) (At : ℕ → State → Type 0) → ActsAnywhere act At
    → (surface : OpenView) (f u v : ℕ) → HasFaceParents surface → IsFound surface u v f → (s : State) → At u s
    → run act (run act s u (expansion surface.mesh (parent_of surface f) u)) v (expansion surface.mesh (parent_of surface f) v) ≡ s
expansion_back {State} act At acts surface f u v has found s at =
    let e : Ends surface f u v = ends_of has found in
    let ring : List ℕ = face_at surface.mesh f in
    let k : ℕ = length ring - 1 in
    grind (arith, round_and_back)

-- where there and back changes nothing by the base, and inside expansions, so it is one level up
level_stays : {State : Type 0} {surface : OpenView} (base inner : State → ℕ → ℕ → State) (At : ℕ → State → Type 0) → HasFaceParents surface
    → ActsAnywhere base At → ActsAnywhere inner At → (u v : ℕ) (o : Option ℕ) → parent_face_of surface u v ≡ o → (s : State) → At u s
    → At v (by_face surface base (λ f x. x) inner o s u v)
level_stays base inner At has acts more u v None e s at = acts.stays u v s tt at
level_stays {surface} base inner At has acts more u v (Some f) e s at =
    let way : List ℕ = expansion surface.mesh (parent_of surface f) u in
    subst (λ (x : ℕ). At x (run inner s u way)) (expansion_ends has (found_face surface u v f e))
    (run_stays AnyDart Equal inner At more s u way (each_any u way) at)

level_back : {State : Type 0} {surface : OpenView} (base inner : State → ℕ → ℕ → State) (At : ℕ → State → Type 0) → HasFaceParents surface
    → ActsAnywhere base At → ActsAnywhere inner At → (u v : ℕ) (o : Option ℕ) → parent_face_of surface u v ≡ o → (s : State) → At u s
    → by_face surface base (λ f x. x) inner o (by_face surface base (λ f x. x) inner o s u v) v u ≡ s
level_back base inner At has acts more u v None e s at = acts.back u v s tt at
level_back {surface} base inner At has acts more u v (Some f) e s at = grind (arith, expansion_back, found_face)

-- where there and back by the base changes nothing, so it is with expansions
pub acting_acts : {State : Type 0} (surface : OpenView) (base : State → ℕ → ℕ → State) (At : ℕ → State → Type 0) → HasFaceParents surface
    → ActsAnywhere base At → (n : ℕ) → ActsAnywhere (acting surface base (λ f s. s) n) At
acting_acts surface base At has acts zero = acts
acting_acts {State} surface base At has acts (suc n) =
    let inner : State → ℕ → ℕ → State = acting surface base (λ f x. x) n in
    let more : ActsAnywhere inner At = acting_acts surface base At has acts n in
    acts_exactly AnyDart (acting surface base (λ f x. x) (suc n)) At
    (λ u v s dart at. level_stays base inner At has acts more u v (parent_face_of surface u v) refl s at) (λ u v s dart at.
    ap (λ (o : Option ℕ). by_face surface base (λ f x. x) inner o (acting surface base (λ f x. x) (suc n) s u v) v u)
    (face_swap surface (length surface.mesh.faces) v u)
    ∙ level_back base inner At has acts more u v (parent_face_of surface u v) refl s at)

pub run_agree : {State : Type 0} (act other : State → ℕ → ℕ → State) (u : ℕ) (vs : List ℕ)
    → EachDart (λ a b. (s : State) → act s a b ≡ other s a b) u vs → (s : State) → run act s u vs ≡ run other s u vs
run_agree act other u [] h s = refl
run_agree act other u (v ∷ vs) h s =
    ap (λ x. run act x v vs) (h.0 s) ∙ run_agree act other v vs h.1 (other s u v)

-- the side of face f at a place
abbrev pub side_at : ℕ → ℕ → Side
side_at f place = record { face = record { 0 = f }; at = place }

-- the two vertices are joined by the side of face f at a place, which is not its parent
pub record IsAlong (surface : OpenView) (f place a b : ℕ) : Type 0 where
  pub within : place < length (face_at surface.mesh f)
  pub other : place ≢ (parent_of surface f).at
  pub joined : Joins surface.mesh (side_at f place) a b

-- by some such side
abbrev IsAlongOther : OpenView → ℕ → ℕ → ℕ → Type 0
IsAlongOther surface f a b = (place : ℕ) × IsAlong surface f place a b

-- the darts from u on along a list of vertices go along sides of face f, those at the places i, i + 1 and so on of a listing
abbrev pub EachAlong : OpenView → ℕ → (ℕ → ℕ) → ℕ → ℕ → List ℕ → Type 0
EachAlong surface f places i u [] = Unit {0}
EachAlong surface f places i u (v ∷ vs) = IsAlong surface f (places i) u v × EachAlong surface f places (suc i) v vs

along_any : (surface : OpenView) (f : ℕ) (places : ℕ → ℕ) (i u : ℕ) (vs : List ℕ) → EachAlong surface f places i u vs
    → EachDart (IsAlongOther surface f) u vs
along_any surface f places i u [] h = tt
along_any surface f places i u (v ∷ vs) h = ((places i, h.0), along_any surface f places (suc i) v vs h.1)

-- the places of a face from that behind its parent on, going round
abbrev pub places_behind : OpenView → ℕ → Bool → ℕ → ℕ
places_behind surface f rising i = corner_after rising (length (face_at surface.mesh f)) (parent_of surface f).at (suc i)

-- fewer steps than once round lead elsewhere
elsewhere : (rising : Bool) (m t k : ℕ) → t < m → 0 < k → k < m → corner_after rising m t k ≢ t
elsewhere rising m t k l some few same = corners_apart rising m t 0 k l some (omega arith) (omega arith) (sym same)

-- no place comes twice
pub places_differ : {surface : OpenView} (f : ℕ) (rising : Bool) (i j : ℕ) → HasFaceParents surface → f < length surface.mesh.faces → i < j
    → j + 1 < length (face_at surface.mesh f) → places_behind surface f rising j ≢ places_behind surface f rising i
places_differ {surface} f rising i j has l less few same =
    let m : ℕ = length (face_at surface.mesh f) in
    let t : ℕ = (parent_of surface f).at in
    let far : suc j ≡ suc i + (j - i) = omega arith in
    elsewhere rising m (corner_after rising m t (suc i)) (j - i) (after_within rising m t (suc i) (has.within f l)) (omega arith)
    (omega arith) (sym (ap (corner_after rising m t) far ∙ after_add rising m t (suc i) (j - i)) ∙ same)

-- rising from the corner behind the parent
along_rising : {surface : OpenView} (f j k c : ℕ) → HasFaceParents surface → f < length surface.mesh.faces
    → suc j + k ≤ length (face_at surface.mesh f) → c ≡ places_behind surface f true j
    → EachAlong surface f (places_behind surface f true) j (get_or (face_at surface.mesh f) c 0)
    (vertices_beyond (face_at surface.mesh f) true c k)
along_rising f j zero c has l few is = tt
along_rising {surface} f j (suc k) c has l few is =
    let ring : List ℕ = face_at surface.mesh f in
    let m : ℕ = length ring in
    let t : ℕ = (parent_of surface f).at in
    let within : t < m = has.within f l in
    let c_within : c < m = subst (λ (x : ℕ). x < m) (sym is) (after_within true m t (suc j) within) in
    let here : IsAlong surface f c (get_or ring c 0) (get_or ring (next_corner true m c) 0) = record {
      within = c_within;
      other = λ same. elsewhere true m t (suc j) within (omega arith) (omega arith) (sym is ∙ same);
      joined = inl (refl, refl);
    } in (
      subst (λ (p : ℕ). IsAlong surface f p (get_or ring c 0) (get_or ring (next_corner true m c) 0)) is here,
      along_rising f (suc j) k (next_corner true m c) has l (omega arith) (ap (next_corner true m) is ∙ sym (after_more true m t (suc j))),
    )

-- falling from the corner where the parent starts
along_falling : {surface : OpenView} (f j k c : ℕ) → HasFaceParents surface → f < length surface.mesh.faces
    → suc j + k ≤ length (face_at surface.mesh f)
    → c ≡ corner_after false (length (face_at surface.mesh f)) (parent_of surface f).at j → c < length (face_at surface.mesh f)
    → EachAlong surface f (places_behind surface f false) j (get_or (face_at surface.mesh f) c 0)
    (vertices_beyond (face_at surface.mesh f) false c k)
along_falling f j zero c has l few is c_within = tt
along_falling {surface} f j (suc k) c has l few is c_within =
    let ring : List ℕ = face_at surface.mesh f in
    let m : ℕ = length ring in
    let t : ℕ = (parent_of surface f).at in
    let next : ℕ = next_corner false m c in
    let next_is : next ≡ corner_after false m t (suc j) = ap (next_corner false m) is ∙ sym (after_more false m t j) in
    let within : next < m = step_within false m c c_within in
    let home : next_corner true m next ≡ c = after_back false m c 1 c_within in
    let here : IsAlong surface f next (get_or ring c 0) (get_or ring next 0) = record {
      within = within;
      other = λ same. elsewhere false m t (suc j) (has.within f l) (omega arith) (omega arith) (sym next_is ∙ same);
      joined = inr (refl, ap (λ (x : ℕ). get_or ring x 0) home);
    } in (
      subst (λ (p : ℕ). IsAlong surface f p (get_or ring c 0) (get_or ring next 0)) next_is here,
      along_falling f (suc j) k next has l (omega arith) next_is within,
    )

-- each dart of an expansion goes along another side of the face, one after the other
pub expansion_places : {surface : OpenView} {f u v : ℕ} → HasFaceParents surface → IsFound surface u v f
    → (rising : Bool) × EachAlong surface f (places_behind surface f rising) 0 u (expansion surface.mesh (parent_of surface f) u)
expansion_places {surface} {f} {u} has found =
    grind (arith, head_of, ends_differ, parent_in_mesh, from_tail, along_falling, from_head, along_rising)

expansion_along : {surface : OpenView} {f u v : ℕ} → HasFaceParents surface → IsFound surface u v f
    → EachDart (IsAlongOther surface f) u (expansion surface.mesh (parent_of surface f) u)
expansion_along {surface} {f} {u} has found =
    let told = expansion_places has found in grind (arith, along_any)

-- across that side lies a face whose parent it is
pub across : {surface : OpenView} {f g place a b : ℕ} → HasFaceParents surface → f < length surface.mesh.faces → IsAlong surface f place a b
    → IsFound surface a b g → ArePartners surface.mesh (parent_of surface g) (side_at f place)
across {surface} {f} {g} {place} {a} {b} has l along found = grind (arith, parent_in_mesh, ends_same)

-- and it is further from the outside
further : {surface : OpenView} (n f : ℕ) {g a b : ℕ} → HasFaceParents surface → f < length surface.mesh.faces → IsAlongOther surface f a b
    → IsFound surface a b g → EndsOutside surface (suc n) g → EndsOutside surface n f
further n f has l along found outside = outside (side_at f along.0) (across has l along.1 found)

-- n levels are enough for the edge of the two vertices: its face, if it has one, takes as many crossings as are left
abbrev IsDeep : OpenView → ℕ → ℕ → ℕ → Type 0
IsDeep surface n u v =
    (f : ℕ) → IsFound surface u v f → EndsOutside surface (length surface.mesh.faces - n) f → ⊥

deep_on : {surface : OpenView} (n f a b : ℕ) → HasFaceParents surface → f < length surface.mesh.faces
    → (EndsOutside surface (length surface.mesh.faces - suc n) f → ⊥) → IsAlongOther surface f a b → IsDeep surface n a b
deep_on {surface} n f a b has l deep along g found outside =
    let count : ℕ = length surface.mesh.faces in
    elim (cases_lt n count) [
      | inl less ↦
          (let up : count - n ≡ suc (count - suc n) = omega arith in
          deep (further (count - suc n) f has l along found (subst (λ (k : ℕ). EndsOutside surface k g) up outside)))
      | inr more ↦ (let none : count - n ≡ 0 = omega arith in subst (λ (k : ℕ). EndsOutside surface k g) none outside)
    ]

no_level : {State : Type 0} {surface : OpenView} (base inner : State → ℕ → ℕ → State) (enter : ℕ → State → State) → HasFaceParents surface
    → (u v : ℕ) → IsDeep surface 0 u v → (s : State) → (o : Option ℕ) → parent_face_of surface u v ≡ o
    → base s u v ≡ by_face surface base enter inner o s u v
no_level base inner enter has u v deep s None e = refl
no_level {surface} base inner enter has u v deep s (Some f) e =
    let found = found_face surface u v f e in
    let all : length surface.mesh.faces - 0 ≡ length surface.mesh.faces = omega arith in grind arith

-- levels that agree inside expansions agree
levels_agree : {State : Type 0} (surface : OpenView) (base inner other : State → ℕ → ℕ → State) (enter : ℕ → State → State) → (u v : ℕ)
    → ((f : ℕ) → IsFound surface u v f → (x : State)
    → run inner x u (expansion surface.mesh (parent_of surface f) u) ≡ run other x u (expansion surface.mesh (parent_of surface f) u))
    → (s : State) → (o : Option ℕ) → parent_face_of surface u v ≡ o
    → by_face surface base enter inner o s u v ≡ by_face surface base enter other o s u v
levels_agree surface base inner other enter u v agree s None e = refl
levels_agree surface base inner other enter u v agree s (Some f) e = agree f (found_face surface u v f e) (enter f s)

-- one level more changes nothing then
level_more : {State : Type 0} (surface : OpenView) (base : State → ℕ → ℕ → State) (enter : ℕ → State → State) → HasFaceParents surface
    → (n u v : ℕ) → IsDeep surface n u v → (s : State) → acting surface base enter n s u v ≡ acting surface base enter (suc n) s u v
level_more surface base enter has zero u v deep s = grind (arith, no_level)
level_more {State} surface base enter has (suc n) u v deep s =
    let one : State → ℕ → ℕ → State = acting surface base enter n in
    let two : State → ℕ → ℕ → State = acting surface base enter (suc n) in
    levels_agree surface base one two enter u v (λ f found.
    let way : List ℕ = expansion surface.mesh (parent_of surface f) u in
    run_agree one two u way (each_dart (IsAlongOther surface f) (λ a b. (x : State) → one x a b ≡ two x a b)
    (λ a b along. level_more surface base enter has n a b (deep_on n f a b has found.within (deep f found) along)) u way
    (expansion_along has found))) s (parent_face_of surface u v) refl

-- with as many levels as there are faces
abbrev pub act_fully : {State : Type 0} → OpenView → (State → ℕ → ℕ → State) → (ℕ → State → State) → State → ℕ → ℕ → State
act_fully surface base enter = acting surface base enter (length surface.mesh.faces)

pub enough_levels : {State : Type 0} {surface : OpenView} (base : State → ℕ → ℕ → State) (enter : ℕ → State → State)
    → HasFaceParents surface
    → (u v : ℕ) (s : State)
    → act_fully surface base enter s u v
    ≡ by_face surface base enter (act_fully surface base enter) (parent_face_of surface u v) s u v
enough_levels {surface} base enter has u v s = grind (arith, level_more)

-- a parent edge acts as its expansion
pub acts_by_expansion : {State : Type 0} {surface : OpenView} (base : State → ℕ → ℕ → State) (enter : ℕ → State → State)
    → HasFaceParents surface
    → {u v f : ℕ} (s : State) → IsFound surface u v f
    → act_fully surface base enter s u v
    ≡ run (act_fully surface base enter) (enter f s) u (expansion surface.mesh (parent_of surface f) u)
acts_by_expansion {surface} base enter has {u} {v} s found = grind (arith, enough_levels, face_found)

-- and another edge by the base
pub acts_by_base : {State : Type 0} {surface : OpenView} (base : State → ℕ → ℕ → State) (enter : ℕ → State → State) → HasFaceParents surface
    → (u v : ℕ) (s : State) → (IsParentEdge surface u v → ⊥) → act_fully surface base enter s u v ≡ base s u v
acts_by_base {surface} base enter has u v s none = grind (arith, enough_levels, no_face_found)

-- so once round each face from the corner behind its parent changes nothing
pub faces_nothing : {State : Type 0} (surface : OpenView) (base : State → ℕ → ℕ → State) (At : ℕ → State → Type 0) → HasFaceParents surface
    → ActsAnywhere base At → FacesActAsNothing surface.mesh Equal (act_fully surface base (λ f s. s)) At (λ f. Unit {0})
faces_nothing {State} surface base At has acts = record {
  round = λ f l may. (
    true,
    next_corner true (length (face_at surface.mesh f)) (parent_of surface f).at,
    step_within true (length (face_at surface.mesh f)) (parent_of surface f).at (has.within f l),
    λ s at.
        let side : Side = parent_of surface f in
        let ring : List ℕ = face_at surface.mesh f in
        let m : ℕ = length ring in
        let next : ℕ = next_corner true m side.at in
        let tail : ℕ = tail_of surface.mesh side in
        let head : ℕ = head_of surface.mesh side in
        let within : side.at < m = has.within f l in
        let differ : tail ≢ head = ends_differ surface.mesh side has.valid (parent_in_mesh f has l) in
        let found : IsFound surface head tail f = record { within = l; joined = inr (refl, refl) } in
        let around : State = run act s head (vertices_beyond ring true next (m - 1)) in
        let rest : around ≡ act s head tail =
        sym (acts_by_expansion base (λ f x. x) has s found ∙ ap (run act s head) (from_head surface f head differ)) in
        let whole : m ≡ suc (m - 1) = omega arith in
        let most : corner_after true m next (m - 1) ≡ side.at = most_rising m side.at within in
        walked-round act s ring true next m
        ∙ ap (λ (n : ℕ). run act s head (vertices_beyond ring true next n)) whole ∙ run-more act s ring true next (m - 1)
        ∙ ap (λ (c : ℕ). act around (get_or ring (corner_after true m next (m - 1)) 0) (get_or ring c 0))
        (after_more true m next (m - 1) ∙ ap (next_corner true m) most)
        ∙ ap (λ (c : ℕ). act around (get_or ring c 0) head) most
        ∙ ap (λ (x : State). act x tail head) rest
        ∙ (acting_acts surface base At has acts (length surface.mesh.faces)).back head tail s tt at,
  );
}
  where
    act : State → ℕ → ℕ → State
    act = act_fully surface base (λ f s. s)

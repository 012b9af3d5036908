-- What a search of the faces has reached, as it goes on.
use Rattle.free_forms.proofs.Common.{number_once, HasPartner, IsAlone, partner_or_alone, partners_by_number, alone_in_edge, partner_back, NoEdgeHasThreeSides, EndsOutside, SearchView, IsFaceReached, IsParentSearch, Grows, NeighboursReached, IsClosedUpTo, IsStartedUpTo, with_side, parent_in, bit, ◌≡◌, ◌≢◌, ◌⊎◌, inl, inr, ℕ, zero, suc, ◌+◌, ◌<◌, ◌≤◌, Bool, true, false, List, [], ◌∷◌, ◌++◌, length, get_or, set, refl, ap, sym, ◌∙◌, subst, arith, length-append, cases_Bool, cases_eq, cases_lt, common_steps, length-set, get_or-set_same, get_or-set_other, sum_by-set, sum_by-cons, get_or_from_slice_get, sum_by, cond, Some, slice_get, IsSideOfEdge, side_of_edge, table_edge, IsSide, side_number, Edge, IsTableOf, edge_in, FaceList, face_at, ArePartners, Side}
use Rattle.surf_model.specs.EdgeDarts.{IsNextInEdge}

-- only faces of the mesh are reached
pub reached_below : {mesh : FaceList} {search : SearchView} (f : ℕ) → IsParentSearch mesh search → IsFaceReached search f
    → f < length mesh.faces
reached_below {search} f h is = grind (arith, common_steps)

few_bits : (marks : List Bool) → sum_by bit marks ≤ length marks
few_bits [] = omega arith
few_bits (true ∷ marks) = omega (arith, few_bits marks, sum_by-cons bit true marks)
few_bits (false ∷ marks) = omega (arith, few_bits marks, sum_by-cons bit false marks)

-- no more faces are reached than there are
pub few_reached : {mesh : FaceList} {search : SearchView} → IsParentSearch mesh search → length search.order ≤ length mesh.faces
few_reached {search} h = omega (arith, h.counted, h.each_mark, few_bits search.reached)

pub grows_refl : (search : SearchView) → Grows search search
grows_refl search = record { more = omega arith; order = λ j l. refl; reached = λ f is. is }

pub grows_trans : {one two three : SearchView} → Grows one two → Grows two three → Grows one three
grows_trans h k = grind arith

-- what a search is once a side has been reached
pub record IsMoreBy (mesh : FaceList) (old new : SearchView) (side : Side) : Type 0 where
  pub search : IsParentSearch mesh new
  pub grows : Grows old new
  pub reached : IsFaceReached new side.face.0

-- the search with a face that was not reached before
abbrev with_new : SearchView → Side → SearchView
with_new search side = record {
  order = search.order ++ side.face.0 ∷ [];
  reached = set search.reached side.face.0 true;
  places = set search.places side.face.0 side.at;
}

by_mark : (search : SearchView) (side : Side) (b : Bool) → get_or search.reached side.face.0 false ≡ b
    → with_side search side ≡ cond b search (with_new search side)
by_mark search side b e = ap (λ (c : Bool). cond c search (with_new search side)) e

-- the last entry of a longer list, and the others
last_entry : (xs : List ℕ) (x : ℕ) → get_or (xs ++ x ∷ []) (length xs) 0 ≡ x
last_entry xs x = grind (arith, common_steps)

new_reached : {mesh : FaceList} {old : SearchView} (side : Side) → IsParentSearch mesh old → side.face.0 < length mesh.faces
    → IsFaceReached (with_new old side) side.face.0
new_reached {old} side h l = get_or-set_same old.reached side.face.0 true false (omega (arith, h.each_mark, l))

stays_reached : (old : SearchView) (side : Side) (f : ℕ) → IsFaceReached old f → get_or old.reached side.face.0 false ≡ false
    → IsFaceReached (with_new old side) f
stays_reached old side f is not = grind (arith, common_steps)

was_reached : (old : SearchView) (side : Side) (f : ℕ) → f ≢ side.face.0 → IsFaceReached (with_new old side) f → IsFaceReached old f
was_reached old side f other is = sym (get_or-set_other old.reached side.face.0 f true false other) ∙ is

new_grows : (old : SearchView) (side : Side) → get_or old.reached side.face.0 false ≡ false → Grows old (with_new old side)
new_grows old side not = grind (arith, common_steps, stays_reached)

new_search : {mesh : FaceList} {old : SearchView} {side : Side} → IsParentSearch mesh old → IsSide mesh side
    → ((other : Side) → ArePartners mesh side other → IsFaceReached old other.face.0) → get_or old.reached side.face.0 false ≡ false
    → IsParentSearch mesh (with_new old side)
new_search {mesh} {old} {side} h is before not =
    let f : ℕ = side.face.0 in
    let new : SearchView = with_new old side in
    let n : ℕ = length old.order in
    let long : length new.order ≡ n + 1 = length-append old.order (f ∷ []) in
    let grows : Grows old new = new_grows old side not in
    let apart : (g : ℕ) → IsFaceReached old g → g ≢ f = λ g reached same.
    (let this : get_or old.reached f false ≡ true = ap (λ (x : ℕ). get_or old.reached x false) (sym same) ∙ reached in
    cc) in
    let place : (g : ℕ) → g ≢ f → get_or new.places g 0 ≡ get_or old.places g 0 =
    λ g other. get_or-set_other old.places f g side.at 0 other in
    let here : get_or new.places f 0 ≡ side.at = get_or-set_same old.places f side.at 0 (omega (arith, h.each_place, is.face)) in
    record {
      each_place = length-set old.places f side.at ∙ h.each_place;
      each_mark = length-set old.reached f true ∙ h.each_mark;
      counted =
          (let more : sum_by bit new.reached + bit (get_or old.reached f false) ≡ sum_by bit old.reached + 1 =
          sum_by-set bit old.reached f true false (omega (arith, h.each_mark, is.face)) in
          let none : bit (get_or old.reached f false) ≡ 0 = ap bit not in
          omega (arith, more, none, h.counted, long));
      in_order = λ g reached. elim (cases_eq g f) [
        | inl same ↦ (n, omega (arith, long), last_entry old.order f ∙ sym same)
        | inr other ↦
            (let at = h.in_order g (was_reached old side g other reached) in
            (at.0, omega (arith, at.1, long), grows.order at.0 at.1 ∙ at.2))
      ];
      in_marks = λ j l. elim (cases_lt j n) [
        | inl less ↦ subst (IsFaceReached new) (sym (grows.order j less)) (grows.reached (get_or old.order j 0) (h.in_marks j less))
        | inr more ↦
            (let last : n ≡ j = omega (arith, l, more, long) in
            subst (λ (k : ℕ). IsFaceReached new (get_or new.order k 0)) last
            (subst (IsFaceReached new) (sym (last_entry old.order f)) (new_reached side h is.face)))
      ];
      within = λ g reached. elim (cases_eq g f) [
        | inl same ↦
            subst (λ (x : ℕ). get_or new.places x 0 < length (face_at mesh x)) (sym same)
            (subst (λ (x : ℕ). x < length (face_at mesh f)) (sym here) is.place)
        | inr other ↦
            subst (λ (x : ℕ). x < length (face_at mesh g)) (sym (place g other)) (h.within g (was_reached old side g other reached))
      ];
      falls = λ j other l partners. elim (cases_lt j n) [
        | inl less ↦
            (let g : ℕ = get_or old.order j 0 in
            let same : parent_in mesh new (get_or new.order j 0) ≡ parent_in mesh old g =
            ap (λ (x : ℕ). parent_in mesh new x) (grows.order j less)
            ∙ ap (λ (x : ℕ). named g x) (place g (apart g (h.in_marks j less))) in
            let at = h.falls j other less (subst (λ (s : Side). ArePartners mesh s other) same partners) in
            (at.0, at.1, grows.order at.0 (omega (arith, at.1, less)) ∙ at.2))
        | inr more ↦
            (let last : j ≡ n = omega (arith, l, more, long) in
            let same : parent_in mesh new (get_or new.order j 0) ≡ side = ap (λ (x : ℕ). parent_in mesh new (get_or new.order x 0)) last
            ∙ ap (λ (x : ℕ). parent_in mesh new x) (last_entry old.order f) ∙ ap (λ (x : ℕ). named f x) here in
            let at = h.in_order other.face.0 (before other (subst (λ (s : Side). ArePartners mesh s other) same partners)) in
            (at.0, omega (arith, at.1, last), grows.order at.0 at.1 ∙ at.2))
      ];
    }
  where
    named : ℕ → ℕ → Side
    named f t = record { face = record { 0 = f }; at = t }

-- a side is reached whose partners lie in faces that were reached before
pub search_more : {mesh : FaceList} {old : SearchView} (new : SearchView) {side : Side} → IsParentSearch mesh old → IsSide mesh side
    → ((other : Side) → ArePartners mesh side other → IsFaceReached old other.face.0) → new ≡ with_side old side
    → IsMoreBy mesh old new side
search_more {mesh} {old} new {side} h is before new_is =
    subst (λ (s : SearchView). IsMoreBy mesh old s side) (sym new_is) (elim (cases_Bool (get_or old.reached side.face.0 false)) [
      | inl marked ↦ grind (arith, by_mark, grows_refl)
      | inr not ↦
          subst (λ (s : SearchView). IsMoreBy mesh old s side) (sym (by_mark old side false not)) (record {
            search = new_search h is before not;
            grows = new_grows old side not;
            reached = new_reached side h is.face;
          })
    ])

pub neighbours_stay : (mesh : FaceList) {old new : SearchView} (f n : ℕ) → Grows old new → NeighboursReached mesh old f n
    → NeighboursReached mesh new f n
neighbours_stay mesh f n grows h t other l few partners = grows.reached other.face.0 (h t other l few partners)

pub started_stay : (table : List Edge) {old new : SearchView} (n : ℕ) → Grows old new → IsStartedUpTo table old n
    → IsStartedUpTo table new n
started_stay table n grows h k d l few one = grows.reached _ (h k d l few one)

-- crossing parents goes down the order, so it ends
ends_outside : {mesh : FaceList} {search : SearchView} (n j : ℕ) → IsParentSearch mesh search → j < n → j < length search.order
    → EndsOutside (record { mesh = mesh; places = search.places }) n (get_or search.order j 0)
ends_outside zero j h l few = absurd (omega arith)
ends_outside {mesh} {search} (suc n) j h l few = λ other partners.
    let at = h.falls j other few partners in
    subst (EndsOutside (record { mesh = mesh; places = search.places }) n) at.2
    (ends_outside n at.0 h (omega (arith, l, at.1)) (omega (arith, few, at.1)))

pub all_end_outside : {mesh : FaceList} {search : SearchView} (f : ℕ) → IsParentSearch mesh search → IsFaceReached search f
    → EndsOutside (record { mesh = mesh; places = search.places }) (length mesh.faces) f
all_end_outside {mesh} {search} f h is = grind (arith, ends_outside, few_reached)

-- the first side of an edge of the table that has one is alone, and of the mesh
record IsFirstSide (mesh : FaceList) (table : List Edge) (k : ℕ) (side : Side) : Type 0 where
  side_of : IsSide mesh side
  alone : IsAlone mesh side

first_side : {mesh : FaceList} {table : List Edge} (k : ℕ) (side : Side) → IsTableOf mesh table → k < length table
    → length (edge_in table k).sides ≡ 1 → slice_get (edge_in table k).sides 0 ≡ Some side → IsFirstSide mesh table k side
first_side {mesh} {table} k side h l one is =
    let edge : Edge = edge_in table k in
    let here : get_or edge.sides 0 side ≡ side = get_or_from_slice_get edge.sides 0 side side is in
    let stands : IsSideOfEdge mesh edge (get_or edge.sides 0 side) =
    side_of_edge mesh edge 0 side (table_edge mesh table k h l) (omega arith) in grind (arith, alone_in_edge)

pub side_of_one : {mesh : FaceList} {table : List Edge} (k : ℕ) (side : Side) → IsTableOf mesh table → k < length table
    → length (edge_in table k).sides ≡ 1 → slice_get (edge_in table k).sides 0 ≡ Some side → IsSide mesh side
side_of_one k side h l one is = (first_side k side h l one is).side_of

-- the search that has started on the boundary edges up to edge n
pub record HasStarted (mesh : FaceList) (table : List Edge) (search : SearchView) (n : ℕ) : Type 0 where
  pub search_of : IsParentSearch mesh search
  pub started : IsStartedUpTo table search n

started_more : (table : List Edge) (search : SearchView) (k : ℕ)
    → ((d : Side) → k < length table → length (edge_in table k).sides ≡ 1
    → IsFaceReached search (get_or (edge_in table k).sides 0 d).face.0)
    → IsStartedUpTo table search k → IsStartedUpTo table search (k + 1)
started_more table search k here h j d l few one = grind arith

pub start_more : {mesh : FaceList} {table : List Edge} {old : SearchView} (new : SearchView) {k : ℕ} (side : Side) → IsTableOf mesh table
    → k < length table → length (edge_in table k).sides ≡ 1 → slice_get (edge_in table k).sides 0 ≡ Some side
    → HasStarted mesh table old k → new ≡ with_side old side → HasStarted mesh table new (k + 1)
start_more {mesh} {table} {old} new {k} side h l one is from new_is =
    let first : IsFirstSide mesh table k side = first_side k side h l one is in
    let more : IsMoreBy mesh old new side =
    search_more new from.search_of first.side_of (λ other partners. absurd (first.alone other partners)) new_is in
    record {
      search_of = more.search;
      started = grind (arith, started_more, get_or_from_slice_get, started_stay);
    }

pub start_other : {mesh : FaceList} {table : List Edge} {search : SearchView} {k : ℕ} → length (edge_in table k).sides ≢ 1
    → HasStarted mesh table search k → HasStarted mesh table search (k + 1)
start_other {table} {search} {k} other from = grind (arith, started_more)

-- the search that has gone on from the first sides of a face, up to place n
pub record HasSpread (mesh : FaceList) (first search : SearchView) (f n : ℕ) : Type 0 where
  pub search_of : IsParentSearch mesh search
  pub grows : Grows first search
  pub reached : NeighboursReached mesh search f n

pub spread_more : {mesh : FaceList} {table : List Edge} {first old : SearchView} (new : SearchView) {f t dart next : ℕ} {other : Side}
    → IsTableOf mesh table → NoEdgeHasThreeSides mesh → f < length mesh.faces → t < length (face_at mesh f) → IsFaceReached first f
    → dart ≡ side_number mesh (record { face = record { 0 = f }; at = t }) → IsNextInEdge mesh table dart next
    → IsSide mesh other → side_number mesh other ≡ next
    → HasSpread mesh first old f t → new ≡ with_side old other → HasSpread mesh first new f (t + 1)
spread_more {mesh} {table} {old} new {f} {t} {dart} {next} {other} h few l place reached number follows is other_is from new_is =
    let side : Side = record { face = record { 0 = f }; at = t } in
    let is_side : IsSide mesh side = record { face = l; place = place } in
    let found : HasPartner mesh side next ⊎ ((next ≡ dart) × IsAlone mesh side) =
    partner_or_alone mesh table side dart next h few is_side number follows in
    let more : IsMoreBy mesh old new other = elim found [
      | inl partner ↦
          search_more new from.search_of is (λ back partners. subst (λ (s : Side). IsFaceReached old s.face.0)
          (sym (partner_back mesh side other back next partner (partners_by_number mesh side other next partner is other_is) partners))
          (from.grows.reached f reached)) new_is
      | inr alone ↦
          (let same : other ≡ side = number_once mesh other side is is_side (other_is ∙ alone.0 ∙ number) in
          search_more new from.search_of is
          (λ back partners. absurd (alone.1 back (subst (λ (s : Side). ArePartners mesh s back) same partners))) new_is)
    ] in
    let here : (partner : Side) → ArePartners mesh side partner → IsFaceReached new partner.face.0 = λ partner partners. elim found [
      | inl has ↦
          (let this : other ≡ partner =
          has.only other (partners_by_number mesh side other next has is other_is) ∙ sym (has.only partner partners) in
          subst (λ (s : Side). IsFaceReached new s.face.0) this more.reached)
      | inr alone ↦ absurd (alone.1 partner partners)
    ] in
    record {
      search_of = more.search;
      grows = grows_trans from.grows more.grows;
      reached = λ s partner less within partners. grind arith;
    }

-- the faces that have been gone on from are one more
pub closed_more : (mesh : FaceList) {old new : SearchView} (at : ℕ) → at < length old.order → Grows old new
    → NeighboursReached mesh new (get_or old.order at 0) (length (face_at mesh (get_or old.order at 0)))
    → IsClosedUpTo mesh old at → IsClosedUpTo mesh new (at + 1)
closed_more mesh {old} {new} at l grows here closed j less few = grind (arith, neighbours_stay)

-- Each mesh has components, and there is one way alone to name them in order.
use Rattle.closed_surfaces.proofs.Common.{corner_used, ◌≡◌, ◌⊎◌, inl, inr, ℕ, zero, suc, ◌+◌, ◌<◌, ◌≤◌, Bool, true, eqb, List, [], ◌∷◌, length, get_or, refl, ap, sym, ◌∙◌, subst, arith, add-one, cases_Bool, cases_eq, cases_order, length-map, get_or-map, All-head, All-tail, length-range_with_len, get_or-range_with_len, length-map-range_with_len, get_or-map-range_with_len, range_with_len, All, filter, map, max, min, some_table, PartsView, AreParts, component_mesh, ArePlacesOfComponents, IsLeastOfComponent, HasLeastVertex, place_of_face, faces_of_component, Edge, IsTableOf, edge_in, FaceList, IsFaceList, IsFace, face_at, is_used, submesh}
use Rattle.connectivity.proofs.ComponentLemmas.{JoinsEdgesUpTo, edges_none, edges_more, edges_all}
use Rattle.connectivity.proofs.EdgeLemmas.{ends_below}
use Rattle.connectivity.proofs.Joining.{least_range}
use Rattle.connectivity.specs.Classes.{AreLeastMembers, joined_at, renamed}
use Rattle.manifold_check.proofs.NumberLemmas.{AreLeasts, AreNumbered, numbered_none, numbered_first, numbered_later, numbered_unused, places_of_components}
use Rattle.std.proofs.lemmas.Bool.Decides.{nat_tests}

-- ---- there are components

-- what a join of two classes leaves
lesser_renamed : (a b x : ℕ) → renamed (max a b) (min a b) x ≤ x
lesser_renamed a b x = grind (arith, nat_tests)

one_of_three : (a b x : ℕ) → (renamed (max a b) (min a b) x ≡ a) ⊎
    ((renamed (max a b) (min a b) x ≡ b) ⊎ (renamed (max a b) (min a b) x ≡ x))
one_of_three a b x = grind (arith, nat_tests)

renamed_twice : (a b x : ℕ) → renamed (max a b) (min a b) (renamed (max a b) (min a b) x) ≡ renamed (max a b) (min a b) x
renamed_twice a b x = grind (arith, nat_tests)

-- the least members of joined classes are least members
members_joined : (least : List ℕ) (x y : ℕ) → x < length least → y < length least → AreLeastMembers least
    → AreLeastMembers (joined_at least x y)
members_joined least x y l k h =
    record {
      lesser = λ z w. omega (arith, at z (inside z w), lesser_renamed a b (get_or least z 0), h.lesser z (inside z w));
      itself = λ z w.
          let here : get_or (joined_at least x y) z 0 ≡ r z = at z (inside z w) in
          let within : r z < length least =
          omega (arith, lesser_renamed a b (get_or least z 0), h.lesser z (inside z w), inside z w) in
          ap (λ n. get_or (joined_at least x y) n 0) here ∙ at (r z) within ∙ ap (renamed (max a b) (min a b)) (fixed z (inside z w))
          ∙ renamed_twice a b (get_or least z 0) ∙ sym here;
    }
  where
    a : ℕ
    a = get_or least x 0

    b : ℕ
    b = get_or least y 0

    r : ℕ → ℕ
    r z = renamed (max (get_or least x 0) (get_or least y 0)) (min (get_or least x 0) (get_or least y 0)) (get_or least z 0)

    inside : (z : ℕ) → z < length (joined_at least x y) → z < length least
    inside z w = omega (
      arith,
      w,
      length-map least
          (renamed (max (get_or least x 0) (get_or least y 0)) (min (get_or least x 0) (get_or least y 0))),
    )

    at : (z : ℕ) → z < length least → get_or (joined_at least x y) z 0 ≡ r z
    at z w = get_or-map (renamed (max (get_or least x 0) (get_or least y 0)) (min (get_or least x 0) (get_or least y 0))) least z 0 0 w

    fixed : (z : ℕ) → z < length least → get_or least (r z) 0 ≡ r z
    fixed z w = elim (one_of_three (get_or least x 0) (get_or least y 0) (get_or least z 0)) [
      | inl e ↦ ap (λ n. get_or least n 0) e ∙ h.itself x l ∙ sym e
      | inr rest ↦ elim rest [
        | inl e ↦ ap (λ n. get_or least n 0) e ∙ h.itself y k ∙ sym e
        | inr e ↦ ap (λ n. get_or least n 0) e ∙ h.itself z w ∙ sym e
      ]
    ]

-- for each vertex its least, along the first k edges
record HasLeasts (mesh : FaceList) (table : List Edge) (k : ℕ) : Type 0 where
  least : List ℕ
  upto : JoinsEdgesUpTo mesh table least k
  members : AreLeastMembers least

leasts_upto : (mesh : FaceList) (table : List Edge) → IsFaceList mesh → IsTableOf mesh table → (k : ℕ) → k ≤ length table
    → HasLeasts mesh table k
leasts_upto mesh table valid h zero l =
    record {
      least = range_with_len 0 mesh.count;
      upto = edges_none mesh table (range_with_len 0 mesh.count) refl;
      members = least_range mesh.count;
    }
leasts_upto mesh table valid h (suc k) l =
    let before : HasLeasts mesh table k = leasts_upto mesh table valid h k (omega arith) in
    let below = ends_below mesh table k valid h (omega arith) in
    record {
      least = joined_at before.least (edge_in table k).low (edge_in table k).high;
      upto = subst (JoinsEdgesUpTo mesh table (joined_at before.least (edge_in table k).low (edge_in table k).high)) (add-one k)
          (edges_more mesh table before.least k (edge_in table k).low (edge_in table k).high valid h (omega arith) refl refl before.upto);
      members = members_joined before.least (edge_in table k).low (edge_in table k).high (omega (arith, before.upto.count, below.0))
          (omega (arith, before.upto.count, below.1)) before.members;
    }

-- the places of the first n vertices
record HasNumbers (mesh : FaceList) (least : List ℕ) (n : ℕ) : Type 0 where
  count : ℕ
  places : List ℕ
  numbered : AreNumbered mesh least n count places

numbers_upto : (mesh : FaceList) (least : List ℕ) → AreLeasts mesh least → (n : ℕ) → HasNumbers mesh least n
numbers_upto mesh least h zero = record { count = 0; places = []; numbered = numbered_none mesh least }
numbers_upto mesh least h (suc n) =
    let before : HasNumbers mesh least n = numbers_upto mesh least h n in
    elim (cases_Bool (is_used mesh n)) [
      | inl used ↦ elim (cases_eq (get_or least n 0) n) [
        | inl same ↦ more (before.count + 1) _ (numbered_first mesh least n before.count before.places before.numbered used same)
        | inr other ↦ more before.count _ (numbered_later mesh least n before.count before.places h before.numbered used other)
      ]
      | inr unused ↦ more before.count _ (numbered_unused mesh least n before.count 0 before.places before.numbered unused)
    ]
  where
    more : (count : ℕ) (places : List ℕ) → AreNumbered mesh least (n + 1) count places → HasNumbers mesh least (suc n)
    more count places is =
        record { count = count; places = places; numbered = subst (λ m. AreNumbered mesh least m count places) (add-one n) is }

pub some_parts : (mesh : FaceList) → IsFaceList mesh → (parts : PartsView) × AreParts mesh parts
some_parts mesh valid =
    let table = some_table mesh valid in
    let found : HasLeasts mesh table.0 (length table.0) = leasts_upto mesh table.0 valid table.1 (length table.0) (omega arith) in
    let leasts : AreLeasts mesh found.least =
    record {
      valid = valid;
      components = edges_all mesh table.0 found.least (length table.0) table.1 (omega arith) found.upto;
      members = found.members;
      count = found.upto.count;
    } in
    let numbers : HasNumbers mesh found.least mesh.count = numbers_upto mesh found.least leasts mesh.count in
    let is : ArePlacesOfComponents mesh numbers.count numbers.places =
    places_of_components mesh found.least numbers.count numbers.places leasts numbers.numbered in
    from_places mesh numbers.count numbers.places is
  where
    from_places : (mesh : FaceList) (count : ℕ) (places : List ℕ) → ArePlacesOfComponents mesh count places
        → (parts : PartsView) × AreParts mesh parts
    from_places mesh count places is =
        let all : List (List ℕ) = map (faces_of_component mesh places) (range_with_len 0 count) in
        let many : length all ≡ count = length-map-range_with_len (faces_of_component mesh places) 0 count in (
          record { components = all; places = places },
          record {
            places = subst (λ n. ArePlacesOfComponents mesh n places) (sym many) is;
            faces = λ k l. get_or-map-range_with_len (faces_of_component mesh places) 0 count k k [] (omega (arith, l, many)) (omega arith);
          },
        )

-- ---- and one way to name them

-- where the lesser least vertices have one place each, the next one has no lesser place in the one list than in the other
not_less : (mesh : FaceList) (n m : ℕ) (one other : List ℕ) (v : ℕ) → ArePlacesOfComponents mesh n one
    → ArePlacesOfComponents mesh m other → IsLeastOfComponent mesh v
    → ((w : ℕ) → w < v → IsLeastOfComponent mesh w → get_or one w 0 ≡ get_or other w 0) → get_or one v 0 < get_or other v 0 → ⊥
not_less mesh n m one other v h k least before less =
    let found : HasLeastVertex mesh other (get_or one v 0) =
    k.each_place (get_or one v 0) (omega (arith, less, k.below v least.used)) in
    elim (cases_order found.vertex v) [
      | inl same ↦ omega (arith, less, found.place, ap (λ w. get_or other w 0) same)
      | inr rest ↦ elim rest [
        | inl earlier ↦
            omega (arith, before found.vertex earlier found.least, found.place, h.in_order found.vertex v found.least least earlier)
        | inr later ↦ omega (arith, less, found.place, k.in_order v found.vertex least found.least later)
      ]
    ]

same_leasts : (mesh : FaceList) (n m : ℕ) (one other : List ℕ) → ArePlacesOfComponents mesh n one → ArePlacesOfComponents mesh m other
    → (bound v : ℕ) → v < bound → IsLeastOfComponent mesh v → get_or one v 0 ≡ get_or other v 0
same_leasts mesh n m one other h k zero v l least = absurd (omega arith)
same_leasts mesh n m one other h k (suc bound) v l least =
    let before : (w : ℕ) → w < v → IsLeastOfComponent mesh w → get_or one w 0 ≡ get_or other w 0 =
    λ w less is. same_leasts mesh n m one other h k bound w (omega (arith, l, less)) is in
    elim (cases_order (get_or one v 0) (get_or other v 0)) [
      | inl same ↦ same
      | inr rest ↦ elim rest [
        | inl less ↦ absurd (not_less mesh n m one other v h k least before less)
        | inr more ↦ absurd (not_less mesh m n other one v k h least (λ w less is. sym (before w less is)) more)
      ]
    ]

-- each used vertex has one place
pub same_places : (mesh : FaceList) (n m : ℕ) (one other : List ℕ) → ArePlacesOfComponents mesh n one
    → ArePlacesOfComponents mesh m other → (v : ℕ) → is_used mesh v ≡ true → get_or one v 0 ≡ get_or other v 0
same_places mesh n m one other h k v used =
    let found : HasLeastVertex mesh one (get_or one v 0) = h.each_place (get_or one v 0) (h.below v used) in
    let first : ℕ = found.vertex in
    let together : get_or other first 0 ≡ get_or other v 0 =
    (k.joined first v found.least.used used).1 ((h.joined first v found.least.used used).0 found.place) in
    sym found.place ∙ same_leasts mesh n m one other h k (suc first) first (omega arith) found.least ∙ together

-- and there are as many
not_fewer : (mesh : FaceList) (n m : ℕ) (one other : List ℕ) → ArePlacesOfComponents mesh n one → ArePlacesOfComponents mesh m other
    → n < m → ⊥
not_fewer mesh n m one other h k less =
    let found : HasLeastVertex mesh other n = k.each_place n less in
    omega (arith, h.below found.vertex found.least.used, found.place, same_places mesh n m one other h k found.vertex found.least.used)

pub same_count : (mesh : FaceList) (n m : ℕ) (one other : List ℕ) → ArePlacesOfComponents mesh n one
    → ArePlacesOfComponents mesh m other → n ≡ m
same_count mesh n m one other h k = elim (cases_order n m) [
  | inl same ↦ same
  | inr rest ↦ elim rest [
    | inl less ↦ absurd (not_fewer mesh n m one other h k less)
    | inr more ↦ absurd (not_fewer mesh m n other one k h more)
  ]
]

filter_within : (p q : ℕ → Bool) (xs : List ℕ) → All (λ x. p x ≡ q x) xs → filter p xs ≡ filter q xs
filter_within p q [] h = refl
filter_within p q (x ∷ xs) h =
    rw (All-head (λ y. p y ≡ q y) x xs h, filter_within p q xs (All-tail (λ y. p y ≡ q y) x xs h)) refl

-- the components have the same faces
pub same_meshes : (mesh : FaceList) (one other : PartsView) (k : ℕ) → IsFaceList mesh → AreParts mesh one → AreParts mesh other
    → k < length one.components → component_mesh mesh one k ≡ component_mesh mesh other k
same_meshes mesh one other k valid h g l =
    let all : List ℕ = range_with_len 0 (length mesh.faces) in
    let alike : All (λ f. eqb (place_of_face mesh one.places f) k ≡ eqb (place_of_face mesh other.places f) k) all =
    λ i d few.
    let within : i < length mesh.faces = omega (arith, few, length-range_with_len 0 (length mesh.faces)) in
    let is : get_or all i d ≡ i = get_or-range_with_len 0 (length mesh.faces) i d within ∙ (let e : 0 + i ≡ i = omega arith in e) in
    subst (λ f. eqb (place_of_face mesh one.places f) k ≡ eqb (place_of_face mesh other.places f) k) (sym is)
    (ap (λ p. eqb p k) (placed i within)) in
    ap (submesh mesh)
    (h.faces k l ∙ filter_within (λ f. eqb (place_of_face mesh one.places f) k) (λ f. eqb (place_of_face mesh other.places f) k) all alike
    ∙ sym (g.faces k (omega (arith, l, same_count mesh _ _ one.places other.places h.places g.places))))
  where
    placed : (f : ℕ) → f < length mesh.faces → place_of_face mesh one.places f ≡ place_of_face mesh other.places f
    placed f within =
        let face : IsFace mesh.count (face_at mesh f) = valid.faces f [] within in
        same_places mesh _ _ one.places other.places h.places g.places (get_or (face_at mesh f) 0 0)
        (corner_used mesh (get_or (face_at mesh f) 0 0) (record { face = record { 0 = f }; at = 0 })
        (record { side = record { face = within; place = omega (arith, face.polygon) }; vertex = refl }))

-- A widened labelling is good: at the component it is the narrow one, elsewhere each edge meets the tree rule.
use Rattle.widening.proofs.Common.{HasShape, MeetsSomeRule, SidesMeetRule, IsGood, LabellingView, labels_at, label_at, signs_of, tail_label, head_label, IsOfComponent, face_same_place, IsPiece, IsRenamed, ComesFrom, HasPlaceAmong, renamed_side, renamed, comes_from, edge_of_side, face-submesh, length-submesh, partners_down, flipped_alike, ◌≡◌, ◌⊎◌, inl, inr, ℕ, ◌<◌, ◌≤◌, Bool, true, false, cond, List, [], length, get_or, replicate, refl, ap, sym, ◌∙◌, subst, arith, cases_eq, cases_lt, get_or-replicate, get_or_past, get_or_default, length-replicate, All, Contains, PartsView, AreParts, component_at, component_mesh, IsSide, side_after, tail_of, head_of, FaceList, IsFaceList, face_at, submesh, signs_among, ArePartners, IsClosedManifold, IsCoherent, RunOppositely, is_flipped, Side, IsWidened}
use Rattle.connectivity.proofs.CornerLemmas.{after_in_mesh}
use Rattle.surf_model.specs.Components.{place_of_face}
use Rattle.turn_words.specs.Modulo.{add}

-- a labelling of component `part` with the signs of the mesh, and the one that is widened from it
pub record Widening (mesh : FaceList) (parts : PartsView) (part : ℕ) (signs : List Bool) (narrow wide : LabellingView) : Type 0 where
  pub valid : IsFaceList mesh
  pub parts_of : AreParts mesh parts
  pub within : part < length parts.components
  pub closed : IsClosedManifold mesh
  pub coherent : IsCoherent mesh signs
  pub good : IsGood (component_mesh mesh parts part) narrow
  pub signs_are : signs_of narrow ≡ signs_among signs (component_at parts part)
  pub widened : IsWidened mesh signs (component_at parts part) narrow wide
  pub piece : IsPiece mesh (IsOfComponent parts.places part) (component_at parts part)

-- a side of the component has the same sign and the same labels under both
flipped_same : (names : List ℕ) (signs : List Bool) (narrow wide : LabellingView) (f : ℕ) → f < length names
    → signs_of narrow ≡ signs_among signs names → signs_of wide ≡ signs
    → is_flipped (signs_of narrow) f ≡ is_flipped (signs_of wide) (get_or names f 0)
flipped_same names signs narrow wide f l same all =
    ap (λ ss. is_flipped ss f) same ∙ flipped_alike names signs f l ∙ ap (λ ss. is_flipped ss (get_or names f 0)) (sym all)

pub record HasSameLabels (mesh : FaceList) (names : List ℕ) (narrow wide : LabellingView) (side : Side) : Type 0 where
  pub tail : tail_label (submesh mesh names) narrow side ≡ tail_label mesh wide (renamed_side names side)
  pub head : head_label (submesh mesh names) narrow side ≡ head_label mesh wide (renamed_side names side)

pub same_labels : (mesh : FaceList) (parts : PartsView) (part : ℕ) (signs : List Bool) (narrow wide : LabellingView) (side : Side)
    → Widening mesh parts part signs narrow wide → IsSide (component_mesh mesh parts part) side
    → HasSameLabels mesh (component_at parts part) narrow wide side
same_labels mesh parts part signs narrow wide side h is =
    let names : List ℕ = component_at parts part in
    let alone : FaceList = submesh mesh names in
    let r : IsRenamed mesh names side = renamed mesh (IsOfComponent parts.places part) names side h.piece is in
    let up : Side = renamed_side names side in
    let rows : labels_at narrow side.face.0 ≡ labels_at wide (get_or names side.face.0 0) = sym (h.widened.labels side.face.0 r.named) in
    let here : label_at narrow side ≡ label_at wide up = ap (λ (ls : List ℕ). get_or ls side.at 0) rows in
    let next : label_at narrow (side_after alone side) ≡ label_at wide (side_after mesh up) =
    ap (λ (ls : List ℕ). get_or ls (side_after alone side).at 0) rows ∙ ap (label_at wide) r.after in
    let flip : is_flipped (signs_of narrow) side.face.0 ≡ is_flipped (signs_of wide) (get_or names side.face.0 0) =
    flipped_same names signs narrow wide side.face.0 r.named h.signs_are h.widened.all_signs in
    let b : Bool = is_flipped (signs_of wide) (get_or names side.face.0 0) in
    record {
      tail = ap (λ x. cond x (label_at narrow (side_after alone side)) (label_at narrow side)) flip
          ∙ ap (λ x. cond b x (label_at narrow side)) next ∙ ap (cond b (label_at wide (side_after mesh up))) here;
      head = ap (λ x. cond x (label_at narrow side) (label_at narrow (side_after alone side))) flip
          ∙ ap (λ x. cond b x (label_at narrow (side_after alone side))) here ∙ ap (cond b (label_at wide up)) next;
    }

zero_there : (n t : ℕ) → get_or {A = ℕ} (replicate {A = ℕ} n 0) t 0 ≡ 0
zero_there n t = elim (cases_lt t n) [
  | inl less ↦ get_or-replicate n t 0 0 less
  | inr le ↦ get_or_past (replicate n 0) t 0 (omega (arith, le, length-replicate {A = ℕ} n 0))
]

-- a face of another component has no place among these
not_named : (mesh : FaceList) (parts : PartsView) (part f : ℕ) → IsFaceList mesh → AreParts mesh parts
    → IsPiece mesh (IsOfComponent parts.places part) (component_at parts part) → f < length mesh.faces
    → (place_of_face mesh parts.places f ≡ part → ⊥) → Contains (component_at parts part) f → ⊥
not_named mesh parts part f valid h piece l other has =
    let names : List ℕ = component_at parts part in
    let is : get_or names has.0 0 ≡ f = sym (get_or_default names has.0 f 0 has.1) ∙ has.2 in
    let some : 0 < length (face_at mesh (get_or names has.0 0)) =
    subst (λ g. 0 < length (face_at mesh g)) (sym is) (omega (arith, (valid.faces f [] l).polygon)) in
    other (ap (place_of_face mesh parts.places) (sym is) ∙ piece.corners has.0 0 has.1 some)

-- the labels of a face of the component, and of another one
pub record IsRowOf (mesh : FaceList) (names : List ℕ) (narrow wide : LabellingView) (f place : ℕ) : Type 0 where
  pub within : place < length names
  pub row : labels_at wide f ≡ labels_at narrow place
  pub face : face_at (submesh mesh names) place ≡ face_at mesh f

rows : (mesh : FaceList) (parts : PartsView) (part : ℕ) (signs : List Bool) (narrow wide : LabellingView) (f : ℕ)
    → Widening mesh parts part signs narrow wide → f < length mesh.faces
    → ((place : ℕ) × IsRowOf mesh (component_at parts part) narrow wide f place)
    ⊎ (labels_at wide f ≡ replicate (length (face_at mesh f)) 0)
rows mesh parts part signs narrow wide f h l =
    let names : List ℕ = component_at parts part in
    elim (cases_eq (place_of_face mesh parts.places f) part) [
      | inl inside ↦
          (let some : 0 < length (face_at mesh f) = omega (arith, (h.valid.faces f [] l).polygon) in
          let found : HasPlaceAmong names f = h.piece.all f 0 l some inside in
          inl (
            found.place,
            record {
              within = found.within;
              row = ap (labels_at wide) (sym found.named) ∙ h.widened.labels found.place found.within;
              face = face-submesh mesh names found.place found.within ∙ ap (face_at mesh) found.named;
            },
          ))
      | inr outside ↦ inr (h.widened.others f l (not_named mesh parts part f h.valid h.parts_of h.piece l outside))
    ]

-- the labels of a side of another component
zero_labels : (mesh : FaceList) (parts : PartsView) (part : ℕ) (signs : List Bool) (narrow wide : LabellingView) (side : Side)
    → Widening mesh parts part signs narrow wide → IsSide mesh side → (place_of_face mesh parts.places side.face.0 ≡ part → ⊥)
    → (tail_label mesh wide side ≡ 0) × (head_label mesh wide side ≡ 0)
zero_labels mesh parts part signs narrow wide side h is outside =
    let f : ℕ = side.face.0 in
    let n : ℕ = length (face_at mesh f) in
    let row : labels_at wide f ≡ replicate n 0 =
    h.widened.others f is.face (not_named mesh parts part f h.valid h.parts_of h.piece is.face outside) in
    let at : (t : ℕ) → get_or (labels_at wide f) t 0 ≡ 0 = λ t. ap (λ (ls : List ℕ). get_or ls t 0) row ∙ zero_there n t in
    let either : (b : Bool) (x y : ℕ) → x ≡ 0 → y ≡ 0 → cond b x y ≡ 0 = one_of in (
      either (is_flipped (signs_of wide) f) (label_at wide (side_after mesh side)) (label_at wide side) (at (side_after mesh side).at)
          (at side.at),
      either (is_flipped (signs_of wide) f) (label_at wide side) (label_at wide (side_after mesh side)) (at side.at)
          (at (side_after mesh side).at),
    )
  where
    one_of : (b : Bool) (x y : ℕ) → x ≡ 0 → y ≡ 0 → cond b x y ≡ 0
    one_of true x y p q = p
    one_of false x y p q = q

shape_kept : (mesh : FaceList) (parts : PartsView) (part : ℕ) (signs : List Bool) (narrow wide : LabellingView)
    → Widening mesh parts part signs narrow wide → HasShape mesh wide
shape_kept mesh parts part signs narrow wide h =
    let names : List ℕ = component_at parts part in
    let some : 0 < narrow.degree = elim h.good.degree [ inl five ↦ omega (arith, five) | inr four ↦ omega (arith, four.0) ] in
    record {
      each_face = h.widened.each_face;
      each_corner = λ f l. elim (rows mesh parts part signs narrow wide f h l) [
        | inl found ↦ ap (λ (ls : List ℕ). length ls) found.1.row
            ∙ h.good.shape.each_corner found.0 (omega (arith, found.1.within, length-submesh mesh names))
            ∙ ap (λ (r : List ℕ). length r) found.1.face
        | inr zeros ↦ ap (λ (ls : List ℕ). length ls) zeros ∙ length-replicate {A = ℕ} (length (face_at mesh f)) 0
      ];
      each_spoke = ap (λ (ps : List ℕ). length ps) h.widened.places ∙ h.good.shape.each_spoke ∙ sym h.widened.degree;
      labels_below = λ f l. subst (λ d. All (λ label. label < d) (labels_at wide f)) (sym h.widened.degree)
          (elim (rows mesh parts part signs narrow wide f h l) [
            | inl found ↦ subst (All (λ label. label < narrow.degree)) (sym found.1.row)
                (h.good.shape.labels_below found.0 (omega (arith, found.1.within, length-submesh mesh names)))
            | inr zeros ↦ subst (All (λ label. label < narrow.degree)) (sym zeros)
                (λ t d b. omega (
                  arith,
                  some,
                  get_or-replicate (length (face_at mesh f)) t 0 d
                      (omega (arith, b, length-replicate {A = ℕ} (length (face_at mesh f)) 0)),
                ))
          ]);
      places_below = subst (λ d. All (λ place. place < d) wide.places) (sym h.widened.degree)
          (subst (All (λ place. place < narrow.degree)) (sym h.widened.places) h.good.shape.places_below);
    }

-- the rules on the degree and on the places speak of these alone
abbrev DegreeRule : ℕ → List ℕ → Type 0
DegreeRule degree places =
    (5 ≤ degree) ⊎ ((degree ≡ 4) × ((i : ℕ) → i < 4 → get_or places (add 4 i 1) 0 ≡ add 4 (get_or places i 0) 1))

abbrev PlaceRule : ℕ → List ℕ → Type 0
PlaceRule degree places = (i j : ℕ) → i < degree → j < degree → get_or places i 0 ≡ get_or places j 0 → i ≡ j

-- a rule of an edge, carried to equal labels
rule_alike : (ps qs : List ℕ) (a b c d x y z w : ℕ) → ps ≡ qs → a ≡ x → b ≡ y → c ≡ z → d ≡ w → MeetsSomeRule ps a b c d
    → MeetsSomeRule qs x y z w
rule_alike ps qs a b c d x y z w p e f g k rule =
    subst (λ s. MeetsSomeRule s x y z w) p (subst (λ t. MeetsSomeRule ps t y z w) e (subst (λ t. MeetsSomeRule ps a t z w) f
    (subst (λ t. MeetsSomeRule ps a b t w) g (subst (MeetsSomeRule ps a b c) k rule))))

-- the corners at both ends of a side are of the component of its face
ends_of_face : (mesh : FaceList) (parts : PartsView) (side : Side) → AreParts mesh parts → IsSide mesh side
    → (get_or parts.places (tail_of mesh side) 0 ≡ place_of_face mesh parts.places side.face.0)
    × (get_or parts.places (head_of mesh side) 0 ≡ place_of_face mesh parts.places side.face.0)
ends_of_face mesh parts side h is = (
  face_same_place mesh (length parts.components) parts.places side.face.0 side.at h.places is.face is.place,
  face_same_place mesh (length parts.components) parts.places side.face.0 (side_after mesh side).at h.places is.face
      (after_in_mesh mesh side is).place,
)

-- two sides of one edge lie in faces of one component
partners_together : (mesh : FaceList) (parts : PartsView) (side other : Side) → AreParts mesh parts → ArePartners mesh side other
    → place_of_face mesh parts.places other.face.0 ≡ place_of_face mesh parts.places side.face.0
partners_together mesh parts side other h p =
    let here = ends_of_face mesh parts side h p.first in
    let there = ends_of_face mesh parts other h p.second in
    elim p.one_edge [
      | inl e ↦ sym there.0 ∙ ap (λ v. get_or parts.places v 0) (sym e.0) ∙ here.0
      | inr e ↦ sym there.1 ∙ ap (λ v. get_or parts.places v 0) (sym e.0) ∙ here.0
    ]

rule_kept : (mesh : FaceList) (parts : PartsView) (part : ℕ) (signs : List Bool) (narrow wide : LabellingView) (side other : Side)
    → Widening mesh parts part signs narrow wide → ArePartners mesh side other
    → MeetsSomeRule wide.places (tail_label mesh wide side) (head_label mesh wide side) (tail_label mesh wide other)
    (head_label mesh wide other)
rule_kept mesh parts part signs narrow wide side other h p =
    let names : List ℕ = component_at parts part in
    let Inside : ℕ → Type 0 = IsOfComponent parts.places part in
    elim (cases_eq (place_of_face mesh parts.places side.face.0) part) [
      | inl here ↦
          (let from : ComesFrom mesh names side =
          comes_from mesh Inside names side h.piece p.first ((ends_of_face mesh parts side h.parts_of p.first).0 ∙ here) in
          let too : ComesFrom mesh names other =
          comes_from mesh Inside names other h.piece p.second
          ((ends_of_face mesh parts other h.parts_of p.second).0 ∙ partners_together mesh parts side other h.parts_of p ∙ here) in
          let alone : FaceList = submesh mesh names in
          let s : Side = from.side_there in
          let o : Side = too.side_there in
          let partners : ArePartners alone s o =
          partners_down mesh Inside names s o h.piece from.in_submesh too.in_submesh
          (subst (λ x. ArePartners mesh x (renamed_side names o)) (sym from.is) (subst (ArePartners mesh side) (sym too.is) p)) in
          let meets : SidesMeetRule alone narrow s o =
          (h.good.edges (tail_of alone s) (head_of alone s) (edge_of_side alone s from.in_submesh)).sides s o partners (inl (refl, refl)) in
          let one : HasSameLabels mesh names narrow wide s = same_labels mesh parts part signs narrow wide s h from.in_submesh in
          let two : HasSameLabels mesh names narrow wide o = same_labels mesh parts part signs narrow wide o h too.in_submesh in
          rule_alike narrow.places wide.places _ _ _ _ _ _ _ _ (sym h.widened.places)
          (one.tail ∙ ap (tail_label mesh wide) from.is) (one.head ∙ ap (head_label mesh wide) from.is)
          (two.tail ∙ ap (tail_label mesh wide) too.is) (two.head ∙ ap (head_label mesh wide) too.is) meets.rule)
      | inr outside ↦
          (let one = zero_labels mesh parts part signs narrow wide side h p.first outside in
          let two = zero_labels mesh parts part signs narrow wide other h p.second
          (λ is. outside (sym (partners_together mesh parts side other h.parts_of p) ∙ is)) in
          inl (one.0 ∙ sym one.1, two.0 ∙ sym two.1))
    ]

pub good_widened : (mesh : FaceList) (parts : PartsView) (part : ℕ) (signs : List Bool) (narrow wide : LabellingView)
    → Widening mesh parts part signs narrow wide → IsGood mesh wide
good_widened mesh parts part signs narrow wide h =
    let degree : DegreeRule wide.degree wide.places =
    subst (λ d. DegreeRule d wide.places) (sym h.widened.degree) (subst (DegreeRule narrow.degree) (sym h.widened.places) h.good.degree) in
    let places : PlaceRule wide.degree wide.places =
    subst (λ d. PlaceRule d wide.places) (sym h.widened.degree) (subst (PlaceRule narrow.degree) (sym h.widened.places) h.good.places) in
    record {
      shape = shape_kept mesh parts part signs narrow wide h;
      degree = degree;
      places = places;
      edges = λ u v is. record {
        two_sides = h.closed.two_sides u v is;
        sides = λ side other p joins. record {
          opposite = subst (λ ss. RunOppositely mesh ss side other) (sym h.widened.all_signs) (h.coherent.opposite side other p);
          rule = rule_kept mesh parts part signs narrow wide side other h p;
        };
      };
    }

-- A labelling is widened face by face, in the order of the mesh.
use Rattle.widening.proofs.Common.{FaceLabels, LabellingView, labels_at, signs_of, IsPiece, ◌≡◌, inl, inr, ℕ, ◌+◌, ◌<◌, ◌≤◌, Bool, false, List, [], ◌∷◌, ◌++◌, length, get_or, take, replicate, refl, ap, sym, ◌∙◌, subst, arith, cases_eq, cases_lt, get_or_append_left, get_or_push, get_or_default, length_push, map-append, take_more, take_all, Contains, FaceList, face_at, is_flipped, IsWidened}

-- the faces below n are widened, and `next` of those with names are among them
pub record IsWidenedUpTo (mesh : FaceList) (signs : List Bool) (names : List ℕ) (narrow : LabellingView) (n next : ℕ)
    (wide : LabellingView) : Type 0 where
  pub degree : wide.degree ≡ narrow.degree
  pub places : wide.places ≡ []
  pub all_signs : signs_of wide ≡ take n signs
  pub each_face : length wide.faces ≡ n
  pub few : next ≤ length names
  pub passed : next ≤ n
  pub before : (f : ℕ) → f < next → get_or names f 0 < n
  pub behind : (f : ℕ) → next ≤ f → f < length names → n ≤ get_or names f 0
  pub labels : (f : ℕ) → f < next → labels_at wide (get_or names f 0) ≡ labels_at narrow f
  pub others : (f : ℕ) → f < n → (Contains names f → ⊥) → labels_at wide f ≡ replicate (length (face_at mesh f)) 0

-- the labelling with a face more
abbrev pub with_face : LabellingView → Bool → List ℕ → LabellingView
with_face wide flipped labels =
    record { degree = wide.degree; faces = wide.faces ++ (record { flipped = flipped; labels = labels }) ∷ []; places = wide.places }

row_before : (wide : LabellingView) (flipped : Bool) (labels : List ℕ) (f : ℕ) → f < length wide.faces
    → labels_at (with_face wide flipped labels) f ≡ labels_at wide f
row_before wide flipped labels f l =
    ap (λ (x : FaceLabels). x.labels) (get_or_append_left wide.faces ((record { flipped = flipped; labels = labels }) ∷ [])
    (record { flipped = false; labels = [] }) f l)

row_last : (wide : LabellingView) (flipped : Bool) (labels : List ℕ) (f : ℕ) → length wide.faces ≡ f
    → labels_at (with_face wide flipped labels) f ≡ labels
row_last wide flipped labels f is =
    ap (λ (x : FaceLabels). x.labels) (get_or_push wide.faces (record { flipped = flipped; labels = labels })
    (record { flipped = false; labels = [] }) f is)

signs_more : (signs : List Bool) (wide : LabellingView) (flipped : Bool) (labels : List ℕ) (n : ℕ) → n < length signs
    → signs_of wide ≡ take n signs → flipped ≡ is_flipped signs n → signs_of (with_face wide flipped labels) ≡ take (n + 1) signs
signs_more signs wide flipped labels n l so_far is =
    map-append (λ (x : FaceLabels). x.flipped) wide.faces ((record { flipped = flipped; labels = labels }) ∷ [])
    ∙ ap (λ (ss : List Bool). ss ++ flipped ∷ []) so_far ∙ ap (λ b. take n signs ++ b ∷ []) is ∙ sym (take_more signs n false l)

-- the labelling with these places
abbrev pub with_places : LabellingView → List ℕ → LabellingView
with_places wide places = record { degree = wide.degree; faces = wide.faces; places = places }

-- the next face is one with a name
pub widened_named : (mesh : FaceList) (Inside : ℕ → Type 0) (signs : List Bool) (names : List ℕ) (narrow wide : LabellingView) (n next : ℕ)
    (flipped : Bool) (labels : List ℕ) → IsPiece mesh Inside names → IsWidenedUpTo mesh signs names narrow n next wide → n < length signs
    → flipped ≡ is_flipped signs n → next < length names → get_or names next 0 ≡ n → labels ≡ labels_at narrow next
    → IsWidenedUpTo mesh signs names narrow (n + 1) (next + 1) (with_face wide flipped labels)
widened_named mesh Inside signs names narrow wide n next flipped labels piece h l flip few named is = record {
  degree = h.degree;
  places = h.places;
  all_signs = signs_more signs wide flipped labels n l h.all_signs flip;
  each_face = length_push wide.faces (record { flipped = flipped; labels = labels })
      ∙ ap (λ k. k + 1) h.each_face;
  few = omega arith;
  passed = omega (arith, h.passed);
  before = λ f b. elim (cases_lt f next) [
    | inl less ↦ omega (arith, h.before f less)
    | inr le ↦ (let same : f ≡ next = omega (arith, b, le) in omega (arith, ap (λ k. get_or names k 0) same, named))
  ];
  behind = λ f le b. omega (arith, named, piece.rising next f (omega arith) b);
  labels = λ f b. elim (cases_lt f next) [
    | inl less ↦ row_before wide flipped labels (get_or names f 0) (omega (arith, h.before f less, h.each_face)) ∙ h.labels f less
    | inr le ↦
        (let same : next ≡ f = omega (arith, b, le) in
        subst (λ k. labels_at (with_face wide flipped labels) (get_or names k 0) ≡ labels_at narrow k) same
        (row_last wide flipped labels (get_or names next 0) (h.each_face ∙ sym named) ∙ is))
  ];
  others = λ f b none. elim (cases_lt f n) [
    | inl less ↦ row_before wide flipped labels f (omega (arith, less, h.each_face)) ∙ h.others f less none
    | inr le ↦
        (let same : n ≡ f = omega (arith, b, le) in
        absurd (none (next, few, get_or_default names next f 0 few ∙ named ∙ same)))
  ];
}

-- the next face has no name
pub widened_other : (mesh : FaceList) (signs : List Bool) (names : List ℕ) (narrow wide : LabellingView) (n next : ℕ) (flipped : Bool)
    (labels : List ℕ) → IsWidenedUpTo mesh signs names narrow n next wide → n < length signs → flipped ≡ is_flipped signs n
    → ((next < length names) × (get_or names next 0 ≡ n) → ⊥)
    → ((f g : ℕ) → f < g → g < length names → get_or names f 0 < get_or names g 0)
    → labels ≡ replicate (length (face_at mesh n)) 0
    → IsWidenedUpTo mesh signs names narrow (n + 1) next (with_face wide flipped labels)
widened_other mesh signs names narrow wide n next flipped labels h l flip not rising is = record {
  degree = h.degree;
  places = h.places;
  all_signs = signs_more signs wide flipped labels n l h.all_signs flip;
  each_face = length_push wide.faces (record { flipped = flipped; labels = labels })
      ∙ ap (λ k. k + 1) h.each_face;
  few = h.few;
  passed = omega (arith, h.passed);
  before = λ f b. omega (arith, h.before f b);
  behind = λ f le b.
      let there : n ≤ get_or names f 0 = h.behind f le b in
      elim (cases_eq (get_or names f 0) n) [
        | inl same ↦
            absurd
            (elim (cases_eq f next) [
              | inl here ↦ not (omega (arith, b, here), ap (λ k. get_or names k 0) (sym here) ∙ same)
              | inr later ↦
                  omega (arith, same, h.behind next (omega arith) (omega (arith, le, b)), rising next f (omega (arith, le, later)) b)
            ])
        | inr other ↦ omega (arith, there, other)
      ];
  labels = λ f b. row_before wide flipped labels (get_or names f 0) (omega (arith, h.before f b, h.each_face)) ∙ h.labels f b;
  others = λ f b none. elim (cases_lt f n) [
    | inl less ↦ row_before wide flipped labels f (omega (arith, less, h.each_face)) ∙ h.others f less none
    | inr le ↦
        (let same : n ≡ f = omega (arith, b, le) in
        subst (λ k. labels_at (with_face wide flipped labels) k ≡ replicate (length (face_at mesh k)) 0) same
        (row_last wide flipped labels n h.each_face ∙ is))
  ];
}

pub widened_all : (mesh : FaceList) (signs : List Bool) (names : List ℕ) (narrow wide : LabellingView) (n next : ℕ)
    → IsWidenedUpTo mesh signs names narrow n next wide → n ≡ length mesh.faces → length signs ≡ length mesh.faces
    → ((f : ℕ) → f < length names → get_or names f 0 < length mesh.faces)
    → IsWidened mesh signs names narrow (with_places wide narrow.places)
widened_all mesh signs names narrow wide n next h all many each =
    let every : length names ≤ next = elim (cases_lt next (length names)) [
      | inl less ↦ absurd (omega (arith, h.behind next (omega arith) less, each next less, all))
      | inr le ↦ le
    ] in
    record {
      degree = h.degree;
      places = refl;
      all_signs = h.all_signs ∙ take_all n signs (omega (arith, all, many));
      each_face = h.each_face ∙ all;
      labels = λ f l. h.labels f (omega (arith, l, every));
      others = λ f l none. h.others f (omega (arith, l, all)) none;
    }

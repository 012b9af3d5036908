-- The arrays of a mesh are read as that mesh, and what is read is the mesh whose arrays they are.
use Rattle.homotopy_arrays.proofs.Common.{AreArraysOf, counts_fault, array_face_fault, faces_behind, mesh_from_arrays, unless, Fault, ManyVertices, CornerCount, ManySides, DifferTo, differ_more, differ_all, ◌≡◌, ℕ, zero, suc, ◌+◌, ◌<◌, ◌≤◌, Bool, true, false, cond, not, eqb, ltb, List, [], ◌∷◌, ◌++◌, length, take, drop, map, append_assoc, append-nil, length-take-le, refl, sym, ap, ap₂, subst, ◌∙◌, arith, le-ltb, lt-ltb, ne_eqb, eqb-true, ltb-false, and_from, take_at, drop_at, take-append-drop, length-drop, sum_by-cons, list_all, All, Option, Some, None, Result, Ok, sum_by, flat_map, FaceList, IsFace, total_sides, MOST_VERTICES, MOST_SIDES}
use Rattle.std.proofs.lemmas.List.Concat.{length-flat_map}
use Rattle.std.proofs.lemmas.List.Elements.{All-nil, All-cons, All-head, All-tail}
use Rattle.std.specs.Prelude.{sum}
use Rattle.homotopy_arrays.proofs.MeshLemmas.{good_face, is_face, counts_good}

-- ---- with a face nothing is wrong

all_pass : (vertices : ℕ) (face : List ℕ) → All (λ v. v < vertices) face → list_all (λ v. ltb v vertices) face ≡ true
all_pass vertices [] h = refl
all_pass vertices (v ∷ face) h =
    and_from (ltb v vertices) (list_all (λ v. ltb v vertices) face) (lt-ltb v vertices (All-head (λ v. v < vertices) v face h))
    (all_pass vertices face (All-tail (λ v. v < vertices) v face h))

differ_to : (vertices : ℕ) (face : List ℕ) → IsFace vertices face → (n : ℕ) → n ≤ length face → DifferTo face n
differ_to vertices face is zero within = refl
differ_to vertices face is (suc n) within =
    let next : n + 1 ≡ suc n = omega arith in
    subst (DifferTo face) next
    (differ_more face n (omega (arith, within)) (ne_eqb _ _ (is.neighbours n (omega (arith, within))))
    (differ_to vertices face is n (omega (arith, within))))

no_fault : (vertices number : ℕ) (face : List ℕ) → IsFace vertices face → array_face_fault vertices number face ≡ None
no_fault vertices number face is =
    rw (
      le-ltb (length face) 3 is.polygon,
      all_pass vertices face is.in_range,
      sym (differ_all face (length face) (omega arith) (differ_to vertices face is (length face) (omega arith))),
    )
    refl

-- ---- the faces that are cut

sizes_total : (faces : List (List ℕ)) → sum (map length faces) ≡ sum_by length faces
sizes_total [] = refl
sizes_total (face ∷ faces) =
    sum_by-cons (λ x. x) (length face) (map length faces) ∙ ap (λ (n : ℕ). length face + n) (sizes_total faces)
    ∙ sym (sum_by-cons length face faces)

-- faces that are put behind others, with their arrays
record AreCut (vertices : ℕ) (others : List (List ℕ)) (sizes corners : List ℕ) (mesh : FaceList) : Type 0 where
  more : List (List ℕ)
  count : mesh.count ≡ vertices
  faces : mesh.faces ≡ others ++ more
  each : All (IsFace vertices) more
  sizes_are : sizes ≡ map length more
  corners_are : corners ≡ flat_map (λ face. face) more

one_read : (read : Result FaceList Fault) (x y : FaceList) → read ≡ Ok x → read ≡ Ok y → x ≡ y
one_read read x y e f = cc

-- what is read where there is no fault
unless_ok : {A : Type 0} (fault : Option Fault) (read : Result A Fault) (x : A) → unless fault read ≡ Ok x → (fault ≡ None) × (read ≡ Ok x)
unless_ok None read x e = (refl, e)
unless_ok (Some fault) read x e = absurd cc

read_faces : (vertices : ℕ) (others : List (List ℕ)) (sizes corners : List ℕ) (mesh : FaceList) → sum sizes ≡ length corners
    → faces_behind vertices others sizes corners ≡ Ok mesh → AreCut vertices others sizes corners mesh
unfolding faces_behind
read_faces vertices others [] [] mesh all e =
    let is : record { count = vertices; faces = others } ≡ mesh =
    one_read (Ok (record { count = vertices; faces = others })) (record { count = vertices; faces = others }) mesh refl e in
    record {
      more = [];
      count = sym (ap (λ (m : FaceList). m.count) is);
      faces = sym (ap (λ (m : FaceList). m.faces) is) ∙ sym (append-nil others);
      each = All-nil (IsFace vertices);
      sizes_are = refl;
      corners_are = refl;
    }
read_faces vertices others [] (corner ∷ corners) mesh all e = absurd (omega (arith, all))
read_faces vertices others (size ∷ sizes) corners mesh all e =
    let face : List ℕ = take size corners in
    let read = unless_ok (array_face_fault vertices (length others) face)
    (faces_behind vertices (others ++ face ∷ []) sizes (drop size corners)) mesh e in
    let total : size + sum sizes ≡ length corners = sym (sum_by-cons (λ x. x) size sizes) ∙ all in
    let long : length face ≡ size = length-take-le size corners (omega (arith, total)) in
    let rest : AreCut vertices (others ++ face ∷ []) sizes (drop size corners) mesh =
    read_faces vertices (others ++ face ∷ []) sizes (drop size corners) mesh (omega (arith, total, length-drop size corners)) read.1 in
    record {
      more = face ∷ rest.more;
      count = rest.count;
      faces = rest.faces ∙ append_assoc others (face ∷ []) rest.more;
      each = All-cons (IsFace vertices) face rest.more (is_face vertices face (good_face vertices (length others) face read.0)) rest.each;
      sizes_are = ap₂ (λ (n : ℕ) (ns : List ℕ). n ∷ ns) (sym long) rest.sizes_are;
      corners_are = sym (take-append-drop size corners) ∙ ap (λ (l : List ℕ). face ++ l) rest.corners_are;
    }

put_faces : (vertices : ℕ) (others more : List (List ℕ)) → All (IsFace vertices) more
    → faces_behind vertices others (map length more) (flat_map (λ face. face) more)
    ≡ Ok (record { count = vertices; faces = others ++ more })
unfolding faces_behind
put_faces vertices others [] each = ap (λ (l : List (List ℕ)). Ok (record { count = vertices; faces = l })) (sym (append-nil others))
put_faces vertices others (face ∷ more) each =
    let corners : List ℕ = face ++ flat_map (λ face. face) more in
    let front : take (length face) corners ≡ face = take_at face (flat_map (λ face. face) more) (length face) refl in
    let back : drop (length face) corners ≡ flat_map (λ face. face) more = drop_at face (flat_map (λ face. face) more) (length face) refl in
    let good : array_face_fault vertices (length others) face ≡ None =
    no_fault vertices (length others) face (All-head (IsFace vertices) face more each) in
    let Read : List ℕ → List ℕ → Type 0 =
    λ (f rest : List ℕ). unless (array_face_fault vertices (length others) f)
    (faces_behind vertices (others ++ f ∷ []) (map length more) rest)
    ≡ Ok (record { count = vertices; faces = others ++ face ∷ more }) in
    let behind : faces_behind vertices (others ++ face ∷ []) (map length more) (flat_map (λ face. face) more)
    ≡ Ok (record { count = vertices; faces = others ++ face ∷ more }) =
    put_faces vertices (others ++ face ∷ []) more (All-tail (IsFace vertices) face more each)
    ∙ ap (λ (l : List (List ℕ)). Ok (record { count = vertices; faces = l })) (append_assoc others (face ∷ []) more) in
    subst (λ (f : List ℕ). Read f (drop (length face) corners)) (sym front)
    (subst (Read face) (sym back)
    (ap
    (λ (o : Option Fault). unless o (faces_behind vertices (others ++ face ∷ []) (map length more) (flat_map (λ face. face) more))) good
    ∙ behind))

-- ---- the whole

-- nothing is wrong with the arrays whatever the faces are
record AreCounted (vertices : ℕ) (sizes corners : List ℕ) : Type 0 where
  few : vertices ≤ MOST_VERTICES
  all : sum sizes ≡ length corners
  room : length corners ≤ MOST_SIDES

counted : (vertices : ℕ) (sizes corners : List ℕ) → counts_fault vertices sizes corners ≡ None → AreCounted vertices sizes corners
counted vertices sizes corners e =
    by_tests (ltb MOST_VERTICES vertices) (eqb (sum sizes) (length corners)) (ltb MOST_SIDES (length corners)) refl refl refl e
  where
    by_tests : (a b c : Bool) → ltb MOST_VERTICES vertices ≡ a → eqb (sum sizes) (length corners) ≡ b → ltb MOST_SIDES (length corners) ≡ c
        → cond a (Some ManyVertices) (cond (not b) (Some CornerCount) (cond c (Some ManySides) None)) ≡ None
        → AreCounted vertices sizes corners
    by_tests true b c p q r e = absurd cc
    by_tests false false c p q r e = absurd cc
    by_tests false true true p q r e = absurd cc
    by_tests false true false p q r e =
        record { few = ltb-false MOST_VERTICES vertices p; all = eqb-true _ _ q; room = ltb-false MOST_SIDES (length corners) r }

pub read_arrays : (mesh : FaceList) (vertices : ℕ) (sizes corners : List ℕ) → mesh_from_arrays vertices sizes corners ≡ Ok mesh
    → AreArraysOf mesh vertices sizes corners
unfolding mesh_from_arrays
read_arrays mesh vertices sizes corners e =
    let read = unless_ok (counts_fault vertices sizes corners) (faces_behind vertices [] sizes corners) mesh e in
    let counts : AreCounted vertices sizes corners = counted vertices sizes corners read.0 in
    let cut : AreCut vertices [] sizes corners mesh = read_faces vertices [] sizes corners mesh counts.all read.1 in
    let total : sum sizes ≡ total_sides mesh =
    ap (sum_by (λ x. x)) cut.sizes_are ∙ sizes_total cut.more ∙ ap (sum_by length) (sym cut.faces) in
    record {
      valid = record {
        faces = subst (λ (n : ℕ). All (IsFace n) mesh.faces) (sym cut.count) (subst (All (IsFace vertices)) (sym cut.faces) cut.each);
      };
      small = record {
        few_vertices = omega (arith, counts.few, cut.count);
        few_sides = omega (arith, total, counts.all, counts.room);
      };
      vertices_are = sym cut.count;
      sizes_are = cut.sizes_are ∙ ap (map length) (sym cut.faces);
      corners_are = cut.corners_are ∙ ap (flat_map (λ face. face)) (sym cut.faces);
    }

pub arrays_read : (mesh : FaceList) (vertices : ℕ) (sizes corners : List ℕ) → AreArraysOf mesh vertices sizes corners
    → mesh_from_arrays vertices sizes corners ≡ Ok mesh
arrays_read mesh vertices sizes corners h =
    let total : sum sizes ≡ length corners =
    ap (sum_by (λ x. x)) h.sizes_are ∙ sizes_total mesh.faces ∙ sym (length-flat_map (λ face. face) mesh.faces)
    ∙ ap length (sym h.corners_are) in
    let sides : total_sides mesh ≡ length corners = sym (sizes_total mesh.faces) ∙ ap (sum_by (λ x. x)) (sym h.sizes_are) ∙ total in
    counts_good vertices sizes corners (omega (arith, h.vertices_are, h.small.few_vertices)) total (omega (arith, sides, h.small.few_sides))
    ∙ ap₂ (λ (s c : List ℕ). faces_behind vertices [] s c) h.sizes_are h.corners_are
    ∙ ap (λ (n : ℕ). faces_behind n [] (map length mesh.faces) (flat_map (λ face. face) mesh.faces)) h.vertices_are
    ∙ put_faces mesh.count [] mesh.faces h.valid.faces

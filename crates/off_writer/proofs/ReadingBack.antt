-- The text of a mesh is read as the mesh, whatever number texts stand for its vertices.
use Rattle.off_writer.proofs.Common.{point_words, ring_words, off_text, ◌≡◌, inl, inr, ℕ, suc, ◌+◌, ◌*◌, ◌<◌, ◌≤◌, Bool, true, false, List, [], ◌∷◌, ◌++◌, length, map, take, get_or, arith, sym, ap, ◌∙◌, subst, refl, append_assoc, cases_Bool, and_from, eqb-true, lt-ltb, le-ltb, le-leb, append-nil, length-map, take_all, length-replicate, All-nil, All-cons, All-head, All-tail, All-append, All-map, All-replicate, All-weaker, filter_map-append, Any-from_list_any, list_all, list_any, cons_option, range_with_len, Option, Some, None, option_and_then, Ok, codes, All, decimal, flat_map, sum_by, replicate, nat_le, nat_lt, ◌==◌, FaceList, IsFace, IsFaceList, HasFileSize, next_corner, IsWritable, IsLine, numbered, lines_from-written, number-writable, decimals-writable, Line, unmarked, lines_from, full_lines, end_line, is_natural, value_of, is_number_text, line_of}
use Rattle.off_reader.specs.OffTexts.{header_of, keyword_of, are_pieces, counts_at, taken, point_fault, face_fault, corners_of, corners_among, rings_named, has_equal_neighbours, ring_fault, mesh_of, meaning_of}
use Rattle.off_reader.specs.declared.header.TheConstants.{MOST_FACES}
use Rattle.off_reader.specs.declared.off_fault.OffFault.{OffFault}
use Rattle.std.proofs.lemmas.List.FromFn.{length-range_with_len, get_or-range_with_len}
use Rattle.std.proofs.lemmas.List.Sums.{sum_by_push, sum_by-cons}
use Rattle.surf_model.specs.declared.limits.TheConstants.{MOST_VERTICES, MOST_SIDES}
use Rattle.off_writer.proofs.NumberTexts.{Fits, natural-decimal, value-decimal, natural_of-decimal, naturals-decimal, values-decimal}

-- ---- the lines are lines

-- a face with no more corners than a mesh may have sides
record IsSmall (count : ℕ) (face : List ℕ) : Type 0 where
  is_face : IsFace count face
  few : length face ≤ MOST_SIDES

all_small : (count : ℕ) (faces : List (List ℕ)) → All (IsFace count) faces → sum_by length faces ≤ MOST_SIDES → All (IsSmall count) faces
all_small count [] all few = All-nil (IsSmall count)
all_small count (face ∷ faces) all few =
    let sum : sum_by length (face ∷ faces) ≡ length face + sum_by length faces = sum_by-cons {X = List ℕ} length face faces in
    All-cons (IsSmall count) face faces
    (record { is_face = All-head (IsFace count) face faces all; few = omega arith })
    (all_small count faces (All-tail (IsFace count) face faces all) (omega arith))

three_each : (count : ℕ) (faces : List (List ℕ)) → All (IsFace count) faces → 3 * length faces ≤ sum_by length faces
three_each count [] all = omega arith
three_each count (face ∷ faces) all =
    let sum : sum_by length (face ∷ faces) ≡ length face + sum_by length faces = sum_by-cons {X = List ℕ} length face faces in
    let three : 3 ≤ length face = (All-head (IsFace count) face faces all).polygon in
    let others : 3 * length faces ≤ sum_by length faces = three_each count faces (All-tail (IsFace count) face faces all) in
    omega arith

corners_fit : (count : ℕ) (face : List ℕ) → count ≤ MOST_VERTICES → IsSmall count face → All Fits face
corners_fit count face few h k d l = omega (arith, h.is_face.in_range k d l)

ring_fits : (count : ℕ) (face : List ℕ) → count ≤ MOST_VERTICES → IsSmall count face → All Fits (length face ∷ face)
ring_fits count face few h = All-cons Fits (length face) face (omega (arith, h.few)) (corners_fit count face few h)

rings_are_lines : (count : ℕ) (faces : List (List ℕ)) → count ≤ MOST_VERTICES → All (IsSmall count) faces
    → All IsLine (map ring_words faces)
rings_are_lines count faces few all =
    All-map IsLine ring_words faces
    (All-weaker (IsSmall count) (λ face. IsLine (ring_words face))
    (λ face h. record { filled = refl; writable = decimals-writable (length face ∷ face) (ring_fits count face few h) }) faces all)

zero_writable : IsWritable (codes "0")
zero_writable = record { filled = refl; inside = refl }

keyword_is_line : IsLine (codes "OFF" ∷ [])
keyword_is_line =
    record { filled = refl; writable = All-cons IsWritable (codes "OFF") [] (record { filled = refl; inside = refl }) (All-nil IsWritable) }

counts_are_line : (v f : ℕ) → Fits v → Fits f → IsLine (decimal v ∷ decimal f ∷ codes "0" ∷ [])
counts_are_line v f fv ff =
    record {
      filled = refl;
      writable =
          All-cons IsWritable (decimal v) (decimal f ∷ codes "0" ∷ []) (number-writable v fv)
          (All-cons IsWritable (decimal f) (codes "0" ∷ []) (number-writable f ff)
          (All-cons IsWritable (codes "0") [] zero_writable (All-nil IsWritable)));
    }

-- ---- the lines of vertices

-- the words of a line that is taken for a vertex
pub record IsPointLine (words : List (List ℕ)) : Type 0 where
  pub is_line : IsLine words
  pub no_fault : (before : List Line) (number : ℕ) → point_fault 3 before (record { number = number; words = words }) ≡ None

zero_text : is_number_text (codes "0") ≡ true
unfolding is_number_text is_natural
zero_text = refl

zeros_are_point : IsPointLine point_words
zeros_are_point =
    record {
      is_line = record {
        filled = refl;
        writable =
            All-cons IsWritable (codes "0") (codes "0" ∷ codes "0" ∷ []) zero_writable
            (All-cons IsWritable (codes "0") (codes "0" ∷ []) zero_writable
            (All-cons IsWritable (codes "0") [] zero_writable (All-nil IsWritable)));
      };
      no_fault = λ before number. rw zero_text refl;
    }

-- reading goes on where a line has no fault
taken_more : (fault : List Line → Line → Option OffFault) (end : ℕ) (before : List Line) (n : ℕ) (line : Line) (lines : List Line)
    → fault before line ≡ None → taken fault end before (suc n) (line ∷ lines) ≡ taken fault end (before ++ line ∷ []) n lines
unfolding taken
taken_more fault end before n line lines none = rw none refl

-- the lines of a part were taken, and these are left
record TakesLines (fault : List Line → Line → Option OffFault) (end : ℕ) (before : List Line) (n : ℕ)
    (lines left : List Line) : Type 0 where
  after : List Line
  taken_so : taken fault end before n lines ≡ Ok (after, left)

takes_points : (end n : ℕ) (before : List Line) (points rest : List (List (List ℕ))) → All IsPointLine points
    → TakesLines (point_fault 3) end before (length points) (numbered n (points ++ rest)) (numbered (n + length points) rest)
unfolding taken
takes_points end n before [] rest all =
    let same : n ≡ n + 0 = omega arith in
    record { after = before; taken_so = ap (λ k. Ok (before, numbered k rest)) same }
takes_points end n before (words ∷ points) rest all =
    let line : Line = record { number = n; words = words } in
    let others = takes_points end (n + 1) (before ++ line ∷ []) points rest (All-tail IsPointLine words points all) in
    let same : n + 1 + length points ≡ n + suc (length points) = omega arith in
    record {
      after = others.after;
      taken_so =
          taken_more (point_fault 3) end before (length points) line (numbered (n + 1) (points ++ rest))
          ((All-head IsPointLine words points all).no_fault before n)
          ∙ others.taken_so
          ∙ ap (λ k. Ok (others.after, numbered k rest)) same;
    }

-- ---- the lines of faces

corners-read : (count : ℕ) (face : List ℕ) → count ≤ MOST_VERTICES → IsSmall count face → corners_of (ring_words face) ≡ Some face
unfolding corners_of
corners-read count face few h =
    let words : List (List ℕ) = map decimal face in
    let size : length words ≡ length face = length-map face decimal in
    let fits : All Fits face = corners_fit count face few h in
    let whole : take (length face) words ≡ words = take_all (length face) words (omega (arith, size)) in
    let three : nat_le 3 (length face) ≡ true = le-leb 3 (length face) h.is_face.polygon in
    let enough : nat_le (length face) (length words) ≡ true = le-leb (length face) (length words) (omega (arith, size)) in
    let all : list_all is_natural words ≡ true = naturals-decimal face fits in
    let read : corners_among words (length face) ≡ Some face = rw (whole, three, enough, all) (ap Some (values-decimal face fits)) in
    ap (option_and_then (corners_among words)) (natural_of-decimal (length face) (omega (arith, h.few))) ∙ read

neighbours-differ : (count : ℕ) (face : List ℕ) → IsFace count face → has_equal_neighbours face ≡ false
unfolding has_equal_neighbours
neighbours-differ count face h =
    let same : ℕ → Bool = λ t. get_or face t 0 == get_or face (next_corner true (length face) t) 0 in
    let places : List ℕ = range_with_len 0 (length face) in
    elim (cases_Bool (list_any same places)) [
      | inl is ↦
          (let any = Any-from_list_any same places is in
          let within : any.0 < length face = omega (arith, any.2, length-range_with_len 0 (length face)) in
          let place : any.1 ≡ any.0 = sym any.3 ∙ get_or-range_with_len 0 (length face) any.0 any.1 within ∙ omega arith in
          absurd (h.neighbours any.0 within (subst (λ t. get_or face t 0 ≡ get_or face (next_corner true (length face) t) 0) place
          (eqb-true (get_or face any.1 0) (get_or face (next_corner true (length face) any.1) 0) any.4))))
      | inr none ↦ none
    ]

in_range : (count : ℕ) (face : List ℕ) → All (λ v. v < count) face → list_all (λ v. nat_lt v count) face ≡ true
in_range count [] all = refl
in_range count (v ∷ face) all =
    and_from (nat_lt v count) (list_all (λ w. nat_lt w count) face) (lt-ltb v count (All-head (λ w. w < count) v face all))
    (in_range count face (All-tail (λ w. w < count) v face all))

fits_face : (before : List Line) (number count sides : ℕ) (face : List ℕ) → count ≤ MOST_VERTICES → IsSmall count face
    → sum_by length (rings_named before) ≡ sides → sides + length face ≤ MOST_SIDES
    → face_fault count before (record { number = number; words = ring_words face }) ≡ None
fits_face before number count sides face few h so_far room =
    let inside : list_all (λ v. nat_lt v count) face ≡ true = in_range count face h.is_face.in_range in
    let space : nat_lt MOST_SIDES (sides + length face) ≡ false = le-ltb MOST_SIDES (sides + length face) room in
    ap (λ k. ring_fault count k number (corners_of (ring_words face))) so_far
    ∙ ap (ring_fault count sides number) (corners-read count face few h)
    ∙ rw (space, inside, neighbours-differ count face h.is_face) refl

record TakesFaces (count end : ℕ) (before : List Line) (n : ℕ) (lines : List Line) (rings : List (List ℕ)) : Type 0 where
  after : List Line
  taken_so : taken (face_fault count) end before n lines ≡ Ok (after, [])
  rings_are : rings_named after ≡ rings_named before ++ rings

takes_faces : (count end n sides : ℕ) (before : List Line) (faces : List (List ℕ)) → count ≤ MOST_VERTICES → All (IsSmall count) faces
    → sum_by length (rings_named before) ≡ sides → sides + sum_by length faces ≤ MOST_SIDES
    → TakesFaces count end before (length faces) (numbered n (map ring_words faces)) faces
unfolding taken
takes_faces count end n sides before [] few all so_far room =
    record { after = before; taken_so = refl; rings_are = sym (append-nil (rings_named before)) }
takes_faces count end n sides before (face ∷ faces) few all so_far room =
    let h : IsSmall count face = All-head (IsSmall count) face faces all in
    let sum : sum_by length (face ∷ faces) ≡ length face + sum_by length faces = sum_by-cons {X = List ℕ} length face faces in
    let line : Line = record { number = n; words = ring_words face } in
    let more : rings_named (before ++ line ∷ []) ≡ rings_named before ++ face ∷ [] =
    filter_map-append (λ l. corners_of l.words) before (line ∷ [])
    ∙ ap (λ r. rings_named before ++ cons_option r []) (corners-read count face few h) in
    let counted : sum_by length (rings_named (before ++ line ∷ [])) ≡ sides + length face =
    ap (sum_by length) more ∙ sum_by_push length (rings_named before) face ∙ ap (λ k. k + length face) so_far in
    let others = takes_faces count end (n + 1) (sides + length face) (before ++ line ∷ []) faces few
    (All-tail (IsSmall count) face faces all) counted (omega arith) in
    record {
      after = others.after;
      taken_so =
          taken_more (face_fault count) end before (length faces) line (numbered (n + 1) (map ring_words faces))
          (fits_face before n count sides face few h so_far (omega arith))
          ∙ others.taken_so;
      rings_are =
          others.rings_are ∙ ap (λ (rs : List (List ℕ)). rs ++ faces) more ∙ append_assoc (rings_named before) (face ∷ []) faces;
    }

-- ---- the head of the text, and all of it

header-read : (v f : ℕ) (rest : List Line) → v ≤ MOST_VERTICES → f ≤ MOST_FACES
    → header_of
    (record { number = 1; words = codes "OFF" ∷ [] }
    ∷ record { number = 2; words = decimal v ∷ decimal f ∷ codes "0" ∷ [] } ∷ rest)
    ≡ Ok (record { coordinates = 3; vertices = v; faces = f; lines = rest })
unfolding header_of keyword_of are_pieces counts_at
header-read v f rest few_v few_f =
    let fv : Fits v = omega arith in
    let ff : Fits f = omega arith in
    let nv : is_natural (decimal v) ≡ true = natural-decimal v fv in
    let nf : is_natural (decimal f) ≡ true = natural-decimal f ff in
    let vv : value_of (decimal v) ≡ v = value-decimal v fv in
    let vf : value_of (decimal f) ≡ f = value-decimal f ff in
    let lv : nat_le v MOST_VERTICES ≡ true = le-leb v MOST_VERTICES few_v in
    let lf : nat_le f MOST_FACES ≡ true = le-leb f MOST_FACES few_f in
    rw (nv, nf, vv, vf, lv, lf) refl

mesh-read : (end v f : ℕ) (lines rest left points faces : List Line)
    → header_of lines ≡ Ok (record { coordinates = 3; vertices = v; faces = f; lines = rest })
    → taken (point_fault 3) end [] v rest ≡ Ok (points, left) → taken (face_fault v) end [] f left ≡ Ok (faces, [])
    → mesh_of end lines ≡ Ok (record { count = v; faces = rings_named faces })
unfolding mesh_of
mesh-read end v f lines rest left points faces first second third = rw (first, second, third) refl

unmarked-text : (rest : List ℕ) → unmarked (line_of (codes "OFF" ∷ []) ++ rest) ≡ line_of (codes "OFF" ∷ []) ++ rest
unfolding unmarked
unmarked-text rest = refl

-- the lines of a mesh, with these for its vertices
abbrev pub lines_with : List (List (List ℕ)) → FaceList → List (List (List ℕ))
lines_with points mesh =
    (codes "OFF" ∷ []) ∷ (decimal mesh.count ∷ decimal (length mesh.faces) ∷ codes "0" ∷ []) ∷ (points ++ map ring_words mesh.faces)

pub reads_back_with : (points : List (List (List ℕ))) (mesh : FaceList) → All IsPointLine points → length points ≡ mesh.count
    → IsFaceList mesh → HasFileSize mesh → meaning_of (flat_map line_of (lines_with points mesh)) ≡ Ok mesh
reads_back_with points mesh are each valid small =
    let count : ℕ = mesh.count in
    let many : ℕ = length mesh.faces in
    let text : List ℕ = flat_map line_of (lines_with points mesh) in
    let rings : List (List (List ℕ)) = map ring_words mesh.faces in
    let all : All (IsSmall count) mesh.faces = all_small count mesh.faces valid.faces small.few_sides in
    let few_faces : many ≤ MOST_FACES = omega (arith, three_each count mesh.faces valid.faces, small.few_sides) in
    let lines : All IsLine (lines_with points mesh) =
    All-cons IsLine (codes "OFF" ∷ []) ((decimal count ∷ decimal many ∷ codes "0" ∷ []) ∷ (points ++ rings)) keyword_is_line
    (All-cons IsLine (decimal count ∷ decimal many ∷ codes "0" ∷ []) (points ++ rings)
    (counts_are_line count many (omega (arith, small.few_vertices)) (omega (arith, few_faces)))
    (All-append IsLine points rings (All-weaker IsPointLine IsLine (λ words h. h.is_line) points are)
    (rings_are_lines count mesh.faces small.few_vertices all))) in
    let cut : full_lines text ≡ numbered 1 (lines_with points mesh) =
    ap (lines_from 1) (unmarked-text (flat_map line_of ((decimal count ∷ decimal many ∷ codes "0" ∷ []) ∷ (points ++ rings))))
    ∙ lines_from-written 1 (lines_with points mesh) lines in
    let end : ℕ = end_line text in
    let first = takes_points end 3 [] points rings are in
    let taken_points : taken (point_fault 3) end [] count (numbered 3 (points ++ rings)) ≡ Ok (first.after, numbered (3 + count) rings) =
    subst (λ n. taken (point_fault 3) end [] n (numbered 3 (points ++ rings)) ≡ Ok (first.after, numbered (3 + n) rings)) each
    first.taken_so in
    let second = takes_faces count end (3 + count) 0 [] mesh.faces small.few_vertices all refl (omega (arith, small.few_sides)) in
    ap (mesh_of end) cut
    ∙ mesh-read end count many (numbered 1 (lines_with points mesh)) (numbered 3 (points ++ rings)) (numbered (3 + count) rings)
    first.after second.after (header-read count many (numbered 3 (points ++ rings)) small.few_vertices few_faces) taken_points
    second.taken_so
    ∙ ap (λ r. Ok (record { count = count; faces = r })) second.rings_are

pub reads_back : (mesh : FaceList) → IsFaceList mesh → HasFileSize mesh → meaning_of (off_text mesh) ≡ Ok mesh
reads_back mesh =
    reads_back_with (replicate mesh.count point_words) mesh
    (All-replicate IsPointLine mesh.count point_words zeros_are_point)
    (length-replicate mesh.count point_words)

-- A mesh that a text means is a face list.
use Rattle.commands.proofs.Common.{OfOddChain, Passes, meant, End, Refuse, Pass, mesh_in, orientable, off_line, Header, Keyword, coordinates_of, has_piece, counts_at, bare_counts, counts_behind, counted, two_naturals, line_before, keyword_in, header_of, taken, point_fault, face_fault, ring_fault, corners_of, rings_named, mesh_of, meaning_of, TooMany, UnreadForm, ◌≡◌, inr, inl, ℕ, zero, suc, ◌≤◌, Bool, true, false, List, [], ◌∷◌, ◌++◌, length, take, drop, refl, sym, ap, ◌∙◌, subst, arith, and_parts, leb-true, nat_le, ◌&&◌, if◌then◌else◌, Option, Some, None, Result, Ok, Err, All, sum_by, bytes_eq, codes, Files, FaceList, IsFace, IsFaceList, HasFileSize}
use Rattle.off_reader.proofs.RingLemmas.{ring_face, ring_room}
use Rattle.off_reader.specs.OffTexts.{◌>>=◌}
use Rattle.off_reader.specs.declared.header.TheConstants.{MOST_FACES}
use Rattle.off_reader.specs.declared.off_fault.OffFault.{OffFault}
use Rattle.std.proofs.lemmas.List.Elements.{filter_map-append, All-nil, All-cons, All-append}
use Rattle.std.proofs.lemmas.List.Sums.{sum_by-append}
use Rattle.std.specs.List.{list_any}
use Rattle.surf_model.specs.declared.limits.TheConstants.{MOST_VERTICES, MOST_SIDES}
use Rattle.text_scan.specs.Lines.{Line, is_filled, full_lines, end_line}
use Rattle.commands.proofs.Sound.{IsSound}

-- ---- a header has few vertices

vertices_in : Result Header OffFault → ℕ
vertices_in (Ok header) = header.vertices
vertices_in (Err fault) = 0

few_counted : (c : ℕ) (line : Line) (lines : List Line) (counts : Option (ℕ × ℕ)) (header : Header)
    → counted c line lines counts ≡ Ok header
    → header.vertices ≤ MOST_VERTICES
unfolding vertices_in
few_counted c line lines None header e = cc
few_counted c line lines (Some counts) header e = by_test (nat_le counts.0 MOST_VERTICES && nat_le counts.1 MOST_FACES) refl e
  where
    by_test : (b : Bool) → (nat_le counts.0 MOST_VERTICES && nat_le counts.1 MOST_FACES) ≡ b
        → (if b then Ok (record { coordinates = c; vertices = counts.0; faces = counts.1; lines = lines }) else Err
        (TooMany line.number)) ≡ Ok header
        → header.vertices ≤ MOST_VERTICES
    by_test false t f = cc
    by_test true t f =
        let same : counts.0 ≡ header.vertices = ap vertices_in f in
        subst (λ n. n ≤ MOST_VERTICES) same
        (leb-true counts.0 MOST_VERTICES (and_parts (nat_le counts.0 MOST_VERTICES) (nat_le counts.1 MOST_FACES) t).0)

few_at : (c : ℕ) (lines : List Line) (header : Header) → counts_at c lines ≡ Ok header → header.vertices ≤ MOST_VERTICES
unfolding counts_at
few_at c [] header e = cc
few_at c (line ∷ lines) header e = few_counted c line lines (two_naturals line.words) header e

few_behind : (keyword : Keyword) (line : Line) (lines : List Line) (header : Header) → counts_behind keyword line lines ≡ Ok header
    → header.vertices ≤ MOST_VERTICES
few_behind keyword line lines header e = by_form (has_piece 110 keyword) (is_filled keyword.rest) e
  where
    bare : (b : Bool) → (if b then Err (UnreadForm line.number) else counts_at (coordinates_of keyword) (line_before line lines)) ≡ Ok
        header
        → header.vertices ≤ MOST_VERTICES
    bare true f = cc
    bare false f = few_at (coordinates_of keyword) (line_before line lines) header f

    by_form : (b d : Bool)
        → (if b then Err (UnreadForm line.number)
        else if d then counts_at (coordinates_of keyword) (record line { words = keyword.rest ∷ line.words } ∷ lines)
        else bare_counts (coordinates_of keyword) line lines) ≡ Ok header
        → header.vertices ≤ MOST_VERTICES
    by_form true d f = cc
    by_form false true f = few_at (coordinates_of keyword) (record line { words = keyword.rest ∷ line.words } ∷ lines) header f
    by_form false false f = bare (list_any (λ word. bytes_eq word (codes "BINARY")) (take 1 line.words)) f

few_vertices : (lines : List Line) (header : Header) → header_of lines ≡ Ok header → header.vertices ≤ MOST_VERTICES
unfolding header_of
few_vertices [] header e = cc
few_vertices (line ∷ lines) header e = by_keyword (keyword_in line.words) refl
  where
    by_keyword : (o : Option Keyword) → keyword_in line.words ≡ o → header.vertices ≤ MOST_VERTICES
    by_keyword None is =
        let same : header_of (line ∷ lines) ≡ counts_at 3 (line ∷ lines) = rw is refl in
        few_at 3 (line ∷ lines) header (sym same ∙ e)
    by_keyword (Some keyword) is =
        let behind : Line = record line { words = drop 1 line.words } in
        let same : header_of (line ∷ lines) ≡ counts_behind keyword behind lines = rw is refl in
        few_behind keyword behind lines header (sym same ∙ e)

-- ---- the lines that were taken name faces

-- what holds of each mesh that a file spells
record IsFileMesh (mesh : FaceList) : Type 0 where
  valid : IsFaceList mesh
  small : HasFileSize mesh

record NameFaces (vertices : ℕ) (lines : List Line) : Type 0 where
  faces : All (IsFace vertices) (rings_named lines)
  few : sum_by length (rings_named lines) ≤ MOST_SIDES

one_more : (vertices : ℕ) (before : List Line) (line : Line) → NameFaces vertices before → face_fault vertices before line ≡ None
    → NameFaces vertices (before ++ line ∷ [])
one_more vertices before line h good = by_corners (corners_of line.words) refl
  where
    sides : ℕ
    sides = sum_by length (rings_named before)

    by_corners : (o : Option (List ℕ)) → corners_of line.words ≡ o → NameFaces vertices (before ++ line ∷ [])
    by_corners None is =
        let bad = ap (ring_fault vertices sides line.number) (sym is) ∙ good in cc
    by_corners (Some ring) is =
        let last : rings_named (line ∷ []) ≡ ring ∷ [] = rw is refl in
        let all : rings_named (before ++ line ∷ []) ≡ rings_named before ++ ring ∷ [] =
        filter_map-append (λ (l : Line). corners_of l.words) before (line ∷ [])
        ∙ ap (λ (r : List (List ℕ)). rings_named before ++ r) last in
        let face = ring_face vertices sides line.number line.words ring is good in
        let room = ring_room vertices sides line.number line.words ring is good in
        record {
          faces = subst (All (IsFace vertices)) (sym all)
              (All-append (IsFace vertices) (rings_named before) (ring ∷ []) h.faces
              (All-cons (IsFace vertices) ring [] face (All-nil (IsFace vertices))));
          few = omega (arith, room, ap (sum_by length) all, sum_by-append length (rings_named before) (ring ∷ []));
        }

abbrev LineCheck : Type 0
LineCheck = List Line → Line → Option OffFault

first_taken : (check : LineCheck) (end n : ℕ) (before lines : List Line) (line : Line) → check before line ≡ None
    → taken check end before (suc n) (line ∷ lines) ≡ taken check end (before ++ line ∷ []) n lines
unfolding taken
first_taken check end n before lines line good = rw good refl

first_faulty : (check : LineCheck) (end n : ℕ) (before lines : List Line) (line : Line) (fault : OffFault) → check before line ≡ Some fault
    → taken check end before (suc n) (line ∷ lines) ≡ Err fault
unfolding taken
first_faulty check end n before lines line fault bad = rw bad refl

lines_in : Result (List Line × List Line) OffFault → List Line
lines_in (Ok parts) = parts.0
lines_in (Err fault) = []

all_name : (vertices end n : ℕ) (before lines : List Line) (parts : List Line × List Line) → NameFaces vertices before
    → taken (face_fault vertices) end before n lines ≡ Ok parts → NameFaces vertices parts.0
unfolding taken lines_in
all_name vertices end zero before lines parts h e = let same : before ≡ parts.0 = ap lines_in e in subst (NameFaces vertices) same h
all_name vertices end (suc n) before [] parts h e = cc
all_name vertices end (suc n) before (line ∷ lines) parts h e =
    by_fault (all_name vertices end n (before ++ line ∷ []) lines parts) (face_fault vertices before line) refl
  where
    rest : Result (List Line × List Line) OffFault
    rest = taken (face_fault vertices) end (before ++ line ∷ []) n lines

    by_fault : (NameFaces vertices (before ++ line ∷ []) → rest ≡ Ok parts → NameFaces vertices parts.0) → (o : Option OffFault)
        → face_fault vertices before line ≡ o
        → NameFaces vertices parts.0
    by_fault later None is =
        later (one_more vertices before line h is) (sym (first_taken (face_fault vertices) end n before lines line is) ∙ e)
    by_fault later (Some fault) is = let bad = first_faulty (face_fault vertices) end n before lines line fault is in cc

-- ---- the whole text

by_faces : (vertices end n : ℕ) (lines : List Line) (mesh : FaceList) (read : Result (List Line × List Line) OffFault)
    → vertices ≤ MOST_VERTICES → taken (face_fault vertices) end [] n lines ≡ read
    → (read >>= (λ faces. Ok (record { count = vertices; faces = rings_named faces.0 }))) ≡ Ok mesh → IsFileMesh mesh
by_faces vertices end n lines mesh (Err fault) few is e = cc
by_faces vertices end n lines mesh (Ok parts) few is e =
    let none : NameFaces vertices [] = record { faces = All-nil (IsFace vertices); few = omega arith } in
    let named = all_name vertices end n [] lines parts none is in
    let read : IsFileMesh (record { count = vertices; faces = rings_named parts.0 }) =
    record { valid = record { faces = named.faces }; small = record { few_vertices = few; few_sides = named.few } } in
    let same : record { count = vertices; faces = rings_named parts.0 } ≡ mesh = cc in
    subst IsFileMesh same read

by_points : (vertices end n : ℕ) (mesh : FaceList) (read : Result (List Line × List Line) OffFault) → vertices ≤ MOST_VERTICES
    → (read >>= (λ points. taken (face_fault vertices) end [] n points.1 >>=
    (λ faces. Ok (record { count = vertices; faces = rings_named faces.0 })))) ≡ Ok mesh
    → IsFileMesh mesh
by_points vertices end n mesh (Err fault) few e = cc
by_points vertices end n mesh (Ok parts) few e = by_faces vertices end n parts.1 mesh (taken (face_fault vertices) end [] n parts.1) few
    refl e

by_header : (end : ℕ) (lines : List Line) (mesh : FaceList) (read : Result Header OffFault) → header_of lines ≡ read
    → mesh_of end lines ≡ Ok mesh
    → IsFileMesh mesh
unfolding mesh_of
by_header end lines mesh (Err fault) is e = let bad : mesh_of end lines ≡ Err fault = rw is refl in cc
by_header end lines mesh (Ok header) is e =
    by_points header.vertices end header.faces mesh (taken (point_fault header.coordinates) end [] header.vertices header.lines)
    (few_vertices lines header is) (rw is at e)

is_file_mesh : (text : List ℕ) (mesh : FaceList) → meaning_of text ≡ Ok mesh → IsFileMesh mesh
is_file_mesh text mesh e = by_header (end_line text) (full_lines text) mesh (header_of (full_lines text)) refl e

pub is_face_list : (text : List ℕ) (mesh : FaceList) → meaning_of text ≡ Ok mesh → IsFaceList mesh
is_face_list text mesh e = (is_file_mesh text mesh e).valid

pub has_file_size : (text : List ℕ) (mesh : FaceList) → meaning_of text ≡ Ok mesh → HasFileSize mesh
has_file_size text mesh e = (is_file_mesh text mesh e).small

by_meaning : (mesh : FaceList) (text : List ℕ) (read : Result FaceList OffFault) → meaning_of text ≡ read
    → Passes (meant off_line read) mesh → IsFaceList mesh
by_meaning mesh text (Err fault) is h = cc
by_meaning mesh text (Ok other) is h = let same : other ≡ mesh = cc in is_face_list text mesh (is ∙ ap (λ (m : FaceList). Ok m) same)

-- a mesh that a file spells
pub mesh_valid : (held : Option Files) (name : List ℕ) (mesh : FaceList) → Passes (mesh_in held name) mesh → IsFaceList mesh
mesh_valid held name mesh (inl p) = let e = p.2 in cc
mesh_valid held name mesh (inr p) = by_meaning mesh p.0 (meaning_of p.0) refl p.2

-- ---- orientable meshes

one_orientable : (mesh : FaceList) (a b : End FaceList) → (orientable mesh).Ends a → (orientable mesh).Ends b → a ≡ b
one_orientable mesh (Refuse r) (Refuse s) p q = cc (p.1, q.1)
one_orientable mesh (Refuse r) (Pass y) p q = absurd (p.0 q.0)
one_orientable mesh (Pass x) (Refuse s) p q = absurd (q.0 p.0)
one_orientable mesh (Pass x) (Pass y) p q = cc (p.1, q.1)

pub sound-orientable : (held : Option Files) (mesh : FaceList) → IsSound held (orientable mesh)
sound-orientable held mesh =
    record {
      some = λ none. none (Refuse (OfOddChain mesh)) (λ is. none (Pass mesh) (is, refl), refl);
      one = λ _ a b p q. one_orientable mesh a b p q;
    }

-- The lines of vertices and faces, one after the other.
use Rattle.off_reader.proofs.Common.{present_line, IsSameLine, TakesFaces, taken, point_fault, face_fault, ring_fault, corners_of, rings_named, mesh_of, header_of, meaning_of, OffFault, Ended, OutOfMemory, ◌≡◌, ℕ, suc, ◌+◌, ◌-◌, ◌<◌, ◌≤◌, ◌⊎◌, List, [], ◌∷◌, ◌++◌, length, refl, sym, ap, ap₂, ◌∙◌, inl, inr, arith, cons_option, Option, Some, None, Result, Ok, Err, FaceList, total_sides, MOST_SIDES, Line, full_lines, end_line, Unread}
use Rattle.std.proofs.lemmas.List.Sums.{sum_by-append}

abbrev Check : Type 0
Check = List Line → Line → Option OffFault

-- ---- one line

left_one : (n count : ℕ) → n < count → count - n ≡ suc (count - (n + 1))
left_one n count below = omega (arith, below)

all_taken : (check : Check) (end : ℕ) (before lines : List Line) (n count : ℕ) → n ≡ count
    → taken check end before (count - n) lines ≡ Ok (before, lines)
unfolding taken
all_taken check end before lines n count same =
    let none : count - n ≡ 0 = omega (arith, same) in
    ap (λ k. taken check end before k lines) none

one_taken : (check : Check) (end : ℕ) (before rest lines : List Line) (line : Line) (n count : ℕ) → n < count → lines ≡ line ∷ rest
    → check before line ≡ None
    → taken check end before (count - n) lines ≡ taken check end (before ++ line ∷ []) (count - (n + 1)) rest
unfolding taken
one_taken check end before rest lines line n count below is good = ap₂ (λ k ls. taken check end before k ls) (left_one n count below) is
    ∙ rw good refl

bad_taken : (check : Check) (end : ℕ) (before rest lines : List Line) (line : Line) (fault : OffFault) (n count : ℕ) → n < count
    → lines ≡ line ∷ rest → check before line ≡ Some fault
    → taken check end before (count - n) lines ≡ Err fault
unfolding taken
bad_taken check end before rest lines line fault n count below is bad =
    ap₂ (λ k ls. taken check end before k ls) (left_one n count below) is ∙ rw bad refl

none_taken : (check : Check) (end : ℕ) (before lines : List Line) (n count : ℕ) → n < count → lines ≡ []
    → taken check end before (count - n) lines ≡ Err (Ended end)
unfolding taken
none_taken check end before lines n count below is = ap₂ (λ k ls. taken check end before k ls) (left_one n count below) is

-- ---- vertices

pub record IsPointsTo (coordinates count : ℕ) (old : Unread) (n : ℕ) (new : Unread) : Type 0 where
  pub before : List Line
  pub same : taken (point_fault coordinates) old.end_line before (count - n) new.lines
      ≡ taken (point_fault coordinates) old.end_line [] count old.lines
  pub end : new.end_line ≡ old.end_line

-- the next line, and what stands in it
pub one_point : (coordinates count : ℕ) (old mid line new : Unread) (n : ℕ) → n < count → mid.lines ≡ present_line line ∷ line.lines
    → line.end_line ≡ mid.end_line
    → None ≡ point_fault coordinates [] (present_line line) → IsSameLine line new → IsPointsTo coordinates count old n mid
    → IsPointsTo coordinates count old (n + 1) new
one_point coordinates count old mid line new n below is end good same h =
    record {
      before = h.before ++ present_line line ∷ [];
      same = ap (taken (point_fault coordinates) old.end_line (h.before ++ present_line line ∷ []) (count - (n + 1))) same.lines
          ∙ sym (one_taken (point_fault coordinates) old.end_line h.before line.lines mid.lines (present_line line) n count below is
          (sym good))
          ∙ h.same;
      end = same.end_line ∙ end ∙ h.end;
    }

pub bad_point_line : (coordinates count : ℕ) (old mid line : Unread) (fault : OffFault) (n : ℕ) → n < count
    → mid.lines ≡ present_line line ∷ line.lines
    → Some fault ≡ point_fault coordinates [] (present_line line) → IsPointsTo coordinates count old n mid
    → taken (point_fault coordinates) old.end_line [] count old.lines ≡ Err fault
bad_point_line coordinates count old mid line fault n below is bad h =
    sym h.same ∙ bad_taken (point_fault coordinates) old.end_line h.before line.lines mid.lines (present_line line) fault n count below is
    (sym bad)

pub no_point_line : (coordinates count : ℕ) (old mid : Unread) (fault : OffFault) (n : ℕ) → n < count → mid.lines ≡ []
    → fault ≡ Ended mid.end_line
    → IsPointsTo coordinates count old n mid → taken (point_fault coordinates) old.end_line [] count old.lines ≡ Err fault
no_point_line coordinates count old mid fault n below none is h =
    sym h.same ∙ none_taken (point_fault coordinates) old.end_line h.before mid.lines n count below none
    ∙ ap (λ k. Err (Ended k)) (sym h.end) ∙ ap Err (sym is)

pub all_points : (coordinates count : ℕ) (old new : Unread) (n : ℕ) → n ≡ count → IsPointsTo coordinates count old n new
    → (points : List Line)
    × (taken (point_fault coordinates) old.end_line [] count old.lines ≡ Ok (points, new.lines))
all_points coordinates count old new n same h =
    (h.before, sym h.same ∙ all_taken (point_fault coordinates) old.end_line h.before new.lines n count same)

-- ---- faces

pub record IsFacesTo (vertices count : ℕ) (old : Unread) (n : ℕ) (new : Unread) (faces : FaceList) : Type 0 where
  pub before : List Line
  pub same : taken (face_fault vertices) old.end_line before (count - n) new.lines
      ≡ taken (face_fault vertices) old.end_line [] count old.lines
  pub end : new.end_line ≡ old.end_line
  pub mesh : faces ≡ record { count = vertices; faces = rings_named before }
  pub few : total_sides faces ≤ MOST_SIDES

rings_of-append : (before : List Line) (line : Line) (ring : List ℕ) → corners_of line.words ≡ Some ring
    → rings_named (before ++ line ∷ []) ≡ rings_named before ++ ring ∷ []
rings_of-append [] line ring e = rw e refl
rings_of-append (first ∷ before) line ring e = by_test (corners_of first.words) (rings_of-append before line ring e)
  where
    by_test : (o : Option (List ℕ)) → rings_named (before ++ line ∷ []) ≡ rings_named before ++ ring ∷ []
        → cons_option o (rings_named (before ++ line ∷ [])) ≡ cons_option o (rings_named before) ++ ring ∷ []
    by_test None later = later
    by_test (Some r) later = ap (λ (t : List (List ℕ)). r ∷ t) later

-- the fault of a line is that of its corners, where the faces before are those read
fault_in : (vertices : ℕ) (before : List Line) (u : Unread) (faces : FaceList)
    → faces ≡ record { count = vertices; faces = rings_named before }
    → face_fault vertices before (present_line u) ≡ ring_fault vertices (total_sides faces) u.line (corners_of u.words)
fault_in vertices before u faces is = ap (λ (m : FaceList). ring_fault vertices (total_sides m) u.line (corners_of u.words)) (sym is)

pub one_face : (vertices count : ℕ) (old mid line new : Unread) (faces more : FaceList) (ring : List ℕ) (n : ℕ) → n < count
    → mid.lines ≡ present_line line ∷ line.lines
    → line.end_line ≡ mid.end_line → corners_of line.words ≡ Some ring
    → ring_fault vertices (total_sides faces) line.line (corners_of line.words) ≡ None → IsSameLine line new
    → more ≡ record { count = faces.count; faces = faces.faces ++ ring ∷ [] } → total_sides faces + length ring ≤ MOST_SIDES
    → IsFacesTo vertices count old n mid faces → IsFacesTo vertices count old (n + 1) new more
one_face vertices count old mid line new faces more ring n below is end corners good same grown room h =
    let fine : face_fault vertices h.before (present_line line) ≡ None = fault_in vertices h.before line faces h.mesh ∙ good in
    record {
      before = h.before ++ present_line line ∷ [];
      same = ap (taken (face_fault vertices) old.end_line (h.before ++ present_line line ∷ []) (count - (n + 1))) same.lines
          ∙ sym (one_taken (face_fault vertices) old.end_line h.before line.lines mid.lines (present_line line) n count below is fine)
          ∙ h.same;
      end = same.end_line ∙ end ∙ h.end;
      mesh = grown ∙ ap₂ (λ (c : ℕ) (fs : List (List ℕ)). record { count = c; faces = fs }) (ap (λ (m : FaceList). m.count) h.mesh)
          (ap (λ (m : FaceList). m.faces ++ ring ∷ []) h.mesh ∙ sym (rings_of-append h.before (present_line line) ring corners));
      few = omega (arith, room, ap total_sides grown, sum_by-append length faces.faces (ring ∷ []));
    }

pub bad_face_line : (vertices count : ℕ) (old mid line : Unread) (faces : FaceList) (fault : OffFault) (n : ℕ) → n < count
    → mid.lines ≡ present_line line ∷ line.lines
    → ring_fault vertices (total_sides faces) line.line (corners_of line.words) ≡ Some fault → IsFacesTo vertices count old n mid faces
    → taken (face_fault vertices) old.end_line [] count old.lines ≡ Err fault
bad_face_line vertices count old mid line faces fault n below is bad h =
    sym h.same
    ∙ bad_taken (face_fault vertices) old.end_line h.before line.lines mid.lines (present_line line) fault n count below is
    (fault_in vertices h.before line faces h.mesh ∙ bad)

pub no_face_line : (vertices count : ℕ) (old mid : Unread) (faces : FaceList) (fault : OffFault) (n : ℕ) → n < count → mid.lines ≡ []
    → fault ≡ Ended mid.end_line
    → IsFacesTo vertices count old n mid faces → taken (face_fault vertices) old.end_line [] count old.lines ≡ Err fault
no_face_line vertices count old mid faces fault n below none is h =
    sym h.same ∙ none_taken (face_fault vertices) old.end_line h.before mid.lines n count below none ∙ ap (λ k. Err (Ended k)) (sym h.end)
    ∙ ap Err (sym is)

pub all_faces : (vertices count : ℕ) (old new : Unread) (faces : FaceList) (n : ℕ) → n ≡ count → IsFacesTo vertices count old n new faces
    → TakesFaces vertices count old (Ok faces)
all_faces vertices count old new faces n same h =
    (h.before, new.lines, sym h.same ∙ all_taken (face_fault vertices) old.end_line h.before new.lines n count same, h.mesh)

-- ---- the whole text

pub header_fault : (text : List ℕ) (left : List Line) (fault : OffFault) → left ≡ full_lines text → header_of left ≡ Err fault
    → meaning_of text ≡ Err fault
unfolding mesh_of
header_fault text left fault is bad = rw (ap header_of (sym is) ∙ bad) refl

pub points_fault : (text : List ℕ) (left : List Line) (c v f : ℕ) (u : Unread) (fault : OffFault) → left ≡ full_lines text
    → header_of left ≡ Ok (record { coordinates = c; vertices = v; faces = f; lines = u.lines }) → u.end_line ≡ end_line text
    → taken (point_fault c) u.end_line [] v u.lines ≡ Err fault → meaning_of text ≡ Err fault
unfolding mesh_of
points_fault text left c v f u fault is header end bad =
    rw (ap header_of (sym is) ∙ header, ap (λ k. taken (point_fault c) k [] v u.lines) (sym end) ∙ bad) refl

-- the mesh of lines that were read, or want of memory
pub by_faces : (text : List ℕ) (left points : List Line) (c v f : ℕ) (u w : Unread) (r : Result FaceList OffFault) → left ≡ full_lines text
    → header_of left ≡ Ok (record { coordinates = c; vertices = v; faces = f; lines = u.lines }) → u.end_line ≡ end_line text
    → taken (point_fault c) u.end_line [] v u.lines ≡ Ok (points, w.lines) → w.end_line ≡ end_line text → TakesFaces v f w r
    → (r ≡ meaning_of text) ⊎ (r ≡ Err OutOfMemory)
unfolding mesh_of
by_faces text left points c v f u w (Err fault) is header end good end_too (inl memory) = inr (ap Err memory)
by_faces text left points c v f u w (Err fault) is header end good end_too (inr bad) =
    let first : header_of (full_lines text) ≡ Ok (record { coordinates = c; vertices = v; faces = f; lines = u.lines }) =
    ap header_of (sym is) ∙ header in
    let second : taken (point_fault c) (end_line text) [] v u.lines ≡ Ok (points, w.lines) =
    ap (λ k. taken (point_fault c) k [] v u.lines) (sym end) ∙ good in
    let third : taken (face_fault v) (end_line text) [] f w.lines ≡ Err fault = ap (λ k. taken (face_fault v) k [] f w.lines) (sym end_too)
    ∙ bad in
    inl (rw (first, second, third) refl)
by_faces text left points c v f u w (Ok mesh) is header end good end_too h =
    let first : header_of (full_lines text) ≡ Ok (record { coordinates = c; vertices = v; faces = f; lines = u.lines }) =
    ap header_of (sym is) ∙ header in
    let second : taken (point_fault c) (end_line text) [] v u.lines ≡ Ok (points, w.lines) =
    ap (λ k. taken (point_fault c) k [] v u.lines) (sym end) ∙ good in
    let third : taken (face_fault v) (end_line text) [] f w.lines ≡ Ok (h.0, h.1) =
    ap (λ k. taken (face_fault v) k [] f w.lines) (sym end_too) ∙ h.2 in
    inl (rw (first, second, third) (ap Ok h.3))

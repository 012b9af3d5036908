-- A list of moves within the limits has a short text: its numbers are small, and so its lines are short.
use Rattle.open_commands.proofs.Common.{certificate_text, decision_line, Moves, LeadsAtPeak, IsListWithin, MOST_OPEN_SIDES, MOST_OPEN_STEPS, ◌≡◌, ℕ, zero, suc, ◌+◌, ◌*◌, ◌^◌, ◌<◌, ◌≤◌, Bool, true, false, List, [], ◌∷◌, ◌++◌, length, get_or, length-append, refl, ap, ◌∙◌, subst, arith, decimal, flat_map, map, sum_by, Some, All, FaceList, IsFace, IsFaceList, HasFileSize, is_used, face_at, corners_from, total_sides, PeakedMoves, Leads, apply, apply_all, greatest_darts, IsWalk, darts, Homotopic}
use Rattle.commands.specs.declared.certificate.TheConstants.{MOST_SPHERE_MOVES}
use Rattle.commands.specs.declared.inputs.TheConstants.{MOST_BYTES}
use Rattle.common_ends.proofs.PeakLemmas.{greatest_darts-more}
use Rattle.connectivity.proofs.EdgeLemmas.{used_below}
use Rattle.open_commands.specs.declared.certify_open.TheConstants.{MOST_OPEN_BYTES}
use Rattle.std.proofs.lemmas.Fmt.{length-decimal-le}
use Rattle.std.proofs.lemmas.List.{get_or_append_left, get_or-append-add}
use Rattle.std.proofs.lemmas.List.Elements.{All-nil, All-cons, All-head, All-tail}
use Rattle.std.proofs.lemmas.List.Sums.{sum_by-cons, get_or-le-sum_by}
use Rattle.std.specs.List.{join_with_byte}
use Rattle.std.specs.Prelude.{codes}
use Rattle.surf_model.proofs.ContextLemmas.{first_answer}
use Rattle.surf_model.proofs.EdgeLemmas.{head_used}
use Rattle.surf_model.proofs.ReplacementLemmas.{by_replacing}
use Rattle.surf_model.proofs.WayBackLemmas.{keeps_walk}
use Rattle.surf_model.specs.declared.limits.TheConstants.{MOST_VERTICES}
use Rattle.surf_model.specs.declared.moves.Move.{Move}
use Rattle.surf_model.specs.declared.moves.Move.TheVariants.{Insert, Remove, Across}
use Rattle.text_scan.specs.Plain.{line_of}
use Rattle.walk_files.specs.MoveTexts.{direction_word, move_words, head_words, list_text}
use Rattle.walk_files.specs.declared.limits.TheConstants.{MOST_PEAK}

-- ---- the moves of such a list have small numbers

-- no place is more than this, and what else the move names is of a mesh of few sides
abbrev IsSmall : ℕ → Move → Type 0
IsSmall most (Insert at via) = (at ≤ most) × (via.0 < MOST_VERTICES)
IsSmall most (Remove at via) = (at ≤ most) × (via.0 < MOST_VERTICES)
IsSmall most (Across at face corner forward taken) =
    (at ≤ most) × (face.0 < 10000) × (corner < MOST_OPEN_SIDES) × (taken ≤ MOST_OPEN_SIDES)

faces_few : (count : ℕ) (faces : List (List ℕ)) → All (IsFace count) faces → 3 * length faces ≤ sum_by (length {A = ℕ}) faces
faces_few count [] each = omega arith
faces_few count (face ∷ faces) each =
    let first : 3 ≤ length face = (All-head (IsFace count) face faces each).polygon in
    omega (arith, first, faces_few count faces (All-tail (IsFace count) face faces each), sum_by-cons (length {A = ℕ}) face faces)

-- a vertex of a spur in a walk is used
spur_used : (mesh : FaceList) (walk before after : List ℕ) (here via : ℕ) → IsWalk mesh walk
    → walk ≡ before ++ (here ∷ via ∷ here ∷ []) ++ after → is_used mesh via ≡ true
spur_used mesh walk before after here via w is =
    let part : List ℕ = here ∷ via ∷ here ∷ [] in
    let front : length (before ++ part) ≡ length before + 3 = length-append before part in
    let long : length walk ≡ length before + 3 + length after =
    omega (arith, ap (λ (l : List ℕ). length l) is, length-append (before ++ part) after, front) in
    let at : get_or walk (length before + 1) 0 ≡ via =
    ap (λ (l : List ℕ). get_or l (length before + 1) 0) is
    ∙ get_or_append_left (before ++ part) after 0 (length before + 1) (omega (arith, front))
    ∙ get_or-append-add before part 1 0 in
    subst (λ (v : ℕ). is_used mesh v ≡ true) at (w.used (length before + 1) 0 (omega (arith, long)))

-- the place of a move is not past the walk's darts
place_within : (walk before part after : List ℕ) (at : ℕ) → walk ≡ before ++ part ++ after → length before ≡ at → 0 < length part
    → at ≤ darts walk
place_within walk before part after at is place some =
    omega (
      arith,
      ap (λ (l : List ℕ). length l) is,
      length-append (before ++ part) after,
      length-append before part,
      place,
      some,
    )

length_corners : (ring : List ℕ) (rising : Bool) (t k : ℕ) → 0 < length (corners_from ring rising t k)
length_corners ring rising t zero = omega arith
length_corners ring rising t (suc k) = omega arith

module _ (mesh : FaceList) (most : ℕ) (valid : IsFaceList mesh) (small : HasFileSize mesh) (few : total_sides mesh ≤ MOST_OPEN_SIDES)
  where
    move_small : (walk next : List ℕ) (move : Move) → IsWalk mesh walk → darts walk ≤ most → apply mesh walk move ≡ Some next
        → IsSmall most move
    move_small walk next (Insert at via) w short e =
        let r = (by_replacing mesh walk next (Insert at via) w.starts).0 e in
        let some : 0 < length r.part = omega (arith, ap (λ (l : List ℕ). length l) r.replaces.2) in
        let used : is_used mesh via.0 ≡ true = head_used mesh r.replaces.0 via.0 r.replaces.1 in (
          omega (arith, place_within walk r.before r.part r.after at r.walk_is r.place some, short),
          omega (arith, used_below mesh via.0 valid used, small.few_vertices),
        )
    move_small walk next (Remove at via) w short e =
        let r = (by_replacing mesh walk next (Remove at via) w.starts).0 e in
        let some : 0 < length r.part = omega (arith, ap (λ (l : List ℕ). length l) r.replaces.1) in
        let used : is_used mesh via.0 ≡ true =
        spur_used mesh walk r.before r.after r.replaces.0 via.0 w
        (subst (λ (part : List ℕ). walk ≡ r.before ++ part ++ r.after) r.replaces.1 r.walk_is) in (
          omega (arith, place_within walk r.before r.part r.after at r.walk_is r.place some, short),
          omega (arith, used_below mesh via.0 valid used, small.few_vertices),
        )
    move_small walk next (Across at face corner forward taken) w short e =
        let r = (by_replacing mesh walk next (Across at face corner forward taken) w.starts).0 e in
        let ring : List ℕ = face_at mesh face.0 in
        let some : 0 < length r.part =
        omega (arith, ap (λ (l : List ℕ). length l) r.replaces.3, length_corners ring forward corner taken) in
        let sides : length ring ≤ total_sides mesh = get_or-le-sum_by (length {A = ℕ}) mesh.faces face.0 [] r.replaces.0 in (
          omega (arith, place_within walk r.before r.part r.after at r.walk_is r.place some, short),
          omega (arith, faces_few mesh.count mesh.faces valid.faces, r.replaces.0, few),
          omega (arith, r.replaces.1, sides, few),
          omega (arith, r.replaces.2, sides, few),
        )

    moves_small : (walk next : List ℕ) (moves : List Move) → IsWalk mesh walk → Leads mesh walk moves next
        → greatest_darts mesh walk moves ≤ most → All (IsSmall most) moves
    moves_small walk next [] w leads short = All-nil (IsSmall most)
    moves_small walk next (move ∷ moves) w leads short =
        let told = first_answer (λ x. apply_all mesh x moves) (apply mesh walk move) next leads in
        let peaks = greatest_darts-more mesh walk told.0 move moves told.1 in
        All-cons (IsSmall most) move moves (move_small walk told.0 move w (omega (arith, short, peaks)) told.1)
        (moves_small told.0 next moves (keeps_walk mesh walk told.0 move w told.1) told.2 (omega (arith, short, peaks)))

-- ---- their lines

-- a line has a byte behind each word
line_length : (word : List ℕ) (words : List (List ℕ))
    → length (line_of (word ∷ words)) ≡ sum_by (λ (w : List ℕ). length w + 1) (word ∷ words)
line_length word words =
    length-append (join_with_byte 32 (word ∷ words)) (10 ∷ []) ∙ joined word words
  where
    joined : (w : List ℕ) (ws : List (List ℕ))
        → length (join_with_byte 32 (w ∷ ws)) + 1 ≡ sum_by (λ (x : List ℕ). length x + 1) (w ∷ ws)
    joined w [] = omega arith
    joined w (v ∷ vs) =
        omega (
          arith,
          length-append w (32 ∷ join_with_byte 32 (v ∷ vs)),
          joined v vs,
          sum_by-cons (λ (x : List ℕ). length x + 1) w (v ∷ vs),
        )

direction_one : (forward : Bool) → length (direction_word forward) ≡ 1
direction_one true = refl
direction_one false = refl

move_line : (k most : ℕ) (move : Move) → 0 < k → most < 10 ^ k → most < 2 ^ 64 → IsSmall most move
    → length (line_of (move_words move)) ≤ 22 + k
move_line k most (Insert at via) some few wide small =
    omega (
      arith,
      line_length (codes "+") (decimal at ∷ decimal via.0 ∷ []),
      length-decimal-le k at some (omega (arith, small.0, few)) (omega (arith, small.0, wide)),
      length-decimal-le 6 via.0 (omega arith) (omega (arith, small.1)) (omega (arith, small.1)),
    )
move_line k most (Remove at via) some few wide small =
    omega (
      arith,
      line_length (codes "-") (decimal at ∷ decimal via.0 ∷ []),
      length-decimal-le k at some (omega (arith, small.0, few)) (omega (arith, small.0, wide)),
      length-decimal-le 6 via.0 (omega arith) (omega (arith, small.1)) (omega (arith, small.1)),
    )
move_line k most (Across at face corner forward taken) some few wide small =
    omega (
      arith,
      line_length (codes "f") (decimal at ∷ decimal face.0 ∷ decimal corner ∷ direction_word forward ∷ decimal taken ∷ []),
      length-decimal-le k at some (omega (arith, small.0, few)) (omega (arith, small.0, wide)),
      length-decimal-le 4 face.0 (omega arith) (omega (arith, small.1)) (omega (arith, small.1)),
      length-decimal-le 5 corner (omega arith) (omega (arith, small.2)) (omega (arith, small.2)),
      length-decimal-le 5 taken (omega arith) (omega (arith, small.3)) (omega (arith, small.3)),
      direction_one forward,
    )

lines_short : (k most line : ℕ) (moves : List Move) → ((move : Move) → IsSmall most move → length (line_of (move_words move)) ≤ line)
    → All (IsSmall most) moves → length (flat_map line_of (map move_words moves)) ≤ length moves * line
lines_short k most line [] each small = omega arith
lines_short k most line (move ∷ moves) each small =
    omega (
      arith,
      each move (small 0 move (omega arith)),
      lines_short k most line moves each (λ n d l. small (suc n) d (omega (arith, l))),
      length-append (line_of (move_words move)) (flat_map line_of (map move_words moves)),
      one_more (length moves) line,
    )
  where
    one_more : (n m : ℕ) → suc n * m ≡ m + n * m
    one_more n m = omega arith

head_short : (k : ℕ) (list : PeakedMoves) → 0 < k → length list.moves < 10 ^ k → list.peak < 10 ^ k → length list.moves < 2 ^ 64
    → list.peak < 2 ^ 64 → length (line_of (head_words list)) ≤ 8 + 2 * k
head_short k list some few peak wide high =
    omega (
      arith,
      line_length (codes "MOVES") (decimal (length list.moves) ∷ decimal list.peak ∷ []),
      length-decimal-le k (length list.moves) some few wide,
      length-decimal-le k list.peak some peak high,
    )

-- the numbers of a list have so many digits at most, and its moves are no more than so many
list_short : (mesh : FaceList) (first second : List ℕ) (list : PeakedMoves) (k most : ℕ) → IsFaceList mesh
    → HasFileSize mesh → total_sides mesh ≤ MOST_OPEN_SIDES → IsWalk mesh first → LeadsAtPeak mesh first list second → 0 < k
    → most < 10 ^ k → most < 2 ^ 64 → length list.moves ≤ most → list.peak ≤ most
    → length (certificate_text (Moves list)) ≤ 18 + 2 * k + length list.moves * (22 + k)
list_short mesh first second list k most valid small sides w h some few wide moves peak =
    omega (
      arith,
      length-append (decision_line Homotopic) (list_text list),
      length-append (line_of (head_words list)) (flat_map line_of (map move_words list.moves)),
      head_short k list some (omega (arith, moves, few)) (omega (arith, peak, few)) (omega (arith, moves, wide))
          (omega (arith, peak, wide)),
      lines_short k most (22 + k) list.moves (λ move small. move_line k most move some few wide small)
          (moves_small mesh most valid small sides first second list.moves w h.leads (omega (arith, peak, h.peak))),
    )

pub text_short : (mesh : FaceList) (first second : List ℕ) (list : PeakedMoves) → IsFaceList mesh → HasFileSize mesh
    → total_sides mesh ≤ MOST_OPEN_SIDES → IsWalk mesh first → LeadsAtPeak mesh first list second → IsListWithin MOST_OPEN_STEPS list
    → length (certificate_text (Moves list)) ≤ MOST_OPEN_BYTES
text_short mesh first second list valid small sides w h within =
    omega (
      arith,
      list_short mesh first second list 7 MOST_OPEN_STEPS valid small sides w h (omega arith) (omega arith) (omega arith) within.moves
          within.peak,
      within.moves,
    )

-- a list on a sphere, whose peak is one that is read
pub sphere_text_short : (mesh : FaceList) (first second : List ℕ) (list : PeakedMoves) → IsFaceList mesh → HasFileSize mesh
    → total_sides mesh ≤ MOST_OPEN_SIDES → IsWalk mesh first → LeadsAtPeak mesh first list second → length list.moves ≤ MOST_SPHERE_MOVES
    → list.peak ≤ MOST_PEAK → length (certificate_text (Moves list)) ≤ MOST_BYTES
sphere_text_short mesh first second list valid small sides w h moves peak =
    omega (
      arith,
      list_short mesh first second list 8 MOST_PEAK valid small sides w h (omega arith) (omega arith) (omega arith)
          (omega (arith, moves)) peak,
      moves,
    )

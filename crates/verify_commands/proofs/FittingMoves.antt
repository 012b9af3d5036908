-- The numbers of a list of moves that leads are those of the program.
use Rattle.verify_commands.proofs.Common.{greatest_darts-more, greatest_darts-first, ◌≡◌, ℕ, ◌+◌, ◌^◌, ◌<◌, ◌≤◌, Bool, true, false, eqb, List, [], ◌∷◌, length, take, drop, get_or, refl, subst, arith, and_parts, eqb-true, ltb-true, leb-true, if◌then◌else◌, nat_lt, nat_le, All, sum_by, Some, None, FaceList, IsFace, IsFaceList, HasFileSize, face_at, corners_from, is_edge, is_used, total_sides, PeakedMoves, apply, apply_all, Leads, greatest_darts, same_walk, IsWalk, darts, Move, MoveFits, FitsFormat, list_text}
use Rattle.std.proofs.lemmas.List.Elements.{All-head, All-tail, All-cons, All-nil}
use Rattle.std.proofs.lemmas.List.Sums.{sum_by-cons, get_or-le-sum_by}
use Rattle.std.proofs.lemmas.Option.{option_and_then_some}
use Rattle.std.specs.Prelude.{◌&&◌}
use Rattle.surf_model.proofs.EdgeLemmas.{head_used, used_below}
use Rattle.surf_model.proofs.WayBackLemmas.{keeps_walk}
use Rattle.surf_model.specs.PeakedLists.{LeadsAtPeak}
use Rattle.surf_model.specs.declared.limits.TheConstants.{MOST_PEAK}
use Rattle.surf_model.specs.declared.moves.Move.TheVariants.{Insert, Remove, Across}
use Rattle.verify_commands.proofs.TextLengths.{moves_below}

-- ---- the numbers of a mesh

used_fits : (mesh : FaceList) (v : ℕ) → IsFaceList mesh → HasFileSize mesh → is_used mesh v ≡ true → v < 2 ^ 32
used_fits mesh v valid small is = omega (arith, used_below mesh v valid is, small.few_vertices)

faces_few : (count : ℕ) (faces : List (List ℕ)) → All (IsFace count) faces → length faces ≤ sum_by (length {A = ℕ}) faces
faces_few count [] each = omega arith
faces_few count (face ∷ faces) each =
    let first : 3 ≤ length face = (All-head (IsFace count) face faces each).polygon in
    omega (arith, first, faces_few count faces (All-tail (IsFace count) face faces each), sum_by-cons (length {A = ℕ}) face faces)

-- ---- the tests that a move passes

tested : {A : Type 0} (b : Bool) (x y : A) → (if b then Some x else None) ≡ Some y → b ≡ true
tested true x y e = refl
tested false x y e = cc

removed : {A : Type 0} (place same middle : Bool) (x y : A) → (if place && same && middle then Some x else None) ≡ Some y
    → (place ≡ true) × (same ≡ true) × (middle ≡ true)
removed true true true x y e = (refl, refl, refl)
removed true true false x y e = cc
removed true false middle x y e = cc
removed false same middle x y e = cc

crossed : {A : Type 0} (face corner sides place reads : Bool) (x y : A)
    → (if face && corner && sides && place && reads then Some x else None) ≡ Some y
    → (face ≡ true) × (corner ≡ true) × (sides ≡ true) × (place ≡ true)
crossed true true true true reads x y e = (refl, refl, refl, refl)
crossed true true true false reads x y e = cc
crossed true true false place reads x y e = cc
crossed true false sides place reads x y e = cc
crossed false corner sides place reads x y e = cc

move_fits : (mesh : FaceList) (walk next : List ℕ) (move : Move) → IsFaceList mesh → HasFileSize mesh → IsWalk mesh walk
    → darts walk ≤ MOST_PEAK
    → apply mesh walk move ≡ Some next → MoveFits move
unfolding apply
move_fits mesh walk next (Insert at via) valid small w few e =
    let both = and_parts (nat_le at (darts walk)) (is_edge mesh (get_or walk at 0) via.0) (tested _ _ next e) in
    let here : at ≤ darts walk = leb-true at (darts walk) both.0 in
    (omega (arith, here, few), used_fits mesh via.0 valid small (head_used mesh (get_or walk at 0) via.0 both.1))
move_fits mesh walk next (Remove at via) valid small w few e =
    let tests =
    removed (nat_le (at + 2) (darts walk)) (eqb (get_or walk at 0) (get_or walk (at + 2) 0)) (eqb (get_or walk (at + 1) 0) via.0) _ next
    e in
    let here : at + 2 ≤ darts walk = leb-true (at + 2) (darts walk) tests.0 in
    let used : is_used mesh (get_or walk (at + 1) 0) ≡ true = w.used (at + 1) 0 (omega (arith, here)) in
    let same : get_or walk (at + 1) 0 ≡ via.0 = eqb-true (get_or walk (at + 1) 0) via.0 tests.2 in
    (omega (arith, here, few), subst (λ (v : ℕ). v < 2 ^ 32) same (used_fits mesh (get_or walk (at + 1) 0) valid small used))
move_fits mesh walk next (Across at face corner forward taken) valid small w few e =
    let ring : List ℕ = face_at mesh face.0 in
    let tests =
    crossed (nat_lt face.0 (length mesh.faces)) (nat_lt corner (length ring)) (nat_le taken (length ring))
    (nat_le (at + taken) (darts walk))
    (same_walk (take (taken + 1) (drop at walk)) (corners_from ring forward corner taken)) _ next e in
    let in_list : face.0 < length mesh.faces = ltb-true face.0 (length mesh.faces) tests.0 in
    let in_ring : corner < length ring = ltb-true corner (length ring) tests.1 in
    let sides : taken ≤ length ring = leb-true taken (length ring) tests.2 in
    let here : at + taken ≤ darts walk = leb-true (at + taken) (darts walk) tests.3 in
    let faces = faces_few mesh.count mesh.faces valid.faces in
    let few_corners : length ring ≤ total_sides mesh = get_or-le-sum_by (length {A = ℕ}) mesh.faces face.0 [] in_list in (
      omega (arith, here, few),
      omega (arith, in_list, faces, small.few_sides),
      omega (arith, in_ring, few_corners, small.few_sides),
      omega (arith, sides, few_corners, small.few_sides),
    )

moves_fit : (mesh : FaceList) (walk second : List ℕ) (moves : List Move) → IsFaceList mesh → HasFileSize mesh → IsWalk mesh walk
    → Leads mesh walk moves second → greatest_darts mesh walk moves ≤ MOST_PEAK → All MoveFits moves
moves_fit mesh walk second [] valid small w leads few = All-nil MoveFits
moves_fit mesh walk second (move ∷ moves) valid small w leads few =
    let here : darts walk ≤ MOST_PEAK = omega (arith, few, greatest_darts-first mesh walk (move ∷ moves)) in
    option_and_then_some (λ next. apply_all mesh next moves) (apply mesh walk move) second leads
    (λ next is rest.
    let peaks = greatest_darts-more mesh walk next move moves is in
    All-cons MoveFits move moves (move_fits mesh walk next move valid small w here is)
    (moves_fit mesh next second moves valid small (keeps_walk mesh walk next move w is) rest (omega (arith, few, peaks))))

pub list_fits : (mesh : FaceList) (first second : List ℕ) (list : PeakedMoves) → IsFaceList mesh → HasFileSize mesh → IsWalk mesh first
    → LeadsAtPeak mesh first list second → list.peak ≤ MOST_PEAK → length (list_text list) < 2 ^ 64 → FitsFormat list
list_fits mesh first second list valid small w h few short =
    record {
      moves = moves_fit mesh first second list.moves valid small w h.leads (omega (arith, few, h.peak));
      count = omega (arith, short, moves_below list);
      peak = few;
    }

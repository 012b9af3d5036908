-- What a step gives, case by case.
use Rattle.move_checker.proofs.Common.{need, refusal, step_of, MoveFault, Place, NoEdge, NotSpur, NotOnFace, OverPeak, ◌≡◌, ℕ, ◌+◌, ◌-◌, ◌<◌, ◌≤◌, ◌≢◌, Bool, true, false, not, List, [], ◌∷◌, length, take, drop, get_or, refl, inl, inr, le-leb, lt-leb, cases_lt, cond, ◌==◌, ◌&&◌, nat_lt, nat_le, Option, None, Ok, Err, FaceList, face_at, corners_from, is_edge, apply, replaced, same_walk, darts, Move, Insert, Remove, Across}
use Rattle.std.specs.Prelude.{Some}
use Rattle.surf_model.specs.declared.names.FaceName.{FaceName}
use Rattle.surf_model.specs.declared.names.VertexName.{VertexName}

pub refused : (mesh : FaceList) (peak : ℕ) (walk : List ℕ) (move : Move) (fault : MoveFault) → refusal mesh walk move ≡ Some fault
    → step_of mesh peak walk move ≡ Err fault
unfolding step_of
refused mesh peak walk move fault e = rw e refl

-- the table of moves allows the move, and it gives this walk
pub record IsAllowed (mesh : FaceList) (walk : List ℕ) (move : Move) (next : List ℕ) : Type 0 where
  pub no_reason : refusal mesh walk move ≡ None
  pub gives : apply mesh walk move ≡ Some next

pub within_peak : (mesh : FaceList) (peak : ℕ) (walk : List ℕ) (move : Move) (next : List ℕ) → IsAllowed mesh walk move next
    → darts next ≤ peak → step_of mesh peak walk move ≡ Ok next
unfolding step_of
within_peak mesh peak walk move next a le =
    let t : nat_le (darts next) peak ≡ true = le-leb _ _ le in
    rw (a.no_reason, a.gives, t) refl

pub over_peak : (mesh : FaceList) (peak : ℕ) (walk : List ℕ) (move : Move) (next : List ℕ) → IsAllowed mesh walk move next
    → peak < darts next → step_of mesh peak walk move ≡ Err OverPeak
unfolding step_of
over_peak mesh peak walk move next a lt =
    let t : nat_le (darts next) peak ≡ false = lt-leb _ _ lt in
    rw (a.no_reason, a.gives, t) refl

-- how the reasons of a move go with the walk that it gives
pub data Judged (refusal : Option MoveFault) (given : Option (List ℕ)) : Type 0 where
  is_refused : (fault : MoveFault) → refusal ≡ Some fault → given ≡ None → fault ≢ OverPeak → Judged refusal given
  is_allowed : (next : List ℕ) → refusal ≡ None → given ≡ Some next → Judged refusal given

judged_insert : (place edge : Bool) (next : List ℕ)
    → Judged (need place Place (need edge NoEdge None)) (cond (place && edge) (Some next) None)
judged_insert true true next = is_allowed next refl refl
judged_insert true false next = is_refused NoEdge refl refl (λ e. cc)
judged_insert false edge next = is_refused Place refl refl (λ e. cc)

judged_remove : (place same middle : Bool) (next : List ℕ)
    → Judged (need place Place (need (same && middle) NotSpur None)) (cond (place && same && middle) (Some next) None)
judged_remove true true true next = is_allowed next refl refl
judged_remove true true false next = is_refused NotSpur refl refl (λ e. cc)
judged_remove true false middle next = is_refused NotSpur refl refl (λ e. cc)
judged_remove false same middle next = is_refused Place refl refl (λ e. cc)

judged_across : (place face corner sides reads : Bool) (next : List ℕ)
    → Judged (need place Place (need (face && corner && sides) NotOnFace (need reads NotOnFace None)))
    (cond (face && corner && sides && place && reads) (Some next) None)
judged_across true true true true true next = is_allowed next refl refl
judged_across true true true true false next = is_refused NotOnFace refl refl (λ e. cc)
judged_across true true true false reads next = is_refused NotOnFace refl refl (λ e. cc)
judged_across true true false sides reads next = is_refused NotOnFace refl refl (λ e. cc)
judged_across true false corner sides reads next = is_refused NotOnFace refl refl (λ e. cc)
judged_across false true true true reads next = is_refused Place refl refl (λ e. cc)
judged_across false true true false reads next = is_refused Place refl refl (λ e. cc)
judged_across false true false sides reads next = is_refused Place refl refl (λ e. cc)
judged_across false false corner sides reads next = is_refused Place refl refl (λ e. cc)

pub judged : (mesh : FaceList) (walk : List ℕ) (move : Move) → Judged (refusal mesh walk move) (apply mesh walk move)
unfolding refusal apply
judged mesh walk (Insert at via) = judged_insert _ _ _
judged mesh walk (Remove at via) = judged_remove _ _ _ _
judged mesh walk (Across at face corner forward taken) =
    let ring = face_at mesh face.0 in
    let sides = length ring in
    judged_across (nat_le (at + taken) (darts walk)) (nat_lt face.0 (length mesh.faces)) (nat_lt corner sides) (nat_le taken sides)
    (same_walk (take (taken + 1) (drop at walk)) (corners_from ring forward corner taken))
    (replaced at (taken + 1) (corners_from ring (not forward) corner (sides - taken)) walk)

-- what becomes of a step
pub data Outcome (mesh : FaceList) (peak : ℕ) (walk : List ℕ) (move : Move) : Type 0 where
  is_not_allowed : (fault : MoveFault) → step_of mesh peak walk move ≡ Err fault → apply mesh walk move ≡ None → fault ≢ OverPeak
      → Outcome mesh peak walk move
  is_over_peak : (next : List ℕ) → step_of mesh peak walk move ≡ Err OverPeak → apply mesh walk move ≡ Some next → peak < darts next
      → Outcome mesh peak walk move
  is_done : (next : List ℕ) → step_of mesh peak walk move ≡ Ok next → apply mesh walk move ≡ Some next → darts next ≤ peak
      → Outcome mesh peak walk move

outcome_of : (mesh : FaceList) (peak : ℕ) (walk : List ℕ) (move : Move) → Judged (refusal mesh walk move) (apply mesh walk move)
    → Outcome mesh peak walk move
outcome_of mesh peak walk move (is_refused fault r g ne) = is_not_allowed fault (refused mesh peak walk move fault r) g ne
outcome_of mesh peak walk move (is_allowed next r g) =
    elim (cases_lt peak (darts next)) [
      | inl lt ↦ is_over_peak next (over_peak mesh peak walk move next (record { no_reason = r; gives = g }) lt) g lt
      | inr le ↦ is_done next (within_peak mesh peak walk move next (record { no_reason = r; gives = g }) le) g le
    ]

pub outcome : (mesh : FaceList) (peak : ℕ) (walk : List ℕ) (move : Move) → Outcome mesh peak walk move
outcome mesh peak walk move = outcome_of mesh peak walk move (judged mesh walk move)

pub insert_misplaced : (mesh : FaceList) (peak : ℕ) (walk : List ℕ) (at : ℕ) (via : VertexName) → darts walk < at
    → step_of mesh peak walk (Insert at via) ≡ Err Place
unfolding refusal
insert_misplaced mesh peak walk at via lt =
    let t : nat_le at (darts walk) ≡ false = lt-leb _ _ lt in
    refused mesh peak walk (Insert at via) Place (rw t refl)

pub insert_off_edge : (mesh : FaceList) (peak : ℕ) (walk : List ℕ) (at : ℕ) (via : VertexName) → at ≤ darts walk
    → is_edge mesh (get_or walk at 0) via.0 ≡ false
    → step_of mesh peak walk (Insert at via) ≡ Err NoEdge
unfolding refusal
insert_off_edge mesh peak walk at via le e =
    let t : nat_le at (darts walk) ≡ true = le-leb _ _ le in
    refused mesh peak walk (Insert at via) NoEdge (rw (t, e) refl)

pub insert_allowed : (mesh : FaceList) (walk : List ℕ) (at : ℕ) (via : VertexName) → at ≤ darts walk
    → is_edge mesh (get_or walk at 0) via.0 ≡ true
    → IsAllowed mesh walk (Insert at via) (replaced at 1 (get_or walk at 0 ∷ via.0 ∷ get_or walk at 0 ∷ []) walk)
unfolding refusal apply
insert_allowed mesh walk at via le e =
    let t : nat_le at (darts walk) ≡ true = le-leb _ _ le in
    record { no_reason = rw (t, e) refl; gives = rw (t, e) refl }

-- whether the entries from place `at` on are a spur to a vertex
abbrev pub is_spur : List ℕ → ℕ → ℕ → Bool
is_spur walk at via = get_or walk at 0 == get_or walk (at + 2) 0 && get_or walk (at + 1) 0 == via

pub remove_misplaced : (mesh : FaceList) (peak : ℕ) (walk : List ℕ) (at : ℕ) (via : VertexName) → darts walk < at + 2
    → step_of mesh peak walk (Remove at via) ≡ Err Place
unfolding refusal
remove_misplaced mesh peak walk at via lt =
    let t : nat_le (at + 2) (darts walk) ≡ false = lt-leb _ _ lt in
    refused mesh peak walk (Remove at via) Place (rw t refl)

pub remove_off_spur : (mesh : FaceList) (peak : ℕ) (walk : List ℕ) (at : ℕ) (via : VertexName) → at + 2 ≤ darts walk
    → is_spur walk at via.0 ≡ false
    → step_of mesh peak walk (Remove at via) ≡ Err NotSpur
unfolding refusal
remove_off_spur mesh peak walk at via le e =
    let t : nat_le (at + 2) (darts walk) ≡ true = le-leb _ _ le in
    refused mesh peak walk (Remove at via) NotSpur (rw (t, e) refl)

remove_test : (place same middle : Bool) (next : List ℕ) → place ≡ true → (same && middle) ≡ true
    → cond (place && same && middle) (Some next) None ≡ Some next
remove_test true true true next p e = refl
remove_test true true false next p e = cc
remove_test true false middle next p e = cc
remove_test false same middle next p e = cc

pub remove_allowed : (mesh : FaceList) (walk : List ℕ) (at : ℕ) (via : VertexName) → at + 2 ≤ darts walk → is_spur walk at via.0 ≡ true
    → IsAllowed mesh walk (Remove at via) (replaced at 3 (get_or walk at 0 ∷ []) walk)
unfolding refusal apply
remove_allowed mesh walk at via le e =
    let t : nat_le (at + 2) (darts walk) ≡ true = le-leb _ _ le in
    record { no_reason = rw (t, e) refl; gives = remove_test _ _ _ _ t e }

-- whether the entries from place `at` on read so many sides of a face
abbrev pub reads_sides : FaceList → List ℕ → ℕ → FaceName → ℕ → Bool → ℕ → Bool
reads_sides mesh walk at face corner forward taken =
    nat_lt face.0 (length mesh.faces) && nat_lt corner (length (face_at mesh face.0)) && nat_le taken (length (face_at mesh face.0))
    && same_walk (take (taken + 1) (drop at walk)) (corners_from (face_at mesh face.0) forward corner taken)

pub across_misplaced : (mesh : FaceList) (peak : ℕ) (walk : List ℕ) (at : ℕ) (face : FaceName) (corner : ℕ) (forward : Bool) (taken : ℕ)
    → darts walk < at + taken → step_of mesh peak walk (Across at face corner forward taken) ≡ Err Place
unfolding refusal
across_misplaced mesh peak walk at face corner forward taken lt =
    let t : nat_le (at + taken) (darts walk) ≡ false = lt-leb _ _ lt in
    refused mesh peak walk (Across at face corner forward taken) Place (rw t refl)

off_test : (face corner sides reads : Bool) → (face && corner && sides && reads) ≡ false
    → need (face && corner && sides) NotOnFace (need reads NotOnFace None) ≡ Some NotOnFace
off_test true true true true e = cc
off_test true true true false e = refl
off_test true true false reads e = refl
off_test true false sides reads e = refl
off_test false corner sides reads e = refl

pub across_off_face : (mesh : FaceList) (peak : ℕ) (walk : List ℕ) (at : ℕ) (face : FaceName) (corner : ℕ) (forward : Bool) (taken : ℕ)
    → at + taken ≤ darts walk → reads_sides mesh walk at face corner forward taken ≡ false
    → step_of mesh peak walk (Across at face corner forward taken) ≡ Err NotOnFace
unfolding refusal
across_off_face mesh peak walk at face corner forward taken le e =
    let t : nat_le (at + taken) (darts walk) ≡ true = le-leb _ _ le in
    refused mesh peak walk (Across at face corner forward taken) NotOnFace
    (rw t (off_test (nat_lt face.0 (length mesh.faces)) (nat_lt corner (length (face_at mesh face.0)))
    (nat_le taken (length (face_at mesh face.0))) (same_walk (take (taken + 1) (drop at walk))
    (corners_from (face_at mesh face.0) forward corner taken)) e))

on_test : (face corner sides reads : Bool) → (face && corner && sides && reads) ≡ true
    → need (face && corner && sides) NotOnFace (need reads NotOnFace None) ≡ None
on_test true true true true e = refl
on_test true true true false e = cc
on_test true true false reads e = cc
on_test true false sides reads e = cc
on_test false corner sides reads e = cc

across_test : (face corner sides place reads : Bool) (next : List ℕ) → place ≡ true → (face && corner && sides && reads) ≡ true
    → cond (face && corner && sides && place && reads) (Some next) None ≡ Some next
across_test true true true true true next p e = refl
across_test true true true true false next p e = cc
across_test true true true false reads next p e = cc
across_test true true false place reads next p e = cc
across_test true false sides place reads next p e = cc
across_test false corner sides place reads next p e = cc

pub across_allowed : (mesh : FaceList) (walk : List ℕ) (at : ℕ) (face : FaceName) (corner : ℕ) (forward : Bool) (taken : ℕ)
    → at + taken ≤ darts walk → reads_sides mesh walk at face corner forward taken ≡ true
    → IsAllowed mesh walk (Across at face corner forward taken)
    (replaced at (taken + 1) (corners_from (face_at mesh face.0) (not forward) corner (length (face_at mesh face.0) - taken)) walk)
unfolding refusal apply
across_allowed mesh walk at face corner forward taken le e =
    let t : nat_le (at + taken) (darts walk) ≡ true = le-leb _ _ le in
    let there : Bool = nat_lt face.0 (length mesh.faces) in
    let cornered : Bool = nat_lt corner (length (face_at mesh face.0)) in
    let enough : Bool = nat_le taken (length (face_at mesh face.0)) in
    let reads : Bool = same_walk (take (taken + 1) (drop at walk)) (corners_from (face_at mesh face.0) forward corner taken) in
    record {
      no_reason = rw t (on_test there cornered enough reads e);
      gives =
          across_test there cornered enough (nat_le (at + taken) (darts walk)) reads _ t e;
    }

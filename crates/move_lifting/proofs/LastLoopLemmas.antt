-- All round the root face from the last side, in either direction.
use Rattle.move_lifting.proofs.Common.{leads_nowhere, one_more, face_at_number, start_kept, start_flipped, IsNumberOf, names_all, darts_of, face_of, origin_of, start_corner_of, OrientedMesh, IsOrientedSurface, IsStepOf, IsStepFrom, LeadsAtPeak, MoreLeaveCotree, load_of, signed_loop, TrackView, FaceStep, at_face, backward_is, side_in, led_round, led_back_round, read_back, back, PolygonView, IsCutFrom, AreWaysUp, backward, by_loop, last_side, way_round, way_back_round, IsOffCotree, ◌≡◌, inl, inr, ℕ, suc, ◌+◌, ◌-◌, ◌<◌, ◌≤◌, Bool, true, false, not, max, List, [], ◌∷◌, ◌++◌, length, drop, get_or, refl, ap, sym, ◌∙◌, subst, arith, ◌⊎◌, append-nil, Some, IsTrue, if◌then◌else◌, first_answer, walk_from, all_more, none_yet, by_replacing, length-corners_from, corners_before, last_corner, keeps_walk, IsSide, side_number, FaceList, face_at, next_corner, corners_from, is_used, AreFreelyEqual, PeakedMoves, apply, apply_all, is_flipped, numbers, IsWalk, darts, Side, Move, Across, FaceName, VertexName, SplitView, IsSplit, once_round, end_from as end_of}
use Rattle.std.proofs.lemmas.List.Sums.{get_or-le-sum_by}
use mathlib.Core.Bool.{beq}
use Rattle.move_lifting.proofs.RestLemmas.{pair_weight, root_round}

-- the step from where a dart starts, from the side that the dart is
pub step_is_from : (s : OrientedMesh) (d : ℕ) (side : Side) (back flipped : Bool) (step : FaceStep) → IsSide s.mesh side
    → side_number s.mesh side ≡ d
    → step.face ≡ side.face → flipped ≡ is_flipped s.signs side.face.0
    → ((flipped ≡ true) × (step.corner ≡ next_corner true (length (face_at s.mesh side.face.0)) side.at))
    ⊎ ((flipped ≡ false) × (step.corner ≡ side.at))
    → step.forward ≡ beq flipped back → IsStepFrom s d back step
step_is_from s d side back flipped step in_mesh number same_face flips corner forward =
    let f : ℕ = side.face.0 in
    let n : IsNumberOf s.mesh f side.at d = record { face = in_mesh.face; place = in_mesh.place; is = number } in
    let face_is : f ≡ face_of s d = sym (face_at_number s f side.at d n) in
    record {
      face = ap (λ (x : FaceName). x.0) same_face ∙ face_is;
      corner = elim corner [
        | inl turned ↦ turned.1 ∙ sym (start_flipped s f side.at d n (sym flips ∙ turned.0))
        | inr kept ↦ kept.1 ∙ sym (start_kept s f side.at d n (sym flips ∙ kept.0))
      ];
      way = forward ∙ either flipped back ∙ ap (λ (b : Bool). if back then b else not b) (flips ∙ ap (is_flipped s.signs) face_is);
    }
  where
    either : (flipped back : Bool) → beq flipped back ≡ (if back then flipped else not flipped)
    either true true = refl
    either true false = refl
    either false true = refl
    either false false = refl

-- the vertices beyond the start, between the start and the start
pub all_round : (ring : List ℕ) (rising : Bool) (t v : ℕ) → t < length ring → v ≡ get_or ring t 0
    → v ∷ (corners_before ring rising (next_corner rising (length ring) t) (length ring - 1) ++ v ∷ []) ≡ corners_from ring rising t
    (length ring)
all_round ring rising t v l is = grind (arith, once_round, last_corner)

-- one move leads all round
pub round_move : (mesh : FaceList) (face : FaceName) (corner v : ℕ) (forward : Bool) → face.0 < length mesh.faces
    → corner < length (face_at mesh face.0)
    → v ≡ get_or (face_at mesh face.0) corner 0
    → apply mesh (v ∷ []) (Across 0 face corner (not forward) 0)
    ≡ Some (corners_from (face_at mesh face.0) forward corner (length (face_at mesh face.0)))
round_move mesh face corner v forward f_in l is =
    let ring : List ℕ = face_at mesh face.0 in
    let around : List ℕ = corners_from ring forward corner (length ring) in
    let none : length ring ≡ length ring - 0 = omega arith in
    (by_replacing mesh (v ∷ []) around (Across 0 face corner (not forward) 0) (omega arith)).1
    (record {
      before = [];
      part = v ∷ [];
      other = around;
      after = [];
      walk_is = refl;
      next_is = sym (append-nil around);
      place = refl;
      replaces = (
        f_in,
        l,
        omega arith,
        ap (λ (x : ℕ). x ∷ []) is,
        ap (λ (b : Bool). corners_from ring b corner (length ring)) (sym (twice forward))
            ∙ ap (corners_from ring (not (not forward)) corner) none,
      );
    })
  where
    twice : (b : Bool) → not (not b) ≡ b
    twice true = refl
    twice false = refl

-- What is told of all round the root face: from the last side in its direction, or the other way.
pub record IsAllRound (s : OrientedMesh) (split : SplitView) (polygon : PolygonView) (back : Bool) (step : FaceStep)
    (around : List ℕ) : Type 0 where
  pub is_walk : IsWalk s.mesh around
  pub long : length around ≤ darts_of s + 1
  pub light : (t : IsSplit s split) → load_of (pair_weight s split t) around ≤ darts_of s
  pub leads : apply s.mesh (origin_of s (last_side polygon) ∷ []) (Across 0 step.face step.corner (not step.forward) 0) ≡ Some around
  pub goes : ((back ≡ false) × (around ≡ way_round s split (last_side polygon)))
      ⊎ ((back ≡ true) × (around ≡ way_back_round s split (last_side polygon)))

-- the way round read backward
round_back : (face : List ℕ) (rising : Bool) (t v : ℕ) (rest : List ℕ) → t < length face → v ≡ get_or face t 0
    → corners_from face rising t (length face) ≡ v ∷ rest → corners_from face (not rising) t (length face) ≡ v ∷ backward v rest
round_back face rising t v rest l is round =
    let m : ℕ = length face in
    let read : corners_from face (not rising) t m ≡ end_of v rest ∷ back v rest =
    ap (λ (c : ℕ). corners_from face (not rising) c m) (sym (once_round rising m t l)) ∙ read_back face rising t m v rest l round in
    let count : suc (m - 1) ≡ m = omega arith in
    let first : corners_from face (not rising) t m ≡ get_or face t 0 ∷ corners_from face (not rising) (next_corner (not rising) m t) (m - 1)
    =
    ap (corners_from face (not rising) t) (sym count) in
    let end : get_or face t 0 ≡ end_of v rest = (let both = sym first ∙ read in cc) in
    read ∙ ap (λ (x : ℕ). x ∷ back v rest) (sym end ∙ sym is) ∙ ap (λ (x : List ℕ). v ∷ x) (sym (backward_is v rest))

pub is_all_round : (s : OrientedMesh) (split : SplitView) (polygon : PolygonView) → IsOrientedSurface s → IsCutFrom s split polygon
    → 0 < polygon.degree
    → (back : Bool) (turned : FaceStep) (around : List ℕ) → last_side polygon < darts_of s → IsStepFrom s (last_side polygon) back turned
    → around ≡ corners_from (face_at s.mesh turned.face.0) turned.forward turned.corner (length (face_at s.mesh turned.face.0))
    → IsAllRound s split polygon back turned around
is_all_round s split polygon o c some back turned around l along is =
    let d : ℕ = last_side polygon in
    let v : ℕ = origin_of s d in
    let at = at_face s d l in
    let face_is : turned.face.0 ≡ face_of s d = along.face in
    let corner_is : turned.corner ≡ start_corner_of s d = along.corner in
    let ring : List ℕ = face_at s.mesh (face_of s d) in
    let root : face_of s d ≡ split.root_face = c.last_side some in
    let start : v ≡ get_or (face_at s.mesh turned.face.0) turned.corner 0 =
    at.vertex ∙ ap (λ (f : ℕ). get_or (face_at s.mesh f) (start_corner_of s d) 0) (sym face_is)
    ∙ ap (λ (k : ℕ). get_or (face_at s.mesh turned.face.0) k 0) (sym corner_is) in
    let leads : apply s.mesh (v ∷ []) (Across 0 turned.face turned.corner (not turned.forward) 0) ≡ Some around =
    round_move s.mesh turned.face turned.corner v turned.forward (subst (λ (f : ℕ). f < length s.mesh.faces) (sym face_is) at.in_list)
    (subst (λ (f : ℕ). turned.corner < length (face_at s.mesh f)) (sym face_is)
    (subst (λ (k : ℕ). k < length ring) (sym corner_is) at.in_face)) start ∙ ap Some (sym is) in
    let used : IsTrue (is_used s.mesh v) = (names_all s o).vertex_used d l in
    let one : IsWalk s.mesh (v ∷ []) =
    walk_from s.mesh (v ∷ []) (omega arith)
    (all_more (λ x. IsTrue (is_used s.mesh x)) v [] used (none_yet (λ x. IsTrue (is_used s.mesh x)))) tt in
    let rising : Bool = not (is_flipped s.signs (face_of s d)) in
    let read : around ≡ corners_from ring turned.forward (start_corner_of s d) (length ring) =
    is ∙ ap (λ (f : ℕ). corners_from (face_at s.mesh f) turned.forward turned.corner (length (face_at s.mesh f))) face_is
    ∙ ap (λ (k : ℕ). corners_from ring turned.forward k (length ring)) corner_is in
    let round : way_round s split d ≡ corners_from ring rising (start_corner_of s d) (length ring) =
    ap (λ (f : ℕ). corners_from (face_at s.mesh f) (not (is_flipped s.signs f)) (start_corner_of s d) (length (face_at s.mesh f)))
    (sym root) in
    let count : suc (length ring - 1) ≡ length ring = omega (arith, at.in_face) in
    let rest : List ℕ = drop 1 (way_round s split d) in
    let begins : corners_from ring rising (start_corner_of s d) (length ring) ≡ v ∷ rest =
    starts_so ring rising (start_corner_of s d) v (way_round s split d) at.in_face at.vertex round in
    record {
      long = omega (
        arith,
        ap (λ (l : List ℕ). length l) read,
        length-corners_from ring turned.forward (start_corner_of s d) (length ring),
        get_or-le-sum_by (λ (l : List ℕ). length l) s.mesh.faces (face_of s d) [] at.in_list,
      );
      light = λ t. subst (λ (l : List ℕ). load_of (pair_weight s split t) l ≤ darts_of s) (sym read)
          (root_round o t (face_of s d) (start_corner_of s d) turned.forward root at.in_list at.in_face);
      is_walk = keeps_walk s.mesh (v ∷ []) around (Across 0 turned.face turned.corner (not turned.forward) 0) one leads;
      leads = leads;
      goes = by ring rising (start_corner_of s d) v rest around (way_round s split d) read round at.in_face at.vertex begins back
          (unturned back (is_flipped s.signs (face_of s d)) turned.forward along.way);
    }
  where
    by : (ring : List ℕ) (rising : Bool) (t v : ℕ) (rest around round : List ℕ) → around ≡ corners_from ring turned.forward t (length ring)
        → round ≡ corners_from ring rising t (length ring) → t < length ring → v ≡ get_or ring t 0
        → corners_from ring rising t (length ring) ≡ v ∷ rest
        → (b : Bool) → turned.forward ≡ (if b then not rising else rising)
        → ((b ≡ false) × (around ≡ round)) ⊎ ((b ≡ true) × (around ≡ v ∷ backward v rest))
    by ring rising t v rest around round read same k start begins false way =
        inl (refl, read ∙ ap (λ (x : Bool). corners_from ring x t (length ring)) way ∙ sym same)
    by ring rising t v rest around round read same k start begins true way =
        inr (refl, read ∙ ap (λ (x : Bool). corners_from ring x t (length ring)) way ∙ round_back ring rising t v rest k start begins)

    unturned : (b flipped forward : Bool) → forward ≡ (if b then flipped else not flipped)
        → forward ≡ (if b then not (not flipped) else not flipped)
    unturned true true forward e = e
    unturned true false forward e = e
    unturned false flipped forward e = e

    starts_so : (ring : List ℕ) (rising : Bool) (t v : ℕ) (round : List ℕ) → t < length ring → v ≡ get_or ring t 0
        → round ≡ corners_from ring rising t (length ring)
        → corners_from ring rising t (length ring) ≡ v ∷ drop 1 round
    starts_so ring rising t v round l is same =
        let count : suc (length ring - 1) ≡ length ring = omega arith in
        let first : corners_from ring rising t (length ring) ≡ get_or ring t 0 ∷ corners_from ring rising
        (next_corner rising (length ring) t) (length ring - 1) =
        ap (corners_from ring rising t) (sym count) in
        let rest : drop 1 round ≡ corners_from ring rising (next_corner rising (length ring) t) (length ring - 1) =
        ap (drop 1) (same ∙ first) in
        first ∙ ap (λ (x : ℕ). x ∷ corners_from ring rising (next_corner rising (length ring) t) (length ring - 1)) (sym is)
        ∙ ap (λ (x : List ℕ). v ∷ x) (sym rest)

-- the one move leads at its peak
pub round_leads : (mesh : FaceList) (v passed : ℕ) (move : Move) (around : List ℕ) (none list : PeakedMoves)
    → none ≡ record { moves = []; peak = 0 }
    → apply mesh (v ∷ []) move ≡ Some around → passed ≡ darts around
    → list ≡ record { moves = none.moves ++ move ∷ []; peak = max none.peak passed }
    → LeadsAtPeak mesh (v ∷ []) list around
round_leads mesh v passed move around none list nothing leads count is =
    let zero_darts : 0 ≡ darts (v ∷ []) = omega arith in
    let nowhere : LeadsAtPeak mesh (v ∷ []) none (v ∷ []) =
    leads_nowhere mesh (v ∷ []) none (subst (λ (n : ℕ). none ≡ record { moves = []; peak = n }) zero_darts nothing) in
    one_more mesh (v ∷ []) (v ∷ []) around move none list nowhere leads
    (subst (λ (n : ℕ). list ≡ record { moves = none.moves ++ move ∷ []; peak = max none.peak n }) count is)

-- led off the cotree, that is the loop of the last side or the way back along it
pub round_freely : (s : OrientedMesh) (split : SplitView) (polygon : PolygonView) (back : Bool) (step : FaceStep) (around : List ℕ)
    (none list : PeakedMoves) (track : TrackView)
    → IsOrientedSurface s → IsSplit s split → IsCutFrom s split polygon → 0 < polygon.degree → IsAllRound s split polygon back step around
    → LeadsAtPeak s.mesh (origin_of s (last_side polygon) ∷ []) track.list track.walk
    → list.moves ≡ Across 0 step.face step.corner (not step.forward) 0 ∷ [] → MoreLeaveCotree s split list.moves track.list.moves
    → IsOffCotree s split track.walk
    → (root : ℕ) (ways : ℕ → List ℕ) → AreWaysUp s split root ways
    → AreFreelyEqual s.mesh track.walk (by_loop ways (origin_of s (last_side polygon)) (origin_of s (last_side polygon))
    (signed_loop s polygon root ways back))
round_freely s split polygon back step around none list track o t c some round leads begun leaves off root ways h =
    let v : ℕ = origin_of s (last_side polygon) in
    let move : Move = Across 0 step.face step.corner (not step.forward) 0 in
    let all : track.list.moves ≡ move ∷ leaves.0 = leaves.1 ∙ ap (λ (l : List Move). l ++ leaves.0) begun in
    let told = first_answer (λ x. apply_all s.mesh x leaves.0) (apply s.mesh (v ∷ []) move) track.walk
    (subst (λ (l : List Move). apply_all s.mesh (v ∷ []) l ≡ Some track.walk) all leads.leads) in
    let same : told.0 ≡ around = (let both = sym told.1 ∙ round.leads in cc) in
    let rest : apply_all s.mesh around leaves.0 ≡ Some track.walk =
    subst (λ (l : List ℕ). apply_all s.mesh l leaves.0 ≡ Some track.walk) same told.2 in
    elim round.goes [
      | inl on ↦
          subst (λ (b : Bool). AreFreelyEqual s.mesh track.walk (by_loop ways v v (signed_loop s polygon root ways b))) (sym on.0)
          (led_round s split polygon root ways track.walk leaves.0 o t c some h
          (subst (λ (l : List ℕ). apply_all s.mesh l leaves.0 ≡ Some track.walk) on.1 rest) leaves.2 off)
      | inr against ↦
          subst (λ (b : Bool). AreFreelyEqual s.mesh track.walk (by_loop ways v v (signed_loop s polygon root ways b))) (sym against.0)
          (led_back_round s split polygon root ways track.walk leaves.0 o t c some h
          (subst (λ (l : List ℕ). apply_all s.mesh l leaves.0 ≡ Some track.walk) against.1 rest) leaves.2 off)
    ]

-- the last side names a dart
pub last_below : (s : OrientedMesh) (split : SplitView) (polygon : PolygonView) → IsCutFrom s split polygon → 0 < polygon.degree
    → last_side polygon < darts_of s
last_below s split polygon c some = side_in s split polygon c some (polygon.degree - 1)

-- where a step from a dart stands
pub step_within : {s : OrientedMesh} {d : ℕ} {back : Bool} {step : FaceStep} → d < darts_of s → IsStepFrom s d back step
    → IsStepOf s.mesh step
step_within {s} {d} {step} l along = grind (arith, at_face)

pub step_starts : {s : OrientedMesh} {d : ℕ} {back : Bool} {step : FaceStep} → d < darts_of s → IsStepFrom s d back step
    → origin_of s d ≡ get_or (face_at s.mesh step.face.0) step.corner 0
step_starts {s} {d} {step} l along = grind (arith, at_face)

-- what is put together goes all round
pub gone_round : (s : OrientedMesh) (split : SplitView) (polygon : PolygonView) → IsOrientedSurface s → IsCutFrom s split polygon
    → 0 < polygon.degree
    → (back : Bool) (d : ℕ) (step : FaceStep) (mesh : FaceList) (names : List VertexName) → d ≡ last_side polygon → IsStepFrom s d back step
    → mesh ≡ s.mesh
    → numbers names ≡ corners_from (face_at mesh step.face.0) step.forward step.corner (length (face_at mesh step.face.0))
    → IsAllRound s split polygon back step (numbers names)
gone_round s split polygon o c some back d step mesh names last along same is =
    is_all_round s split polygon o c some back step (numbers names) (last_below s split polygon c some)
    (subst (λ (x : ℕ). IsStepFrom s x back step) last along)
    (is ∙ ap (λ (m : FaceList). corners_from (face_at m step.face.0) step.forward step.corner (length (face_at m step.face.0))) same)

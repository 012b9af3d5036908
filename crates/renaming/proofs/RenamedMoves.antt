-- Moves on walks of a renamed mesh, and homotopy there.
use Rattle.renaming.proofs.Common.{IsRenamed, renamed_move, ◌≡◌, ◌↔◌, ℕ, zero, suc, ◌-◌, ◌<◌, Bool, List, [], ◌∷◌, length, map, refl, ap, sym, ◌∙◌, subst, arith, length-map, map-append, max, not, Some, step_within, FaceList, IsFaceList, face_at, corners_from, next_corner, IsWalk, darts}
use Rattle.surf_model.proofs.ContextLemmas.{first_answer, stays_walk}
use Rattle.surf_model.proofs.ReplacementLemmas.{by_replacing}
use Rattle.surf_model.specs.Moves.{apply, apply_all, Leads, Homotopic, greatest_darts}
use Rattle.surf_model.specs.Replacements.{Replaces, place_of_move}
use Rattle.surf_model.specs.declared.moves.Move.{Move}
use Rattle.surf_model.specs.declared.moves.Move.TheVariants.{Insert, Remove, Across}
use Rattle.renaming.proofs.RenamedSides.{length_renamed, size_renamed, corner_renamed, edge_renamed, led_back}
use Rattle.renaming.proofs.RenamedWalks.{darts_renamed, restored}

place_renamed : (there : ℕ → ℕ) (move : Move) → place_of_move (renamed_move there move) ≡ place_of_move move
place_renamed there (Insert at via) = refl
place_renamed there (Remove at via) = refl
place_renamed there (Across at face corner forward taken) = refl

corners_renamed : (there back : ℕ → ℕ) (mesh other : FaceList) (f : ℕ) (forward : Bool) (t k : ℕ) → IsRenamed there back mesh other
    → t < length (face_at mesh f) → corners_from (face_at other f) forward t k ≡ map there (corners_from (face_at mesh f) forward t k)
corners_renamed there back mesh other f forward t zero h l = ap (λ x. x ∷ []) (corner_renamed there back mesh other f t h l)
corners_renamed there back mesh other f forward t (suc k) h l =
    let m : ℕ = length (face_at mesh f) in
    let rest = corners_renamed there back mesh other f forward (next_corner forward m t) k h (step_within forward m t l) in
    rw (corner_renamed there back mesh other f t h l, size_renamed there back mesh other f h, rest) refl

replaces_renamed : (there back : ℕ → ℕ) (mesh other : FaceList) (move : Move) (part others : List ℕ) → IsRenamed there back mesh other
    → Replaces mesh move part others → Replaces other (renamed_move there move) (map there part) (map there others)
replaces_renamed there back mesh other (Insert at via) part others h r =
    (there r.0, edge_renamed there back mesh other r.0 via.0 h r.1, ap (map there) r.2, ap (map there) r.3)
replaces_renamed there back mesh other (Remove at via) part others h r = (there r.0, ap (map there) r.1, ap (map there) r.2)
replaces_renamed there back mesh other (Across at face corner forward taken) part others h r =
    let f : ℕ = face.0 in
    let m : ℕ = length (face_at mesh f) in
    let long : length (face_at other f) ≡ m = size_renamed there back mesh other f h in (
      omega (arith, r.0, length_renamed there back mesh other h),
      omega (arith, r.1, long),
      omega (arith, r.2, long),
      ap (map there) r.3 ∙ sym (corners_renamed there back mesh other f forward corner taken h r.1),
      ap (map there) r.4 ∙ sym (corners_renamed there back mesh other f (not forward) corner (m - taken) h r.1)
          ∙ ap (λ n. corners_from (face_at other f) (not forward) corner (n - taken)) (sym long),
    )

-- a move does on the renamed walk what it does on the walk
pub move_renamed : (there back : ℕ → ℕ) (mesh other : FaceList) (move : Move) (walk next : List ℕ) → IsRenamed there back mesh other
    → 0 < length walk → apply mesh walk move ≡ Some next
    → apply other (map there walk) (renamed_move there move) ≡ Some (map there next)
move_renamed there back mesh other move walk next h start e =
    let r = (by_replacing mesh walk next move start).0 e in
    let long : 0 < length (map there walk) = omega (arith, start, length-map walk there) in
    (by_replacing other (map there walk) (map there next) (renamed_move there move) long).1 (record {
      before = map there r.before;
      part = map there r.part;
      other = map there r.other;
      after = map there r.after;
      walk_is = ap (map there) r.walk_is ∙ simp map-append;
      next_is = ap (map there) r.next_is ∙ simp map-append;
      place = length-map r.before there ∙ r.place ∙ sym (place_renamed there move);
      replaces = replaces_renamed there back mesh other move r.part r.other h r.replaces;
    })

pub moves_renamed : (there back : ℕ → ℕ) (mesh other : FaceList) (moves : List Move) (first second : List ℕ)
    → IsRenamed there back mesh other → 0 < length first → Leads mesh first moves second
    → Leads other (map there first) (map (renamed_move there) moves) (map there second)
moves_renamed there back mesh other [] first second h start e =
    let same : first ≡ second = cc in
    ap (λ (xs : List ℕ). Some (map there xs)) same
moves_renamed there back mesh other (move ∷ moves) first second h start e =
    let told = first_answer (λ x. apply_all mesh x moves) (apply mesh first move) second e in
    let one = move_renamed there back mesh other move first told.0 h start told.1 in
    let more = moves_renamed there back mesh other moves told.0 second h (stays_walk mesh first told.0 move start told.1) told.2 in
    rw one more

darts_more : (mesh : FaceList) (walk next : List ℕ) (move : Move) (moves : List Move) → apply mesh walk move ≡ Some next
    → greatest_darts mesh walk (move ∷ moves) ≡ max (darts walk) (greatest_darts mesh next moves)
unfolding greatest_darts
darts_more mesh walk next move moves e = rw e refl

darts_none : (mesh : FaceList) (walk : List ℕ) → greatest_darts mesh walk [] ≡ darts walk
unfolding greatest_darts
darts_none mesh walk = refl

-- and the renamed list passes as many darts
pub greatest_renamed : (there back : ℕ → ℕ) (mesh other : FaceList) (moves : List Move) (first second : List ℕ)
    → IsRenamed there back mesh other → 0 < length first → Leads mesh first moves second
    → greatest_darts other (map there first) (map (renamed_move there) moves) ≡ greatest_darts mesh first moves
greatest_renamed there back mesh other [] first second h start e =
    darts_none other (map there first) ∙ darts_renamed there first ∙ sym (darts_none mesh first)
greatest_renamed there back mesh other (move ∷ moves) first second h start e =
    let told = first_answer (λ x. apply_all mesh x moves) (apply mesh first move) second e in
    let one = move_renamed there back mesh other move first told.0 h start told.1 in
    let more = greatest_renamed there back mesh other moves told.0 second h (stays_walk mesh first told.0 move start told.1) told.2 in
    darts_more other (map there first) (map there told.0) (renamed_move there move) (map (renamed_move there) moves) one
    ∙ ap (λ n. max n (greatest_darts other (map there told.0) (map (renamed_move there) moves))) (darts_renamed there first)
    ∙ ap (max (darts first)) more
    ∙ sym (darts_more mesh first told.0 move moves told.1)

onward : (there back : ℕ → ℕ) (mesh other : FaceList) (first second : List ℕ) → IsRenamed there back mesh other → 0 < length first
    → Homotopic mesh first second → Homotopic other (map there first) (map there second)
onward there back mesh other first second h start moves =
    (map (renamed_move there) moves.0, moves_renamed there back mesh other moves.0 first second h start moves.1)

-- walks are homotopic exactly where the renamed walks are
pub homotopic_renamed : (there back : ℕ → ℕ) (mesh other : FaceList) (first second : List ℕ) → IsFaceList mesh
    → IsRenamed there back mesh other → IsWalk mesh first → IsWalk mesh second
    → Homotopic mesh first second ↔ Homotopic other (map there first) (map there second)
homotopic_renamed there back mesh other first second valid h w z = (
  onward there back mesh other first second h w.starts,
  λ moves.
      let home : IsRenamed back there other mesh = led_back there back mesh other valid h in
      let long : 0 < length (map there first) = omega (arith, w.starts, length-map first there) in
      let there_and_back : Homotopic mesh (map back (map there first)) (map back (map there second)) =
      onward back there other mesh (map there first) (map there second) home long moves in
      subst (λ (xs : List ℕ). Homotopic mesh xs second) (restored there back mesh other first h w)
      (subst (Homotopic mesh (map back (map there first))) (restored there back mesh other second h z) there_and_back),
)

-- Moves that put spurs in, take them out, or go round the face below a cotree edge in its place keep what a walk is worth, up to spurs: the
-- steps act on the loops by their values, and round a face that is not the root face these make nothing.
use Rattle.polygon_cut.proofs.Common.{dart_starts, darts_of, origin_of, face_of, start_corner_of, dart_at_corner, OrientedMesh, IsOrientedSurface, PolygonView, IsCutFrom, LeavesCotree, ◌≢◌, ℕ, ◌<◌, Bool, List, [], length, get_or, ap, sym, ◌∙◌, subst, arith, All, Some, face_at, corners_from, Leads, IsWalk, Move, Insert, Remove, Across, SplitView, IsSplit, run, walked, RoundIsNothing, FacesActAsNothing, CrossesOnly}
use Rattle.walk_actions.proofs.Actions.{moves_act}
use Rattle.polygon_cut.proofs.GroupLemmas.{IsGroup}
use Rattle.polygon_cut.proofs.WayLemmas.{loop_mul, loop_inv}
use Rattle.polygon_cut.proofs.FreeLoopLemmas.{SameFreely}
use Rattle.polygon_cut.proofs.FreeProductLemmas.{product_from, walk_product, times, Anywhere, steps_act, run_product, walked_product}
use Rattle.polygon_cut.proofs.FaceRoundLemmas.{dir, at_face, corners_read, vertices_on}
use Rattle.polygon_cut.proofs.DartLoopLemmas.{Loops, one_of}
use Rattle.polygon_cut.proofs.FreeSpokeLemmas.{free_group, free_value}
use Rattle.polygon_cut.proofs.FreeRoundLemmas.{step_value, steps_turn, steps_round, round_off_root}

-- what a walk is worth: the product of the free values of its darts
abbrev pub walk_value : (s : OrientedMesh) (split : SplitView) → IsOrientedSurface s → (t : IsSplit s split) → PolygonView → List ℕ
    → Loops s split t
walk_value s split o t polygon walk = walk_product loop_mul (one_of s split t) (step_value s split o t polygon) walk

module _ (s : OrientedMesh) (split : SplitView) (o : IsOrientedSurface s) (t : IsSplit s split) (polygon : PolygonView)
    (c : IsCutFrom s split polygon) (some : 0 < polygon.degree)
  where
    abbrev act : Loops s split t → ℕ → ℕ → Loops s split t
    act = times loop_mul (step_value s split o t polygon)

    -- once round a face that is not the root face
    round_nothing : (x : Loops s split t) (d : ℕ) → d < darts_of s → face_of s d ≢ split.root_face
        → SameFreely (walked act x (corners_from (face_at s.mesh (face_of s d)) (dir s (face_of s d)) (start_corner_of s d)
        (length (face_at s.mesh (face_of s d))))) x
    round_nothing x d l off_root =
        let g : IsGroup {X = Loops s split t} SameFreely loop_mul loop_inv (one_of s split t) = free_group s split t in
        let one : Loops s split t = one_of s split t in
        let step : ℕ → ℕ → Loops s split t = step_value s split o t polygon in
        let m : ℕ = length (face_at s.mesh (face_of s d)) in
        let made : Loops s split t = run act x (origin_of s d) (vertices_on s m d) in
        let product : Loops s split t = product_from loop_mul one step (origin_of s d) (vertices_on s m d) in
        let nothing : SameFreely product one =
        subst (λ y. SameFreely y one) (sym (steps_round loop_mul one (free_value s split o t polygon) o m d l))
        (round_off_root o t c some d l off_root) in
        subst (λ (w : List ℕ). SameFreely (walked act x w) x) (sym (corners_read o m d l))
        (g.on made (loop_mul x product) x (run_product g step x (origin_of s d) (vertices_on s m d))
        (g.on (loop_mul x product) (loop_mul x one) x (g.mul_same x x product one (g.itself x) nothing) (g.one_right x)))

    faces_nothing : FacesActAsNothing s.mesh SameFreely act Anywhere (λ f. f ≢ split.root_face)
    faces_nothing = record {
      round = λ f l off_root.
          let h = dart_starts s f 0 l (omega (arith, (o.faces.faces f [] l).polygon)) in
          let d : ℕ = dart_at_corner s f 0 in
          subst (λ x. (rising : Bool) × (corner : ℕ) × (corner < length (face_at s.mesh x))
          × RoundIsNothing {State = Loops s split t} SameFreely act Anywhere (face_at s.mesh x) rising corner) h.face (
            dir s (face_of s d),
            start_corner_of s d,
            (at_face s d h.within).in_face,
            λ x at. round_nothing x d h.within (λ same. off_root (sym h.face ∙ same)),
          );
    }

    crosses_off_root : (move : Move) → LeavesCotree s split move → CrossesOnly (λ f. f ≢ split.root_face) move
    crosses_off_root (Insert at via) h = tt
    crosses_off_root (Remove at via) h = tt
    crosses_off_root (Across at face corner forward taken) h = λ same. t.child_faces.not_root _ (h.below ∙ ap Some same)

    pub moves_keep_value : (moves : List Move) (walk next : List ℕ) → IsWalk s.mesh walk → All (LeavesCotree s split) moves
        → Leads s.mesh walk moves next
        → SameFreely (walk_value s split o t polygon walk) (walk_value s split o t polygon next)
    moves_keep_value moves walk next w h e =
        let g : IsGroup {X = Loops s split t} SameFreely loop_mul loop_inv (one_of s split t) = free_group s split t in
        let one : Loops s split t = one_of s split t in
        let step : ℕ → ℕ → Loops s split t = step_value s split o t polygon in
        let first : Loops s split t = walk_value s split o t polygon walk in
        let second : Loops s split t = walk_value s split o t polygon next in
        let one_made : Loops s split t = walked act one walk in
        let two_made : Loops s split t = walked act one next in
        let read : (list : List ℕ) → SameFreely (walked act one list) (walk_value s split o t polygon list) = walked_product g step in
        g.on first one_made second (g.turn one_made first (read walk)) (g.on one_made two_made second
        (moves_act s.mesh SameFreely act Anywhere
        (steps_act SameFreely loop_mul loop_inv one g s.mesh step (steps_turn o t c some)) (λ f. f ≢ split.root_face)
        faces_nothing moves walk next one w (λ k d l. crosses_off_root (get_or moves k d) (h k d l)) e tt) (read next))

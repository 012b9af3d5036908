-- Lists of moves below those on a double cover: one move more, and the peak.
use Rattle.folded_lists.proofs.Common.{greatest_darts-more, greatest_darts-none, lower_move, moves_under, ◌≡◌, ℕ, ◌+◌, ◌<◌, ◌≤◌, ◌-◌, max, Bool, false, List, [], ◌∷◌, ◌++◌, length, map, take, get_or, refl, ap, sym, ◌∙◌, subst, arith, length-map, map-append, take_all, take_more, Some, first_answer, stays_walk, FaceList, IsFaceList, PeakedMoves, apply, apply_all, greatest_darts, LeadsAtPeak, darts, Move}
use Rattle.double_covers.proofs.LiftedWalks.{walk_under}
use Rattle.double_covers.proofs.Sheets.{length-lifted}
use Rattle.double_covers.specs.Covers.{cover_of, under}
use Rattle.folded_lists.specs.LoweredLists.{LeadsBelow, LeadsBelowLifts}
use Rattle.orientation_cover.specs.Turns.{turns_by, lift_by}
use Rattle.orientation_cover.specs.Ways.{told_by}
use Rattle.std.proofs.lemmas.Bool.Decides.{nat_tests}

abbrev pub lower_list : FaceList → PeakedMoves → PeakedMoves
lower_list mesh list = record { moves = map (lower_move mesh.count (length mesh.faces)) list.moves; peak = list.peak }

-- one move of the cover
move_under : (mesh : FaceList) (turns : ℕ → ℕ → Bool) → IsFaceList mesh → (walk next : List ℕ) (move : Move) → 0 < length walk
    → apply (cover_of mesh turns) walk move ≡ Some next
    → apply mesh (map (under mesh.count) walk) (lower_move mesh.count (length mesh.faces) move) ≡ Some (map (under mesh.count) next)
move_under mesh turns valid walk next move start e =
    let low : List ℕ → List ℕ = map (under mesh.count) in
    let alone : apply_all (cover_of mesh turns) walk (move ∷ []) ≡ Some next = rw e refl in
    let below = moves_under mesh turns valid (move ∷ []) walk next start alone in
    let told =
    first_answer (λ x. apply_all mesh x []) (apply mesh (low walk) (lower_move mesh.count (length mesh.faces) move)) (low next) below in
    told.1 ∙ told.2

-- the walks on the way are as long below as above
greatest_under : (mesh : FaceList) (turns : ℕ → ℕ → Bool) → IsFaceList mesh → (moves : List Move) (walk next : List ℕ) → 0 < length walk
    → apply_all (cover_of mesh turns) walk moves ≡ Some next
    → greatest_darts mesh (map (under mesh.count) walk) (map (lower_move mesh.count (length mesh.faces)) moves)
    ≡ greatest_darts (cover_of mesh turns) walk moves
greatest_under mesh turns valid [] walk next start e =
    greatest_darts-none mesh (map (under mesh.count) walk) ∙ ap (λ (n : ℕ). n - 1) (length-map walk (under mesh.count))
    ∙ sym (greatest_darts-none (cover_of mesh turns) walk)
greatest_under mesh turns valid (move ∷ moves) walk next start e =
    let low : List ℕ → List ℕ = map (under mesh.count) in
    let below : List Move = map (lower_move mesh.count (length mesh.faces)) moves in
    let told = first_answer (λ x. apply_all (cover_of mesh turns) x moves) (apply (cover_of mesh turns) walk move) next e in
    let one = move_under mesh turns valid walk told.0 move start told.1 in
    let rest = greatest_under mesh turns valid moves told.0 next (stays_walk (cover_of mesh turns) walk told.0 move start told.1) told.2 in
    greatest_darts-more mesh (low walk) (low told.0) (lower_move mesh.count (length mesh.faces) move) below one
    ∙ ap (λ (n : ℕ). max n (greatest_darts mesh (low told.0) below)) (ap (λ (n : ℕ). n - 1) (length-map walk (under mesh.count)))
    ∙ ap (max (darts walk)) rest
    ∙ sym (greatest_darts-more (cover_of mesh turns) walk told.0 move moves told.1)

pub leads_below : (mesh : FaceList) (list below : PeakedMoves) → IsFaceList mesh → below ≡ lower_list mesh list → LeadsBelow mesh list below
leads_below mesh list below valid is = λ turns first second start h.
    subst (λ (l : PeakedMoves). LeadsAtPeak mesh (map (under mesh.count) first) l (map (under mesh.count) second)) (sym is)
    (record {
      leads = moves_under mesh turns valid list.moves first second start h.leads;
      peak = h.peak ∙ sym (greatest_under mesh turns valid list.moves first second start h.leads);
    })

pub leads_below_lifts : (mesh : FaceList) (list below : PeakedMoves) → IsFaceList mesh → below ≡ lower_list mesh list
    → LeadsBelowLifts mesh list below
leads_below_lifts mesh list below valid is = λ bits first second w v h.
    let turns : ℕ → ℕ → Bool = turns_by mesh (told_by mesh bits) in
    let start : 0 < length (lift_by mesh bits first) = omega (arith, w.starts, length-lifted turns mesh.count false first) in
    subst (λ (l : List ℕ). LeadsAtPeak mesh l below second) (walk_under mesh turns false first valid w)
    (subst (LeadsAtPeak mesh _ below) (walk_under mesh turns false second valid v)
    (leads_below mesh list below valid is turns (lift_by mesh bits first) (lift_by mesh bits second) start h))

-- ---- in the loop

greater_zero : (n : ℕ) → max n 0 ≡ n
greater_zero n = grind (arith, nat_tests)

abbrev peaked : List Move → ℕ → PeakedMoves
peaked moves peak = record { moves = moves; peak = peak }

-- one move more is lowered
pub lowered_more : (f : Move → Move) (moves : List Move) (k peak : ℕ) (move low : Move) (list : PeakedMoves) → k < length moves
    → get_or moves k move ≡ move → low ≡ f move → list ≡ record { moves = map f (take k moves); peak = peak }
    → peaked (list.moves ++ low ∷ []) (max list.peak 0) ≡ peaked (map f (take (k + 1) moves)) peak
lowered_more f moves k peak move low list l item same is =
    let lists : list.moves ++ low ∷ [] ≡ map f (take (k + 1) moves) =
    ap (λ (p : PeakedMoves). p.moves ++ low ∷ []) is ∙ ap (λ (m : Move). map f (take k moves) ++ m ∷ []) same
    ∙ sym (map-append f (take k moves) (move ∷ []))
    ∙ ap (map f) (sym (take_more moves k move l ∙ ap (λ (m : Move). take k moves ++ m ∷ []) item)) in
    ap (λ (ms : List Move). peaked ms (max list.peak 0)) lists
    ∙ ap (peaked (map f (take (k + 1) moves))) (greater_zero list.peak ∙ ap (λ (p : PeakedMoves). p.peak) is)

-- and in the end all of them
pub all_lowered : (mesh : FaceList) (list below : PeakedMoves) (k : ℕ) → length list.moves ≤ k
    → below ≡ peaked (map (lower_move mesh.count (length mesh.faces)) (take k list.moves)) list.peak → below ≡ lower_list mesh list
all_lowered mesh list below k l is =
    is ∙ ap (λ (ms : List Move). peaked (map (lower_move mesh.count (length mesh.faces)) ms) list.peak) (take_all k list.moves l)

pub length-lower_list : (mesh : FaceList) (list below : PeakedMoves) → below ≡ lower_list mesh list
    → length below.moves ≡ length list.moves
length-lower_list mesh list below is =
    ap (λ (l : PeakedMoves). length l.moves) is ∙ length-map list.moves (lower_move mesh.count (length mesh.faces))

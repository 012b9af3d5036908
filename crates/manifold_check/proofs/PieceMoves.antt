-- Moves of a part of a mesh that no edge joins to the rest: on its own faces, and on those of the whole mesh.
use Rattle.manifold_check.proofs.Common.{◌≡◌, ◌↔◌, ℕ, ◌+◌, ◌-◌, ◌<◌, ◌≤◌, Bool, List, [], ◌∷◌, ◌++◌, length, get_or, refl, ap, sym, ◌∙◌, subst, arith, common_steps, max, not, Some, FaceList, face_at, corners_from, submesh, move_of_whole_mesh, renamed_moves, IsWalk, darts}
use Rattle.surf_model.proofs.ContextLemmas.{first_answer, stays_walk}
use Rattle.surf_model.proofs.ReplacementLemmas.{by_replacing}
use Rattle.surf_model.proofs.RoundLemmas.{first_corner}
use Rattle.surf_model.proofs.WayBackLemmas.{keeps_walk, keeps_ends}
use Rattle.surf_model.specs.Moves.{apply, apply_all, Leads, Homotopic, greatest_darts}
use Rattle.surf_model.specs.Replacements.{Replaces, place_of_move}
use Rattle.surf_model.specs.declared.moves.Move.{Move}
use Rattle.surf_model.specs.declared.moves.Move.TheVariants.{Insert, Remove, Across}
use Rattle.manifold_check.proofs.PieceLemmas.{IsPiece, HasPlaceAmong, length-submesh, face-submesh, edge_up, edge_down, walk_inside}

place_renamed : (names : List ℕ) (move : Move) → place_of_move (move_of_whole_mesh names move) ≡ place_of_move move
place_renamed names (Insert at via) = refl
place_renamed names (Remove at via) = refl
place_renamed names (Across at face corner forward taken) = refl

-- one way round a ring takes the place of the other
abbrev RoundsRing : Bool → ℕ → ℕ → List ℕ → List ℕ → List ℕ → Type 0
RoundsRing forward corner taken part other ring =
    (corner < length ring) × (taken ≤ length ring) × (part ≡ corners_from ring forward corner taken)
    × (other ≡ corners_from ring (not forward) corner (length ring - taken))

replaces_up : (mesh : FaceList) (Inside : ℕ → Type 0) (names : List ℕ) (move : Move) (part other : List ℕ) → IsPiece mesh Inside names
    → Replaces (submesh mesh names) move part other → Replaces mesh (move_of_whole_mesh names move) part other
replaces_up mesh Inside names (Insert at via) part other h r = (r.0, edge_up mesh Inside names r.0 via.0 h r.1, r.2, r.3)
replaces_up mesh Inside names (Remove at via) part other h r = r
replaces_up mesh Inside names (Across at face corner forward taken) part other h r = grind (arith, length-submesh, face-submesh)

-- a move of the submesh does the same on the whole mesh, once its face is named as there
pub move_up : (mesh : FaceList) (Inside : ℕ → Type 0) (names walk next : List ℕ) (move : Move) → IsPiece mesh Inside names
    → 0 < length walk → apply (submesh mesh names) walk move ≡ Some next → apply mesh walk (move_of_whole_mesh names move) ≡ Some next
move_up mesh Inside names walk next move h start e =
    let r = (by_replacing (submesh mesh names) walk next move start).0 e in
    (by_replacing mesh walk next (move_of_whole_mesh names move) start).1 (record {
      before = r.before;
      part = r.part;
      other = r.other;
      after = r.after;
      walk_is = r.walk_is;
      next_is = r.next_is;
      place = r.place ∙ sym (place_renamed names move);
      replaces = replaces_up mesh Inside names move r.part r.other h r.replaces;
    })

-- the entry at which a part of a walk starts
entry_at : (walk before part after rest : List ℕ) (a : ℕ) → walk ≡ before ++ part ++ after → part ≡ a ∷ rest
    → (length before < length walk) × (get_or walk (length before) 0 ≡ a)
entry_at walk before part after rest a is starts = grind (arith, common_steps)

-- a move that is one of the submesh
pub record ComesFromMove (mesh : FaceList) (names walk : List ℕ) (move : Move) (next : List ℕ) : Type 0 where
  pub move_there : Move
  pub is : move_of_whole_mesh names move_there ≡ move
  pub applies : apply (submesh mesh names) walk move_there ≡ Some next

-- the same of what it replaces
record Narrowed (mesh : FaceList) (names : List ℕ) (move : Move) (part other : List ℕ) : Type 0 where
  move_there : Move
  is : move_of_whole_mesh names move_there ≡ move
  replaces : Replaces (submesh mesh names) move_there part other

replaces_down : (mesh : FaceList) (Inside : ℕ → Type 0) (names : List ℕ) (move : Move) (part other : List ℕ) → IsPiece mesh Inside names
    → ((a : ℕ) (rest : List ℕ) → part ≡ a ∷ rest → Inside a) → Replaces mesh move part other → Narrowed mesh names move part other
replaces_down mesh Inside names (Insert at via) part other h inside r = record {
  move_there = Insert at via;
  is = refl;
  replaces = (r.0, edge_down mesh Inside names r.0 via.0 h (inside r.0 [] r.2) r.1, r.2, r.3);
}
replaces_down mesh Inside names (Remove at via) part other h inside r = record { move_there = Remove at via; is = refl; replaces = r }
replaces_down mesh Inside names (Across at face corner forward taken) part other h inside r =
    let ring : List ℕ = face_at mesh face.0 in
    let first = first_corner ring forward corner taken in
    let found : HasPlaceAmong names face.0 = h.all face.0 corner r.0 r.1 (inside (get_or ring corner 0) first.0 (r.3 ∙ first.1)) in
    let same : face_at (submesh mesh names) found.place ≡ ring =
    face-submesh mesh names found.place found.within ∙ ap (face_at mesh) found.named in
    let name : ℕ → Move = λ f. Across at (record { 0 = f }) corner forward taken in
    let round : RoundsRing forward corner taken part other (face_at (submesh mesh names) found.place) =
    subst (RoundsRing forward corner taken part other) (sym same) (r.1, r.2, r.3, r.4) in
    record {
      move_there = name found.place;
      is = ap name found.named;
      replaces = (omega (arith, found.within, length-submesh mesh names), round.0, round.1, round.2, round.3);
    }

-- a move of a walk inside is one of the submesh
pub move_down : (mesh : FaceList) (Inside : ℕ → Type 0) (names walk next : List ℕ) (move : Move) → IsPiece mesh Inside names
    → IsWalk mesh walk → Inside (get_or walk 0 0) → apply mesh walk move ≡ Some next → ComesFromMove mesh names walk move next
move_down mesh Inside names walk next move h w start e =
    let r = (by_replacing mesh walk next move w.starts).0 e in
    let inside : (a : ℕ) (rest : List ℕ) → r.part ≡ a ∷ rest → Inside a = λ a rest starts.
    let at = entry_at walk r.before r.part r.after rest a r.walk_is starts in
    subst Inside at.1 (walk_inside mesh Inside names walk (length r.before) h w start at.0) in
    let found : Narrowed mesh names move r.part r.other = replaces_down mesh Inside names move r.part r.other h inside r.replaces in
    record {
      move_there = found.move_there;
      is = found.is;
      applies = (by_replacing (submesh mesh names) walk next found.move_there w.starts).1 (record {
        before = r.before;
        part = r.part;
        other = r.other;
        after = r.after;
        walk_is = r.walk_is;
        next_is = r.next_is;
        place = r.place ∙ ap place_of_move (sym found.is) ∙ place_renamed names found.move_there;
        replaces = found.replaces;
      });
    }

-- a list of moves of the submesh does the same on the whole mesh, once its faces are named as there
pub moves_up : (mesh : FaceList) (Inside : ℕ → Type 0) (names : List ℕ) (moves : List Move) (walk next : List ℕ)
    → IsPiece mesh Inside names → 0 < length walk → Leads (submesh mesh names) walk moves next
    → Leads mesh walk (renamed_moves names moves) next
moves_up mesh Inside names [] walk next h start e = e
moves_up mesh Inside names (move ∷ moves) walk next h start e =
    let told = first_answer (λ x. apply_all (submesh mesh names) x moves) (apply (submesh mesh names) walk move) next e in
    let one = move_up mesh Inside names walk told.0 move h start told.1 in
    let more = moves_up mesh Inside names moves told.0 next h (stays_walk (submesh mesh names) walk told.0 move start told.1) told.2 in
    rw one more

-- a list of moves that is one of the submesh
pub record ComesFromMoves (mesh : FaceList) (names walk : List ℕ) (moves : List Move) (next : List ℕ) : Type 0 where
  pub moves_there : List Move
  pub are : renamed_moves names moves_there ≡ moves
  pub lead : Leads (submesh mesh names) walk moves_there next

pub moves_down : (mesh : FaceList) (Inside : ℕ → Type 0) (names : List ℕ) (moves : List Move) (walk next : List ℕ)
    → IsPiece mesh Inside names → IsWalk mesh walk → Inside (get_or walk 0 0) → Leads mesh walk moves next
    → ComesFromMoves mesh names walk moves next
moves_down mesh Inside names [] walk next h w start e = record { moves_there = []; are = refl; lead = e }
moves_down mesh Inside names (move ∷ moves) walk next h w start e =
    let told = first_answer (λ x. apply_all mesh x moves) (apply mesh walk move) next e in
    let one : ComesFromMove mesh names walk move told.0 = move_down mesh Inside names walk told.0 move h w start told.1 in
    let ends = keeps_ends mesh walk told.0 move w.starts told.1 in
    let more : ComesFromMoves mesh names told.0 moves next =
    moves_down mesh Inside names moves told.0 next h (keeps_walk mesh walk told.0 move w told.1) (subst Inside ends.starts start) told.2 in
    record {
      moves_there = one.move_there ∷ more.moves_there;
      are = ap (λ m. m ∷ renamed_moves names more.moves_there) one.is ∙ ap (λ (ms : List Move). move ∷ ms) more.are;
      lead = rw one.applies more.lead;
    }

-- walks inside are homotopic on the whole mesh exactly where they are on the submesh
pub homotopic_alike : (mesh : FaceList) (Inside : ℕ → Type 0) (names first second : List ℕ) → IsPiece mesh Inside names
    → IsWalk mesh first → Inside (get_or first 0 0) → Homotopic mesh first second ↔ Homotopic (submesh mesh names) first second
homotopic_alike mesh Inside names first second h w start = (
  λ moves.
      let from : ComesFromMoves mesh names first moves.0 second = moves_down mesh Inside names moves.0 first second h w start moves.1 in
      (from.moves_there, from.lead),
  λ moves. (renamed_moves names moves.0, moves_up mesh Inside names moves.0 first second h w.starts moves.1),
)

darts_more : (mesh : FaceList) (walk next : List ℕ) (move : Move) (moves : List Move) → apply mesh walk move ≡ Some next
    → greatest_darts mesh walk (move ∷ moves) ≡ max (darts walk) (greatest_darts mesh next moves)
unfolding greatest_darts
darts_more mesh walk next move moves e = rw e refl

darts_none : (mesh : FaceList) (walk : List ℕ) → greatest_darts mesh walk [] ≡ darts walk
unfolding greatest_darts
darts_none mesh walk = refl

-- and the list passes as many darts
pub greatest_alike : (mesh : FaceList) (Inside : ℕ → Type 0) (names : List ℕ) (moves : List Move) (walk next : List ℕ)
    → IsPiece mesh Inside names → 0 < length walk → Leads (submesh mesh names) walk moves next
    → greatest_darts mesh walk (renamed_moves names moves) ≡ greatest_darts (submesh mesh names) walk moves
greatest_alike mesh Inside names [] walk next h start e = darts_none mesh walk ∙ sym (darts_none (submesh mesh names) walk)
greatest_alike mesh Inside names (move ∷ moves) walk next h start e =
    let told = first_answer (λ x. apply_all (submesh mesh names) x moves) (apply (submesh mesh names) walk move) next e in
    let one = move_up mesh Inside names walk told.0 move h start told.1 in
    let more = greatest_alike mesh Inside names moves told.0 next h
    (stays_walk (submesh mesh names) walk told.0 move start told.1) told.2 in
    darts_more mesh walk told.0 (move_of_whole_mesh names move) (renamed_moves names moves) one ∙ ap (max (darts walk)) more
    ∙ sym (darts_more (submesh mesh names) walk told.0 move moves told.1)

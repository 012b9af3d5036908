-- What is found of two walks on the component in which they lie, and what it tells of the whole mesh.
use Rattle.certify_commands.proofs.Common.{IsWithinLimits, IsOfFaces, TellsOfSome, Words, IsPart, IsComponentOf, surface_of, Component, Whole, Alone, DenialHolds, IsGood, LabellingView, signs_of, ◌≡◌, ℕ, ◌+◌, ◌<◌, List, ◌∷◌, ◌++◌, length, get_or, take, sym, ap, ◌∙◌, subst, arith, [], map-append, take_more, All, Some, max, component_at, component_mesh, FaceList, total_sides, apply, apply_all, Leads, PeakedMoves, LeadsAtPeak, submesh, move_of_whole_mesh, renamed_moves, signs_among, IsWalk, Word}
use Rattle.closed_surfaces.specs.declared.component.Part.{Part}
use Rattle.manifold_check.proofs.PartPieces.{IsOfComponent, piece_of_parts}
use Rattle.manifold_check.proofs.PieceLemmas.{length-submesh}
use Rattle.manifold_check.proofs.PieceMoves.{moves_up, greatest_alike}
use Rattle.manifold_check.proofs.PieceSides.{total_alone}
use Rattle.std.proofs.lemmas.Bool.Decides.{nat_tests}
use Rattle.std.proofs.lemmas.List.Elements.{All-nil, All-cons}
use Rattle.surf_model.proofs.ContextLemmas.{first_answer, stays_walk}
use Rattle.surf_model.proofs.ReplacementLemmas.{by_replacing}
use Rattle.surf_model.specs.declared.moves.Move.{Move}
use Rattle.surf_model.specs.declared.moves.Move.TheVariants.{Insert, Remove, Across}
use Rattle.widening.proofs.WidenedLemmas.{Widening, good_widened}
use Rattle.widening.proofs.WidenedPaths.{word_alike}
use Rattle.widening.specs.Widened.{IsWidened}

-- ---- the walks

-- ---- a component has no more sides than the whole

pub limits_there : (mesh : FaceList) (v : ℕ) (component : Component) (first second : List ℕ) → IsComponentOf mesh v component
    → IsWithinLimits mesh first second → IsWithinLimits (surface_of component).mesh first second
limits_there mesh v (Whole surface) first second h within = subst (λ (m : FaceList). IsWithinLimits m first second) (sym h) within
limits_there mesh v (Alone part) first second h within =
    let is : IsPart part = h.0 in
    let fewer = total_alone part.whole.faces (IsOfComponent part.parts.places part.place) (component_at part.parts part.place)
    (piece_of_parts part.whole.faces part.parts part.place is.parts is.within) in
    record {
      sides = omega (arith, fewer, ap total_sides is.mesh, ap total_sides h.1, within.sides);
      few = within.few;
    }

-- ---- what is found there

-- a move that applies names a face, if any
move_of_faces : (mesh : FaceList) (walk next : List ℕ) (move : Move) → 0 < length walk → apply mesh walk move ≡ Some next
    → IsOfFaces (length mesh.faces) move
move_of_faces mesh walk next (Insert at via) start e = tt
move_of_faces mesh walk next (Remove at via) start e = tt
move_of_faces mesh walk next (Across at face corner forward taken) start e =
    ((by_replacing mesh walk next (Across at face corner forward taken) start).0 e).replaces.0

moves_of_faces : (mesh : FaceList) (moves : List Move) (walk next : List ℕ) → 0 < length walk → Leads mesh walk moves next
    → All (IsOfFaces (length mesh.faces)) moves
moves_of_faces mesh [] walk next start e = All-nil (IsOfFaces (length mesh.faces))
moves_of_faces mesh (move ∷ moves) walk next start e =
    let told = first_answer (λ (x : List ℕ). apply_all mesh x moves) (apply mesh walk move) next e in
    All-cons (IsOfFaces (length mesh.faces)) move moves (move_of_faces mesh walk told.0 move start told.1)
    (moves_of_faces mesh moves told.0 next (stays_walk mesh walk told.0 move start told.1) told.2)

-- the moves of a component name its faces
pub names_of_moves : (part : Part) (first second : List ℕ) (list : PeakedMoves) → IsPart part → IsWalk part.alone.mesh first
    → LeadsAtPeak part.alone.mesh first list second → All (IsOfFaces (length (component_at part.parts part.place))) list.moves
names_of_moves part first second list is w h =
    let names : List ℕ = component_at part.parts part.place in
    subst (λ (n : ℕ). All (IsOfFaces n) list.moves)
    (ap (λ (m : FaceList). length m.faces) is.mesh ∙ length-submesh part.whole.faces names)
    (moves_of_faces part.alone.mesh list.moves first second w.starts h.leads)

abbrev peaked : List Move → ℕ → PeakedMoves
peaked moves peak = record { moves = moves; peak = peak }

greater_zero : (n : ℕ) → max n 0 ≡ n
greater_zero n = grind (arith, nat_tests)

-- one move more is renamed
pub renamed_more : (names : List ℕ) (moves : List Move) (k peak : ℕ) (move renamed : Move) (list : PeakedMoves) → k < length moves
    → get_or moves k move ≡ move → renamed ≡ move_of_whole_mesh names move
    → list ≡ record { moves = renamed_moves names (take k moves); peak = peak }
    → peaked (list.moves ++ renamed ∷ []) (max list.peak 0) ≡ peaked (renamed_moves names (take (k + 1) moves)) peak
renamed_more names moves k peak move renamed list l item same is =
    let lists : list.moves ++ renamed ∷ [] ≡ renamed_moves names (take (k + 1) moves) =
    ap (λ (p : PeakedMoves). p.moves ++ renamed ∷ []) is ∙ ap (λ (m : Move). renamed_moves names (take k moves) ++ m ∷ []) same
    ∙ sym (map-append (move_of_whole_mesh names) (take k moves) (move ∷ []))
    ∙ ap (renamed_moves names) (sym (take_more moves k move l ∙ ap (λ (m : Move). take k moves ++ m ∷ []) item)) in
    ap (λ (ms : List Move). peaked ms (max list.peak 0)) lists
    ∙ ap (peaked (renamed_moves names (take (k + 1) moves))) (greater_zero list.peak ∙ ap (λ (p : PeakedMoves). p.peak) is)

-- a list that leads there leads on the whole, renamed, at the same peak
pub renamed_leads : (part : Part) (first second : List ℕ) (list : PeakedMoves) → IsPart part → IsWalk part.whole.faces first
    → LeadsAtPeak part.alone.mesh first list second
    → LeadsAtPeak part.whole.faces first
    (record { moves = renamed_moves (component_at part.parts part.place) list.moves; peak = list.peak }) second
renamed_leads part first second list is w h =
    let names : List ℕ = component_at part.parts part.place in
    let there : LeadsAtPeak (submesh part.whole.faces names) first list second =
    subst (λ (m : FaceList). LeadsAtPeak m first list second) is.mesh h in
    let piece = piece_of_parts part.whole.faces part.parts part.place is.parts is.within in
    record {
      leads = moves_up part.whole.faces (IsOfComponent part.parts.places part.place) names list.moves first second piece w.starts
          there.leads;
      peak = there.peak ∙ sym (greatest_alike part.whole.faces (IsOfComponent part.parts.places part.place) names list.moves first
          second piece
          w.starts there.leads);
    }

-- the labelling that is found is good for the component's own faces, and has the signs that these have in the whole
pub good_there : (part : Part) (good : LabellingView) (one other : Word) → IsPart part → TellsOfSome part.alone (Words good one other)
    → IsGood (component_mesh part.whole.faces part.parts part.place) good
good_there part good one other is some = subst (λ (m : FaceList). IsGood m good) is.mesh some.3.0.good

pub signs_there : (part : Part) (good : LabellingView) (one other : Word) → IsPart part → TellsOfSome part.alone (Words good one other)
    → signs_of good ≡ signs_among part.whole.signs (component_at part.parts part.place)
signs_there part good one other is some = some.3.1 ∙ is.signs

-- words that differ there differ on the whole, under the widened labelling
pub widened_holds : (part : Part) (first second : List ℕ) (good wide : LabellingView) (one other : Word) → IsPart part
    → IsWalk part.whole.faces first → IsWalk part.whole.faces second
    → get_or part.parts.places (get_or first 0 0) 0 ≡ part.place → get_or part.parts.places (get_or second 0 0) 0 ≡ part.place
    → signs_of good ≡ part.alone.signs
    → DenialHolds part.alone.mesh first second (record { labelling = good; first = one; second = other })
    → IsWidened part.whole.faces part.whole.signs (component_at part.parts part.place) good wide
    → DenialHolds part.whole.faces first second (record { labelling = wide; first = one; second = other })
widened_holds part first second good wide one other is w z at_first at_second signs h widened =
    let whole : FaceList = part.whole.faces in
    let there : DenialHolds (component_mesh whole part.parts part.place) first second
    (record { labelling = good; first = one; second = other }) =
    subst (λ (m : FaceList). DenialHolds m first second (record { labelling = good; first = one; second = other })) is.mesh h in
    let widening : Widening whole part.parts part.place part.whole.signs good wide =
    record {
      valid = is.whole.valid;
      parts_of = is.parts;
      within = is.within;
      closed = is.whole.manifold;
      coherent = is.whole.coherent;
      good = there.good;
      signs_are = signs ∙ is.signs;
      widened = widened;
      piece = piece_of_parts whole part.parts part.place is.parts is.within;
    } in
    record {
      good = good_widened whole part.parts part.place part.whole.signs good wide widening;
      first_word = (word_alike whole part.parts part.place part.whole.signs good wide first one widening w at_first).1 there.first_word;
      second_word = (word_alike whole part.parts part.place part.whole.signs good wide second other widening z at_second).1
          there.second_word;
      differ = there.differ;
    }

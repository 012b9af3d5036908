-- What is answered of files that spell a closed manifold, and two walks of it.
use Rattle.cover_commands.proofs.Common.{mesh_valid, has_file_size, mesh_passes, spelled_pair, pair_told, held, meant_told, yes_with, Pass, Passes, Holds, IsTold, SpellsMesh, SpellsPair, AnswersTo, IsAnswerOf, Yes, No, WithWays, ways_in, mesh_cover, lifts_on, lifts_answer, lifts_status, lifts_text, lifted_walks, do_meet, walk_lines, AreLiftsTold, off_text, cover_by, lift_by, AreWays, ◌≡◌, inl, inr, ℕ, ◌<◌, Bool, true, false, List, [], ◌∷◌, length, get_or, refl, ap, sym, ◌∙◌, arith, cases_Bool, eqb-true, eq-eqb, both_ways, Option, Ok, if◌then◌else◌, Files, FaceList, IsFaceList, HasFileSize, IsClosedManifold, darts, IsWalk, HaveCommonEnds, AreWalkPair, WalkPair, walks_of}
use Rattle.closed_covers.proofs.ClosedCovers.{cover_surface}
use Rattle.commands.specs.Certificates.{decision_line}
use Rattle.commands.specs.Refusals.{off_line}
use Rattle.commands.specs.declared.status.Status.{Status}
use Rattle.double_covers.proofs.LiftedMoves.{cover_valid}
use Rattle.double_covers.proofs.Sheets.{length-lifted}
use Rattle.off_reader.specs.OffTexts.{meaning_of}
use Rattle.off_writer.proofs.ReadingBack.{reads_back}
use Rattle.orientation_cover.proofs.CoverLemmas.{turning}
use Rattle.orientation_cover.proofs.LiftLemmas.{lift_is_walk, lifts_homotopic}
use Rattle.surf_model.proofs.WayBackLemmas.{list_keeps_ends}
use Rattle.surf_model.specs.Moves.{Homotopic}
use Rattle.surf_model.specs.OrientableSurfaces.{IsOrientableSurface}
use Rattle.surf_model.specs.declared.decisions.Answer.TheVariants.{Different}
use Rattle.cover_commands.proofs.WalkTexts.{lifts_read}

-- the mesh of a file, with ways round its vertices
ways_passed : (files : Option Files) (name : List ℕ) (mesh : FaceList) (bits : List Bool) → Holds files name (SpellsMesh mesh)
    → IsClosedManifold mesh → AreWays mesh bits → Passes (ways_in files name) (record { mesh = mesh; bits = bits })
ways_passed files name mesh bits spelled is are =
    inr (mesh, mesh_passes files name mesh spelled, inr (mesh, (is, refl), inr (bits, are, refl)))

ways_told : (files : Option Files) (name : List ℕ) → IsTold files name → (ways_in files name).EachFile (IsTold files)
ways_told files name told = (
  (told, λ bytes _. meant_told files off_line (meaning_of bytes)),
  λ _ _. (tt, λ _ _. (tt, λ _ _. tt)),
)

pub means_cover : (files : Option Files) (name : List ℕ) (status : Status) (text : List ℕ) (mesh : FaceList) (bits : List Bool)
    → AnswersTo files (mesh_cover files name) status text → Holds files name (SpellsMesh mesh) → IsClosedManifold mesh
    → AreWays mesh bits → HasFileSize (cover_by mesh bits) → (status ≡ Yes) × (meaning_of text ≡ Ok (cover_by mesh bits))
    × IsOrientableSurface (cover_by mesh bits)
means_cover files name status text mesh bits answer spelled is are small =
    let told : IsTold files name = (held files name (SpellsMesh mesh) spelled).told in
    let valid : IsFaceList mesh = mesh_valid files name mesh (mesh_passes files name mesh spelled) in
    let cover : FaceList = cover_by mesh bits in
    let on : WithWays = record { mesh = mesh; bits = bits } in
    let is_answer : IsAnswerOf (Pass (yes_with (off_text cover))) status text =
    answer.exact ((ways_told files name told, λ _ _. tt), λ _ _. tt) (Pass (yes_with (off_text cover)))
    (inr (cover, inr (on, ways_passed files name mesh bits spelled is are, (small, refl)), refl)) in (
      is_answer.status_is,
      ap meaning_of is_answer.text_is ∙ reads_back cover (cover_valid mesh (turning mesh bits) valid) small,
      cover_surface mesh bits valid are is,
    )

-- ---- lifts

lift_starts : (mesh : FaceList) (bits : List Bool) (walk : List ℕ) → 0 < length walk
    → get_or (lift_by mesh bits walk) 0 0 ≡ get_or walk 0 0
lift_starts mesh bits [] l = absurd (omega (arith, l))
lift_starts mesh bits (u ∷ rest) l = refl

-- what is told of two walks whose lifts meet, or do not
told_of : (mesh : FaceList) (bits : List Bool) (first second : List ℕ) (status : Status) (text : List ℕ) → IsFaceList mesh
    → HasFileSize mesh → AreWays mesh bits → AreWalkPair mesh first second
    → status ≡ lifts_status (record { first = lift_by mesh bits first; second = lift_by mesh bits second })
    → text ≡ lifts_text (record { first = lift_by mesh bits first; second = lift_by mesh bits second })
    → AreLiftsTold mesh bits first second status text
told_of mesh bits first second status text valid small are pair is_status is_text =
    let one : List ℕ = lift_by mesh bits first in
    let two : List ℕ = lift_by mesh bits second in
    let lifts : WalkPair = record { first = one; second = two } in
    let last_one : ℕ = get_or one (darts one) 0 in
    let last_two : ℕ = get_or two (darts two) 0 in
    let walk_one : IsWalk (cover_by mesh bits) one = lift_is_walk mesh bits first valid are pair.first_walk in
    let walk_two : IsWalk (cover_by mesh bits) two = lift_is_walk mesh bits second valid are pair.second_walk in
    let above : do_meet lifts ≡ true → AreWalkPair (cover_by mesh bits) one two = λ meet. record {
      first_walk = walk_one;
      second_walk = walk_two;
      ends = record {
        starts =
            lift_starts mesh bits first pair.first_walk.starts ∙ pair.ends.starts
            ∙ sym (lift_starts mesh bits second pair.second_walk.starts);
        ends = eqb-true last_one last_two meet;
      };
    } in
    elim (cases_Bool (do_meet lifts)) [
      | inl meet ↦ inl (
        is_status ∙ ap (λ (b : Bool). if b then Yes else No) meet,
        above meet,
        is_text ∙ ap (λ (b : Bool). if b then walk_lines lifts else decision_line Different) meet,
        λ short_one short_two. record {
          text =
              ap walks_of (is_text ∙ ap (λ (b : Bool). if b then walk_lines lifts else decision_line Different) meet)
              ∙ lifts_read (cover_by mesh bits) one two (cover_valid mesh (turning mesh bits) valid)
              (omega (arith, small.few_vertices)) walk_one walk_two
              (omega (arith, short_one, length-lifted (turning mesh bits) mesh.count false first))
              (omega (arith, short_two, length-lifted (turning mesh bits) mesh.count false second));
          are = above meet;
        },
      )
      | inr apart ↦ inr (
        is_status ∙ ap (λ (b : Bool). if b then Yes else No) apart,
        is_text ∙ ap (λ (b : Bool). if b then walk_lines lifts else decision_line Different) apart,
        λ homotopic.
            let there : Homotopic (cover_by mesh bits) one two =
            (lifts_homotopic mesh bits first second valid are pair.first_walk pair.second_walk).1 homotopic in
            let ends : HaveCommonEnds one two = list_keeps_ends (cover_by mesh bits) there.0 one two walk_one.starts there.1 in
            both_ways (do_meet lifts) apart (eq-eqb last_one last_two ends.ends),
      )
    ]

pub lifts_told : (files : Option Files) (mesh_name walks_name : List ℕ) (status : Status) (text : List ℕ) (mesh : FaceList)
    (bits : List Bool) (first second : List ℕ) → AnswersTo files (lifted_walks files mesh_name walks_name) status text
    → Holds files mesh_name (SpellsMesh mesh) → Holds files walks_name (SpellsPair mesh first second) → IsClosedManifold mesh
    → AreWays mesh bits → AreLiftsTold mesh bits first second status text
lifts_told files mesh_name walks_name status text mesh bits first second answer spelled walks is are =
    let told : IsTold files mesh_name = (held files mesh_name (SpellsMesh mesh) spelled).told in
    let spelled_mesh = held files mesh_name (SpellsMesh mesh) spelled in
    let small : HasFileSize mesh = has_file_size spelled_mesh.bytes mesh spelled_mesh.holds in
    let spells = held files walks_name (SpellsPair mesh first second) walks in
    let valid : IsFaceList mesh = mesh_valid files mesh_name mesh (mesh_passes files mesh_name mesh spelled) in
    let on : WithWays = record { mesh = mesh; bits = bits } in
    let lifts : WalkPair = lifts_on on (first ∷ second ∷ []) in
    let is_answer : IsAnswerOf (Pass (lifts_answer lifts)) status text =
    answer.exact
    ((ways_told files mesh_name told, λ on _. (pair_told files walks_name on.mesh spells.told, λ _ _. tt)), λ _ _. tt)
    (Pass (lifts_answer lifts))
    (inr (
      lifts,
      inr (
        on,
        ways_passed files mesh_name mesh bits spelled is are,
        inr (first ∷ second ∷ [], spelled_pair files walks_name mesh first second walks, refl),
      ),
      refl,
    )) in
    told_of mesh bits first second status text valid small are spells.holds.are is_answer.status_is is_answer.text_is

-- An input on a cover is one on a closed surface, and what is answered of the lifts holds of the walks.
use Rattle.std.proofs.Common.{◌≡◌, inl, inr, ℕ, ◌+◌, ◌<◌, ◌≤◌, ◌&&◌, Bool, true, false, List, [], ◌∷◌, length, get_or, refl, ap, sym, ◌∙◌, subst, arith}
use Rattle.std.specs.Prelude.{◌↔◌, ◌==◌, ◌%◌, if◌then◌else◌, Option, All, Result, Ok, Err, IsTrue, codes}
use Rattle.std.proofs.lemmas.Bool.{cases_Bool}
use Rattle.std.proofs.lemmas.List.Elements.{All-nil, All-cons}
use Rattle.surf_io.specs.Files.{Files, file_of}
use Rattle.surf_model.specs.FaceLists.{FaceList, IsFaceList}
use Rattle.surf_model.specs.Walks.{IsWalk, HaveCommonEnds}
use Rattle.surf_model.specs.Moves.{Homotopic}
use Rattle.surf_model.specs.declared.decisions.Answer as deciding
use Rattle.off_reader.specs.OffTexts.{meaning_of}
use Rattle.orientation_cover.specs.Turns.{cover_by, lift_by}
use Rattle.orientation_cover.proofs.LiftLemmas.{lifts_homotopic}
use Rattle.closed_covers.proofs.ClosedCovers.{cover_surface}
use Rattle.walk_files.specs.PairLists.{WalkPair, ArePairs, are_paired, walks_in_pairs}
use Rattle.walk_files.specs.WalkLists.{WalkText}
use Rattle.walk_files.specs.WalkTexts.{walk_text_of, walks_in, walks_of}
use Rattle.walk_files.specs.declared.fault.WalkFault.{WalkFault}
use Rattle.commands.specs.Checks.{Holds}
use Rattle.commands.specs.Inputs.{IsInputOnSurface, SpellsMesh, SpellsPair}
use Rattle.commands.specs.declared.inputs.TheConstants.{MOST_BYTES}
use Rattle.commands.specs.declared.status.Status.{Status}
use Rattle.commands.specs.declared.status.Status.TheVariants.{Yes, No}
use Rattle.commands.proofs.MeshTexts.{mesh_valid}
use Rattle.commands.proofs.Rows.{mesh_passes, some_and}
use Rattle.commands.proofs.Sound.{held}
use Rattle.certify_commands.specs.Certify.{IsCertified, IsWithinLimits}
use Rattle.pair_commands.specs.Decide.{AreDecisions, TellsDecisions, IsDecided}
use Rattle.pair_commands.specs.PairInput.{SpellsPairs}
use Rattle.cover_commands.specs.MeshCover.{AreLiftsTold}
use Rattle.cover_commands.proofs.CoverAnswers.{means_cover, lifts_told}
use Rattle.cover_answers.specs.CoveredInputs.{IsInputOnCover, ArePrinted}

-- bytes of which one thing holds, and so another
holds_more : (files : Option Files) (name : List ℕ) (AreSuch AreThere : List ℕ → Type 0)
    → ((bytes : List ℕ) → AreSuch bytes → AreThere bytes)
    → Holds files name AreSuch → Holds files name AreThere
holds_more files name AreSuch AreThere more h =
    some_and (file_of files name) (λ (bytes : List ℕ). (length bytes ≤ MOST_BYTES) × AreSuch bytes)
    (λ (bytes : List ℕ). (length bytes ≤ MOST_BYTES) × AreThere bytes) (λ bytes k. (k.0, more bytes k.1)) h

-- what the second file spells of the lifts
on_cover : (keyword : List ℕ) (AreThere : List ℕ → Type 0) (held : Option Files) (words : List (List ℕ)) (mesh : FaceList)
    (bits : List Bool) (first second : List ℕ)
    → ((bytes : List ℕ) → SpellsPair (cover_by mesh bits) (lift_by mesh bits first) (lift_by mesh bits second) bytes → AreThere bytes)
    → IsInputOnCover keyword held words mesh bits first second → IsInputOnSurface keyword AreThere held words (cover_by mesh bits)
on_cover keyword AreThere files words mesh bits first second more input = record {
  mesh_name = input.cover_name;
  walks_name = input.lifts_name;
  words_are = input.words_are;
  mesh_file = input.cover_file;
  is_surface = cover_surface mesh bits input.polygons input.ways input.manifold;
  walks_file = holds_more files input.lifts_name
      (SpellsPair (cover_by mesh bits) (lift_by mesh bits first) (lift_by mesh bits second)) AreThere more input.lifts_file;
}

both : {A B C : Type 0} → A ↔ B → B ↔ C → A ↔ C
both h k = (λ a. k.0 (h.0 a), λ c. h.1 (k.1 c))

-- ---- two walks are one pair

record IsTextOf (read : Result WalkText WalkFault) (walks : List (List ℕ)) : Type 0 where
  pub text : WalkText
  pub is : read ≡ Ok text
  pub walks_are : text.walks ≡ walks

text_of_walks : (read : Result WalkText WalkFault) (walks : List (List ℕ)) → walks_in read ≡ Ok walks → IsTextOf read walks
text_of_walks (Err fault) walks e = cc
text_of_walks (Ok text) walks e = record { text = text; is = refl; walks_are = cc }

two_paired : (version : ℕ) → are_paired version 2 ≡ true
two_paired version = elim (cases_Bool (version == 2)) [ inl one ↦ rw one refl | inr other ↦ rw other refl ]

one_pair : (mesh : FaceList) (first second bytes : List ℕ) → SpellsPair mesh first second bytes
    → SpellsPairs mesh (record { first = first; second = second } ∷ []) bytes
one_pair mesh first second bytes h =
    let found : IsTextOf (walk_text_of bytes) (first ∷ second ∷ []) = text_of_walks (walk_text_of bytes) (first ∷ second ∷ []) h.text in
    let walks : List (List ℕ) = first ∷ second ∷ [] in
    let back : walks ≡ found.text.walks = sym found.walks_are in
    let pair : WalkPair = record { first = first; second = second } in
    record {
      text = found.text;
      text_is = found.is;
      are_pairs = record {
        paired = subst (λ (ws : List (List ℕ)). are_paired found.text.version (length ws) ≡ true) back (two_paired found.text.version);
        walks = subst (All (IsWalk mesh)) back
            (All-cons (IsWalk mesh) first (second ∷ []) h.are.first_walk
            (All-cons (IsWalk mesh) second [] h.are.second_walk (All-nil (IsWalk mesh))));
        ends = subst (λ (ws : List (List ℕ)). All (λ (p : WalkPair). HaveCommonEnds p.first p.second) (walks_in_pairs ws)) back
            (All-cons (λ (p : WalkPair). HaveCommonEnds p.first p.second) pair [] h.are.ends
            (All-nil (λ (p : WalkPair). HaveCommonEnds p.first p.second)));
      };
      pairs_are = ap walks_in_pairs back;
    }

-- ---- decide

decision_here : (mesh other : FaceList) (first second one two : List ℕ) (decisions : List deciding.Answer)
    → Homotopic other one two ↔ Homotopic mesh first second
    → AreDecisions other (record { first = one; second = two } ∷ []) decisions
    → AreDecisions mesh (record { first = first; second = second } ∷ []) decisions
decision_here mesh other first second one two [] same h = absurd h
decision_here mesh other first second one two (d ∷ []) same h = (both h.0 same, tt)
decision_here mesh other first second one two (d ∷ e ∷ decisions) same h = absurd h.1

pub decided_here : (held : Option Files) (words : List (List ℕ)) (status : Status) (text : List ℕ) (mesh : FaceList) (bits : List Bool)
    (first second : List ℕ) → IsDecided held words status text → IsInputOnCover (codes "decide") held words mesh bits first second
    → TellsDecisions mesh (record { first = first; second = second } ∷ []) status text
decided_here files words status text mesh bits first second decided input =
    let one : List ℕ = lift_by mesh bits first in
    let two : List ℕ = lift_by mesh bits second in
    let lifts : List WalkPair = record { first = one; second = two } ∷ [] in
    let there : TellsDecisions (cover_by mesh bits) lifts status text =
    decided.answered (cover_by mesh bits) lifts
    (on_cover (codes "decide") (SpellsPairs (cover_by mesh bits) lifts) files words mesh bits first second
    (one_pair (cover_by mesh bits) one two) input) in
    record {
      decisions = there.decisions;
      right = decision_here mesh (cover_by mesh bits) first second one two there.decisions
          (lifts_homotopic mesh bits first second input.polygons input.ways input.first_walk input.second_walk) there.right;
      text_is = there.text_is;
      status_is = there.status_is;
    }

-- ---- certify

pub certified_here : (held : Option Files) (words : List (List ℕ)) (status : Status) (text : List ℕ) (mesh : FaceList) (bits : List Bool)
    (first second : List ℕ) → IsCertified held words status text → IsInputOnCover (codes "certify") held words mesh bits first second
    → IsWithinLimits (cover_by mesh bits) (lift_by mesh bits first) (lift_by mesh bits second)
    → (status ≡ Yes) ↔ Homotopic mesh first second
certified_here files words status text mesh bits first second certified input within =
    let one : List ℕ = lift_by mesh bits first in
    let two : List ℕ = lift_by mesh bits second in
    both
    (certified.exactly (cover_by mesh bits) one two
    (on_cover (codes "certify") (SpellsPair (cover_by mesh bits) one two) files words mesh bits first second (λ bytes h. h) input) within)
    (lifts_homotopic mesh bits first second input.polygons input.ways input.first_walk input.second_walk)

-- ---- what mesh_cover writes

yes_is_no : Yes ≡ No → ⊥
yes_is_no e = cc

pub printed_so : (held there : Option Files) (mesh_name walks_name keyword cover_name lifts_name : List ℕ) (mesh : FaceList)
    (bits : List Bool) (first second : List ℕ) (status : Status) (cover_text lifts_text : List ℕ)
    → ArePrinted held mesh_name walks_name mesh bits first second status cover_text lifts_text
    → Holds there cover_name (λ bytes. bytes ≡ cover_text) → Holds there lifts_name (λ bytes. bytes ≡ lifts_text)
    → IsInputOnCover keyword there (keyword ∷ cover_name ∷ lifts_name ∷ []) mesh bits first second
printed_so files there mesh_name walks_name keyword cover_name lifts_name mesh bits first second status cover_text lifts_text p cover
    lifts =
    let spelled : SpellsPair mesh first second _ = (held files walks_name (SpellsPair mesh first second) p.walks_file).holds in
    let means = means_cover files mesh_name status cover_text mesh bits p.cover p.mesh_file p.manifold p.ways p.small in
    let told : AreLiftsTold mesh bits first second Yes lifts_text =
    lifts_told files mesh_name walks_name Yes lifts_text mesh bits first second p.lifts p.mesh_file p.walks_file p.manifold p.ways in
    let spells : SpellsPair (cover_by mesh bits) (lift_by mesh bits first) (lift_by mesh bits second) lifts_text =
    elim told [
      | inl written ↦ written.3 p.first_short p.second_short
      | inr apart ↦ absurd (yes_is_no apart.0)
    ] in
    record {
      cover_name = cover_name;
      lifts_name = lifts_name;
      words_are = refl;
      cover_file = holds_more there cover_name (λ (bytes : List ℕ). bytes ≡ cover_text) (SpellsMesh (cover_by mesh bits))
          (λ bytes e. ap meaning_of e ∙ means.1) cover;
      polygons = mesh_valid files mesh_name mesh (mesh_passes files mesh_name mesh p.mesh_file);
      manifold = p.manifold;
      ways = p.ways;
      first_walk = spelled.are.first_walk;
      second_walk = spelled.are.second_walk;
      lifts_file = holds_more there lifts_name (λ (bytes : List ℕ). bytes ≡ lifts_text)
          (SpellsPair (cover_by mesh bits) (lift_by mesh bits first) (lift_by mesh bits second))
          (λ bytes e. subst (SpellsPair (cover_by mesh bits) (lift_by mesh bits first) (lift_by mesh bits second)) (sym e) spells) lifts;
    }

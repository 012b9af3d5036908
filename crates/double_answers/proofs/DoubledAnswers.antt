-- An input on a double is one on a closed surface, and what is answered there holds on the surface with boundary.
use Rattle.std.proofs.Common.{◌≡◌, ℕ, suc, ◌≤◌, List, [], ◌∷◌, length, sym, subst, arith}
use Rattle.std.specs.Prelude.{◌↔◌, Option, All, codes}
use Rattle.surf_io.specs.Files.{Files, file_of}
use Rattle.surf_model.specs.FaceLists.{FaceList, IsFaceList}
use Rattle.surf_model.specs.Walks.{IsWalk}
use Rattle.surf_model.specs.Moves.{Homotopic}
use Rattle.surf_model.specs.declared.decisions.Answer as deciding
use Rattle.closed_walks.specs.FreeHomotopy.{FreelyHomotopic}
use Rattle.homology.specs.Chains.{AreHomologous}
use Rattle.doubling.specs.Doubles.{double_of}
use Rattle.doubling.proofs.KeptMoves.{kept_walk}
use Rattle.doubling.proofs.FoldedFreeSteps.{kept_closed}
use Rattle.doubling.proofs.KeptClasses.{keeps_homotopy, keeps_free_homotopy, keeps_homology}
use Rattle.closed_doubles.proofs.ClosedDoubles.{double_surface}
use Rattle.walk_files.specs.PairLists.{WalkPair, walks_in_pairs}
use Rattle.commands.specs.Checks.{Holds}
use Rattle.commands.specs.Inputs.{IsInputOnSurface, SpellsPair}
use Rattle.commands.specs.declared.inputs.TheConstants.{MOST_BYTES}
use Rattle.commands.specs.declared.status.Status.{Status}
use Rattle.commands.specs.declared.status.Status.TheVariants.{Yes}
use Rattle.commands.proofs.Rows.{some_and}
use Rattle.commands.proofs.Sound.{held}
use Rattle.certify_commands.specs.Certify.{IsCertified, IsWithinLimits}
use Rattle.pair_commands.specs.Decide.{AreDecisions, TellsDecisions, IsDecided}
use Rattle.pair_commands.specs.PairInput.{SpellsPairs}
use Rattle.loop_commands.specs.Loops.{SpellsLoops, IsLoopsAnswered}
use Rattle.homology_commands.specs.Homology.{IsHomologyAnswered}
use Rattle.double_answers.specs.DoubledInputs.{IsInputOnDouble}

-- where what the second file spells on the surface, it spells on the double
on_double : (keyword : List ℕ) (AreSuch AreThere : List ℕ → Type 0) (held : Option Files) (words : List (List ℕ)) (mesh : FaceList)
    → ((bytes : List ℕ) → AreSuch bytes → AreThere bytes) → IsInputOnDouble keyword AreSuch held words mesh
    → IsInputOnSurface keyword AreThere held words (double_of mesh)
on_double keyword AreSuch AreThere files words mesh more input =
    let surface = double_surface mesh input.polygons input.is_surface input.orientable in
    let walks_there : Holds files input.walks_name AreThere =
    some_and (file_of files input.walks_name) (λ (bytes : List ℕ). (length bytes ≤ MOST_BYTES) × AreSuch bytes)
    (λ (bytes : List ℕ). (length bytes ≤ MOST_BYTES) × AreThere bytes) (λ bytes h. (h.0, more bytes h.1)) input.walks_file in
    record {
      mesh_name = input.double_name;
      walks_name = input.walks_name;
      words_are = input.words_are;
      mesh_file = input.double_file;
      is_surface = record {
        manifold = record {
          some_face = surface.closed.some_face;
          two_sides = surface.closed.two_sides;
          one_ring = surface.closed.one_ring;
        };
        orientable = surface.orientable;
      };
      walks_file = walks_there;
    }

both : {A B C : Type 0} → A ↔ B → B ↔ C → A ↔ C
both h k = (λ a. k.0 (h.0 a), λ c. h.1 (k.1 c))

-- ---- pairs of walks

pairs_there : (mesh : FaceList) (pairs : List WalkPair) (bytes : List ℕ) → SpellsPairs mesh pairs bytes
    → SpellsPairs (double_of mesh) pairs bytes
pairs_there mesh pairs bytes h = record {
  text = h.text;
  text_is = h.text_is;
  are_pairs = record {
    paired = h.are_pairs.paired;
    walks = λ k d l. kept_walk mesh _ (h.are_pairs.walks k d l);
    ends = h.are_pairs.ends;
  };
  pairs_are = h.pairs_are;
}

decisions_here : (mesh : FaceList) (walks : List (List ℕ)) (decisions : List deciding.Answer) → IsFaceList mesh → All (IsWalk mesh) walks
    → AreDecisions (double_of mesh) (walks_in_pairs walks) decisions → AreDecisions mesh (walks_in_pairs walks) decisions
decisions_here mesh [] [] valid w h = tt
decisions_here mesh [] (d ∷ decisions) valid w h = absurd h
decisions_here mesh (x ∷ []) [] valid w h = tt
decisions_here mesh (x ∷ []) (d ∷ decisions) valid w h = absurd h
decisions_here mesh (x ∷ y ∷ walks) [] valid w h = absurd h
decisions_here mesh (x ∷ y ∷ walks) (d ∷ decisions) valid w h = (
  both h.0 (keeps_homotopy mesh x y valid (w 0 x (omega arith)) (w 1 y (omega arith))),
  decisions_here mesh walks decisions valid (λ k e l. w (suc (suc k)) e (omega arith)) h.1,
)

pub decided_here : (held : Option Files) (words : List (List ℕ)) (status : Status) (text : List ℕ) (mesh : FaceList) (pairs : List WalkPair)
    → IsDecided held words status text → IsInputOnDouble (codes "decide") (SpellsPairs mesh pairs) held words mesh
    → TellsDecisions mesh pairs status text
decided_here files words status text mesh pairs decided input =
    let there : TellsDecisions (double_of mesh) pairs status text =
    decided.answered (double_of mesh) pairs
    (on_double (codes "decide") (SpellsPairs mesh pairs) (SpellsPairs (double_of mesh) pairs) files words mesh (pairs_there mesh pairs)
    input) in
    let spelled : SpellsPairs mesh pairs _ = (held files input.walks_name (SpellsPairs mesh pairs) input.walks_file).holds in
    record {
      decisions = there.decisions;
      right =
          subst (λ (ps : List WalkPair). AreDecisions mesh ps there.decisions) (sym spelled.pairs_are)
          (decisions_here mesh spelled.text.walks there.decisions input.polygons spelled.are_pairs.walks
          (subst (λ (ps : List WalkPair). AreDecisions (double_of mesh) ps there.decisions) spelled.pairs_are there.right));
      text_is = there.text_is;
      status_is = there.status_is;
    }

-- ---- two walks

pair_there : (mesh : FaceList) (first second bytes : List ℕ) → SpellsPair mesh first second bytes
    → SpellsPair (double_of mesh) first second bytes
pair_there mesh first second bytes h = record {
  text = h.text;
  are = record {
    first_walk = kept_walk mesh first h.are.first_walk;
    second_walk = kept_walk mesh second h.are.second_walk;
    ends = h.are.ends;
  };
}

pub certified_here : (held : Option Files) (words : List (List ℕ)) (status : Status) (text : List ℕ) (mesh : FaceList)
    (first second : List ℕ) → IsCertified held words status text
    → IsInputOnDouble (codes "certify") (SpellsPair mesh first second) held words mesh → IsWithinLimits (double_of mesh) first second
    → (status ≡ Yes) ↔ Homotopic mesh first second
certified_here files words status text mesh first second certified input within =
    let spelled : SpellsPair mesh first second _ = (held files input.walks_name (SpellsPair mesh first second) input.walks_file).holds in
    both
    (certified.exactly (double_of mesh) first second
    (on_double (codes "certify") (SpellsPair mesh first second) (SpellsPair (double_of mesh) first second) files words mesh
    (pair_there mesh first second) input) within)
    (keeps_homotopy mesh first second input.polygons spelled.are.first_walk spelled.are.second_walk)

loops_there : (mesh : FaceList) (first second bytes : List ℕ) → SpellsLoops mesh first second bytes
    → SpellsLoops (double_of mesh) first second bytes
loops_there mesh first second bytes h = record {
  text = h.text;
  first_closed = kept_closed mesh first h.first_closed;
  second_closed = kept_closed mesh second h.second_closed;
}

pub loops_here : (held : Option Files) (words : List (List ℕ)) (status : Status) (text : List ℕ) (mesh : FaceList) (first second : List ℕ)
    → IsLoopsAnswered held words status text → IsInputOnDouble (codes "loops") (SpellsLoops mesh first second) held words mesh
    → (status ≡ Yes) ↔ FreelyHomotopic mesh first second
loops_here files words status text mesh first second answered input =
    let spelled : SpellsLoops mesh first second _ = (held files input.walks_name (SpellsLoops mesh first second) input.walks_file).holds in
    both
    (answered.exactly (double_of mesh) first second
    (on_double (codes "loops") (SpellsLoops mesh first second) (SpellsLoops (double_of mesh) first second) files words mesh
    (loops_there mesh first second) input))
    (keeps_free_homotopy mesh first second input.polygons spelled.first_closed spelled.second_closed)

pub homology_here : (held : Option Files) (words : List (List ℕ)) (status : Status) (text : List ℕ) (mesh : FaceList)
    (first second : List ℕ) → IsHomologyAnswered held words status text
    → IsInputOnDouble (codes "homology") (SpellsPair mesh first second) held words mesh → (status ≡ Yes) ↔ AreHomologous mesh first second
homology_here files words status text mesh first second answered input =
    let spelled : SpellsPair mesh first second _ = (held files input.walks_name (SpellsPair mesh first second) input.walks_file).holds in
    both
    (answered.exactly (double_of mesh) first second
    (on_double (codes "homology") (SpellsPair mesh first second) (SpellsPair (double_of mesh) first second) files words mesh
    (pair_there mesh first second) input))
    (keeps_homology mesh first second input.polygons spelled.are.first_walk spelled.are.second_walk)

-- `surface` in the words of the mesh.
use Rattle.surface_commands.proofs.Common.{some_numbers, some_genera, AreGeneraOf, mesh_valid, sound-mesh, mesh_told, mesh_passes, OfOddChain, yes_with, Refuse, Pass, IsTold, ◌>>=◌, Outcome, AnswersTo, IsAnswerOf, Status, ◌≡◌, ℕ, List, [], ◌∷◌, codes, sym, ◌∙◌, Option, Files, FaceList, AreNumbersOf, IsOrientableSurface, SurfaceNumbers, surface, HasFewComponents, IsSurfaceInput, IsMeasured, numbers_text, as_surface, surface_line, components_line}
use Rattle.commands.specs.declared.status.Status.TheVariants.{Yes}
use Rattle.surface_commands.proofs.Measuring.{answered_surface, behind_mesh, with_surface, fault_ends, turned_ends, many_ends, numbers_end}

module _ (files : Option Files) (words : List (List ℕ)) (mesh : FaceList) (input : IsSurfaceInput files words mesh) where
  -- each file that is looked at is told
  input_told : (surface files input.mesh_name).EachFile (IsTold files)
  input_told = (
    (mesh_told files input.mesh_name mesh input.mesh_file, λ faces _. (tt, λ _ _. tt)),
    λ _ _. (tt, λ _ _. (tt, λ _ _. (tt, λ _ _. tt))),
  )

  -- as the checks behind the mesh end, the command does
  mesh_ends : (outcome : Outcome) → (as_surface mesh >>= with_surface).Ends outcome → (surface files input.mesh_name).Ends outcome
  mesh_ends outcome h = behind_mesh files input.mesh_name mesh outcome (mesh_passes files input.mesh_name mesh input.mesh_file) h

  -- a status of yes tells of a surface of few components
  yes_surface : (outcome : Outcome) (status : Status) (text : List ℕ) → (surface files input.mesh_name).Ends outcome
      → IsAnswerOf outcome status text → status ≡ Yes → IsOrientableSurface mesh × HasFewComponents mesh
  yes_surface (Refuse texts) status text is answer told = let e = sym told ∙ answer.status_is in cc
  yes_surface (Pass found) status text is answer told =
      answered_surface files input.mesh_name mesh found (mesh_passes files input.mesh_name mesh input.mesh_file)
      ((sound-mesh files input.mesh_name).one (mesh_told files input.mesh_name mesh input.mesh_file)) is

-- what is answered of such an input, where the words are answered by the check
pub measured : (files : Option Files) (words : List (List ℕ)) (status : Status) (text : List ℕ)
    → ((name : List ℕ) → words ≡ codes "surface" ∷ name ∷ [] → AnswersTo files (surface files name) status text)
    → IsMeasured files words status text
measured files words status text answered =
    record {
      surface = λ mesh input.
          let a = answered input.mesh_name input.words_are in (
            λ told. yes_surface files words mesh input a.outcome status text a.is_outcome a.is_answer told,
            λ surface. (numbers_told mesh input surface.0 surface.1).0,
          );
      numbers = λ mesh input surface few. (numbers_told mesh input surface few).1;
      not_closed = λ mesh fault input first.
          let a = ended mesh input (Refuse (surface_line fault)) (fault_ends mesh fault first) in
          (a.status_is, a.text_is);
      not_orientable = λ mesh input closed turned.
          let a = ended mesh input (Refuse (OfOddChain mesh)) (turned_ends mesh closed turned) in
          (a.status_is, a.text_is.0, a.text_is.1, a.text_is.2);
      many_components = λ mesh count input surface has many.
          let a = ended mesh input (Refuse (components_line count)) (many_ends mesh count surface has many) in
          (a.status_is, a.text_is);
    }
  where
    ended : (mesh : FaceList) → IsSurfaceInput files words mesh → (outcome : Outcome) → (as_surface mesh >>= with_surface).Ends outcome
        → IsAnswerOf outcome status text
    ended mesh input outcome h =
        (answered input.mesh_name input.words_are).exact (input_told files words mesh input) outcome
        (mesh_ends files words mesh input outcome h)

    numbers_told : (mesh : FaceList) → IsSurfaceInput files words mesh → IsOrientableSurface mesh → HasFewComponents mesh
        → (status ≡ Yes) × ((numbers : SurfaceNumbers) × AreNumbersOf mesh numbers × (genera : List ℕ) × AreGeneraOf mesh genera
        × (text ≡ numbers_text numbers genera))
    numbers_told mesh input surface few =
        let valid = mesh_valid files input.mesh_name mesh (mesh_passes files input.mesh_name mesh input.mesh_file) in
        let some = some_numbers mesh valid in
        let each = some_genera mesh valid surface in
        let a = ended mesh input (Pass (yes_with (numbers_text some.0 each.0)))
        (numbers_end mesh some.0 each.0 surface few some.1 each.1) in
        (a.status_is, (some.0, some.1, each.0, each.1, a.text_is))

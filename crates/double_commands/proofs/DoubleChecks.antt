-- How the check of the double ends, and what answers it.
use Rattle.std.proofs.Common.{◌≡◌, inl, inr, ℕ, List, refl, ap, ◌∙◌}
use Rattle.std.specs.Prelude.{Option, Ok, ◌↔◌}
use Rattle.surf_io.specs.Files.{Files}
use Rattle.surf_model.specs.FaceLists.{FaceList, HasFileSize, IsFaceList}
use Rattle.surf_model.specs.Surfaces.{IsClosed, IsOrientable}
use Rattle.off_reader.specs.OffTexts.{meaning_of}
use Rattle.off_writer.specs.WrittenMeshes.{off_text}
use Rattle.off_writer.proofs.ReadingBack.{reads_back}
use Rattle.free_forms.specs.OpenSurfaces.{IsOpenSurface}
use Rattle.doubling.specs.DoubleFaults.{IsBeyond}
use Rattle.doubling.specs.Doubles.{double_of}
use Rattle.doubling.proofs.LimitLemmas.{fits_or_too_large, not_too_large, one_limit}
use Rattle.doubling.proofs.ValidDoubles.{double_valid}
use Rattle.closed_doubles.proofs.DoubleSigns.{double_orientable, orientable_there}
use Rattle.closed_doubles.proofs.ClosedDoubles.{double_closed}
use Rattle.commands.specs.Answers.{yes_with}
use Rattle.commands.specs.Checks.{Refuse, Pass, Passes, Holds, IsTold, pass}
use Rattle.commands.specs.Inputs.{mesh_in, SpellsMesh}
use Rattle.commands.specs.Outcomes.{AnswersTo, IsAnswerOf}
use Rattle.commands.specs.Refusals.{off_line}
use Rattle.commands.specs.Stops.{Stops, bytes_of}
use Rattle.commands.specs.declared.status.Status.{Status}
use Rattle.commands.specs.declared.status.Status.TheVariants.{Yes, Refused}
use Rattle.commands.specs.declared.stop.Stop.{Stop}
use Rattle.commands.specs.declared.stop.Stop.TheVariants as stops
use Rattle.commands.specs.declared.text.Text.{Text}
use Rattle.commands.proofs.Answering.{stop_answers, thing_answers}
use Rattle.commands.proofs.MeshTexts.{mesh_valid}
use Rattle.commands.proofs.Rows.{sound-mesh, mesh_passes}
use Rattle.commands.proofs.Sound.{sound-unless_fault, IsSound, held, sound-then, sound-pass, meant_told}
use Rattle.open_commands.proofs.OpenInputs.{sound-open}
use Rattle.double_commands.specs.MeshDouble.{double_line, doubled, double_in, mesh_double}

-- ---- the double has one end

sound-doubled : (files : Option Files) (mesh : FaceList) → IsSound files (doubled mesh)
sound-doubled files mesh =
    sound-unless_fault (doubled mesh) double_line (IsBeyond mesh) (HasFileSize (double_of mesh)) (double_of mesh) (λ _ h. h) (λ _ h. h)
    (one_limit (double_of mesh)) (not_too_large (double_of mesh)) files
    (λ none. elim (fits_or_too_large (double_of mesh)) [
      | inl small ↦ none (Pass (double_of mesh)) (small, refl)
      | inr beyond ↦ none (Refuse (double_line beyond.0)) (beyond.0, beyond.1, refl)
    ])

sound-double_in : (files : Option Files) (name : List ℕ) → IsSound files (double_in files name)
sound-double_in files name =
    sound-then files _ _ (sound-mesh files name)
    (λ mesh h. sound-then files _ _ (sound-open files mesh (mesh_valid files name mesh h)) (λ surface _. sound-doubled files surface))

sound-mesh_double : (files : Option Files) (name : List ℕ) → IsSound files (mesh_double files name)
sound-mesh_double files name =
    sound-then files _ _ (sound-double_in files name) (λ double _. sound-pass files (yes_with (off_text double)))

-- ---- what answers the check

pub mesh_answers : (files : Option Files) (name : List ℕ) (double : FaceList) → Passes (double_in files name) double
    → AnswersTo files (mesh_double files name) Yes (off_text double)
mesh_answers files name double p =
    thing_answers files (double_in files name) (λ mesh. yes_with (off_text mesh)) double (off_text double) (sound-mesh_double files name) p
    refl

pub refusal_answers : (files : Option Files) (name : List ℕ) (stop : Stop) (text : Text) → stop ≡ stops.Refused text
    → Stops (double_in files name) stop → AnswersTo files (mesh_double files name) Refused (bytes_of text)
refusal_answers files name stop text is h =
    stop_answers files (double_in files name) (λ mesh. pass (yes_with (off_text mesh))) stop text (sound-mesh_double files name) is h

-- ---- the answer of a file that spells a surface with boundary

pub means_double : (files : Option Files) (name : List ℕ) (status : Status) (text : List ℕ) (mesh : FaceList)
    → AnswersTo files (mesh_double files name) status text → Holds files name (SpellsMesh mesh) → IsOpenSurface mesh
    → HasFileSize (double_of mesh) → (status ≡ Yes) × (meaning_of text ≡ Ok (double_of mesh))
means_double files name status text mesh answer spelled is small =
    let passes : Passes (mesh_in files name) mesh = mesh_passes files name mesh spelled in
    let told : IsTold files name = (held files name (SpellsMesh mesh) spelled).told in
    let end : (mesh_double files name).Ends (Pass (yes_with (off_text (double_of mesh)))) =
    inr (double_of mesh, inr (mesh, passes, inr (mesh, (is, refl), (small, refl))), refl) in
    let is_answer : IsAnswerOf (Pass (yes_with (off_text (double_of mesh)))) status text =
    answer.exact (((told, λ bytes _. meant_told files off_line (meaning_of bytes)), λ _ _. (tt, λ _ _. tt)), λ _ _. tt)
    (Pass (yes_with (off_text (double_of mesh)))) end in (
      is_answer.status_is,
      ap meaning_of is_answer.text_is ∙ reads_back (double_of mesh) (double_valid mesh (mesh_valid files name mesh passes)) small,
    )

pub means_closed : (files : Option Files) (name : List ℕ) (status : Status) (text : List ℕ) (mesh : FaceList)
    → AnswersTo files (mesh_double files name) status text → Holds files name (SpellsMesh mesh) → IsOpenSurface mesh
    → HasFileSize (double_of mesh)
    → (double : FaceList) × (meaning_of text ≡ Ok double) × IsClosed double × (IsOrientable double ↔ IsOrientable mesh)
means_closed files name status text mesh answer spelled is small =
    let valid : IsFaceList mesh = mesh_valid files name mesh (mesh_passes files name mesh spelled) in (
      double_of mesh,
      (means_double files name status text mesh answer spelled is small).1,
      double_closed mesh valid is,
      (orientable_there mesh, double_orientable mesh valid is.few_sides is.one_fan),
    )

-- What `certify` prints spells its certificate again, and `verify` accepts it.
use Rattle.program.proofs.Common.{IsCertifyInput, IsWithinLimits, IsCertificatePrinted, held, Convinces, IsPeakLow, IsShortOnSphere, certificate_text, SpellsMesh, SpellsPair, SpellsCertificate, Certificate, Moves, Denial, MOST_BYTES, Status, Yes, IsHomologyPrinted, MOST_LIFTED_SIDES, IsListPrinted, IsOpenInput, Verify, VerifyHomology, Answers, ◌≡◌, ℕ, ◌≤◌, List, [], length, get_or, sym, subst, arith, Option, Files, FaceList, IsFaceList, HasFileSize, total_sides, IsWalk, IsVerifyInput}
use Rattle.commands.proofs.MeshTexts.{is_face_list, has_file_size}
use Rattle.commands.proofs.Rows.{input_so}
use Rattle.commands.specs.Lines.{line}
use Rattle.homology_commands.proofs.PrintedLemmas.{printed_accepted as homology_accepted}
use Rattle.open_commands.proofs.ShortTexts.{text_short, sphere_text_short}
use Rattle.program.specs.PrintedCertificates.{IsVerifyOfText, IsAccepted}
use Rattle.std.specs.Prelude.{codes}
use Rattle.surf_model.specs.Genera.{LiesOnSphere}
use Rattle.verify_commands.proofs.Accepting.{accepted, spelled}
use Rattle.homology_commands.specs.PrintedHomology as homology_texts
use Rattle.open_commands.specs.OpenPairs as open_limits
use Rattle.program.proofs.Rows.{row_answered, row_ends}

-- a file of a text that spells the certificate
verify_input : (files : Option Files) (words : List (List ℕ)) (mesh : FaceList) (first second text : List ℕ) (shown : Certificate)
    → SpellsCertificate shown text → IsVerifyOfText files words mesh first second text → IsVerifyInput files words mesh first second shown
verify_input files words mesh first second text shown spells h =
    input_so (codes "verify") (λ bytes. bytes ≡ text) (SpellsCertificate shown) files words mesh first second
    (λ bytes is. subst (SpellsCertificate shown) (sym is) spells) h

pub printed_accepted : (files : Option Files) (words : List (List ℕ)) (mesh : FaceList) (first second : List ℕ) (status : Status)
    (text : List ℕ) → IsCertifyInput files words mesh first second → IsWithinLimits mesh first second
    → (printed : IsCertificatePrinted mesh first second status text)
    → length text ≤ MOST_BYTES → IsAccepted mesh first second printed.shown text
unfolding verify_input input_so
printed_accepted files words mesh first second status text input limits printed short =
    let off = held files input.mesh_name (SpellsMesh mesh) input.mesh_file in
    let pair = (held files input.walks_name (SpellsPair mesh first second) input.walks_file).holds in
    let own : SpellsCertificate printed.shown (certificate_text printed.shown) =
    spelled mesh first second printed.shown (is_face_list off.bytes mesh off.holds) (has_file_size off.bytes mesh off.holds)
    pair.are.first_walk (omega (arith, limits.few))
    (omega (arith, limits.few)) printed.convinces printed.low (subst (λ (t : List ℕ). length t ≤ MOST_BYTES) printed.text_is short) in
    let spells : SpellsCertificate printed.shown text = subst (SpellsCertificate printed.shown) (sym printed.text_is) own in
    record {
      spells = spells;
      accepted = λ others commands outcome end answer h is told.
          accepted others commands mesh first second printed.shown outcome end answer printed.convinces
          (verify_input others commands mesh first second text printed.shown spells h)
          (row_ends others commands (Verify h.mesh_name h.walks_name h.certificate_name) outcome h.words_are is) told;
    }

-- for walks on a sphere its text is short
sphere_short : (mesh : FaceList) (first second : List ℕ) (shown : Certificate) → IsFaceList mesh → HasFileSize mesh
    → total_sides mesh ≤ MOST_LIFTED_SIDES → IsWalk mesh first → LiesOnSphere mesh (get_or first 0 0) → Convinces mesh first second shown
    → IsPeakLow shown → IsShortOnSphere mesh first shown → length (certificate_text shown) ≤ MOST_BYTES
sphere_short mesh first second (Moves list) valid small sides w sphere h read short =
    sphere_text_short mesh first second list valid small (omega (arith, sides)) w h (short sphere) (omega (arith, read))
sphere_short mesh first second (Denial denial) valid small sides w sphere h read short = absurd (short sphere)

pub printed_on_sphere_accepted : (files : Option Files) (words : List (List ℕ)) (mesh : FaceList) (first second : List ℕ) (status : Status)
    (text : List ℕ) → IsCertifyInput files words mesh first second → IsWithinLimits mesh first second
    → LiesOnSphere mesh (get_or first 0 0) → (printed : IsCertificatePrinted mesh first second status text)
    → IsAccepted mesh first second printed.shown text
printed_on_sphere_accepted files words mesh first second status text input limits sphere printed =
    let off = held files input.mesh_name (SpellsMesh mesh) input.mesh_file in
    let pair = (held files input.walks_name (SpellsPair mesh first second) input.walks_file).holds in
    printed_accepted files words mesh first second status text input limits printed
    (subst (λ (t : List ℕ). length t ≤ MOST_BYTES) (sym printed.text_is)
    (sphere_short mesh first second printed.shown (is_face_list off.bytes mesh off.holds) (has_file_size off.bytes mesh off.holds)
    limits.sides pair.are.first_walk sphere
    printed.convinces printed.low printed.short))

-- a list of `certify-open`, which is short
pub printed_list_accepted : (files : Option Files) (words : List (List ℕ)) (mesh : FaceList) (first second : List ℕ) (status : Status)
    (text : List ℕ) → IsOpenInput (codes "certify-open") files words mesh first second → open_limits.IsWithinOpenLimits mesh first second
    → (printed : IsListPrinted mesh first second status text) → IsAccepted mesh first second (Moves printed.list) text
unfolding verify_input input_so
printed_list_accepted files words mesh first second status text input limits printed =
    let within = printed.within in
    let off = held files input.mesh_name (SpellsMesh mesh) input.mesh_file in
    let pair = (held files input.walks_name (SpellsPair mesh first second) input.walks_file).holds in
    let valid = is_face_list off.bytes mesh off.holds in
    let small = has_file_size off.bytes mesh off.holds in
    let short = text_short mesh first second printed.list valid small limits.sides pair.are.first_walk
    (record { leads = printed.convinces.leads; peak = printed.convinces.peak }) within in
    let own : SpellsCertificate (Moves printed.list) (certificate_text (Moves printed.list)) =
    spelled mesh first second (Moves printed.list) valid small pair.are.first_walk (omega (arith, limits.few))
    (omega (arith, limits.few))
    printed.convinces (omega (arith, within.peak)) (omega (arith, short)) in
    let spells : SpellsCertificate (Moves printed.list) text = subst (SpellsCertificate (Moves printed.list)) (sym printed.text_is) own in
    record {
      spells = spells;
      accepted = λ others commands outcome end answer h is told.
          accepted others commands mesh first second (Moves printed.list) outcome end answer printed.convinces
          (verify_input others commands mesh first second text (Moves printed.list) spells h)
          (row_ends others commands (Verify h.mesh_name h.walks_name h.certificate_name) outcome h.words_are is) told;
    }

-- and what `homology` prints, `verify-homology` accepts
pub printed_homology_accepted : (mesh : FaceList) (first second : List ℕ) (status : Status) (text : List ℕ)
    → IsHomologyPrinted mesh first second status text → (files : Option Files) (words : List (List ℕ)) (told : Status) (answer : List ℕ)
    → homology_texts.IsHomologyVerifyOfText files words mesh first second text → Answers files words told answer
    → (told ≡ Yes) × (answer ≡ line (codes "accepted") [])
printed_homology_accepted mesh first second status text printed files words told answer h answered =
    (homology_accepted mesh first second status text printed).accepted files words told answer h
    (λ mesh_name walks_name certificate_name is.
    row_answered files words (VerifyHomology mesh_name walks_name certificate_name) told answer answered is)

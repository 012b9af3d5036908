-- What `homology` prints spells its certificate again, and `verify-homology` accepts it.
use Rattle.homology_commands.proofs.Common.{input_so, ShowsHomology, answer_in, homology_line, homology_text, Status, HomologyCert, IsHomologyPrinted, cert_text, kind_in, ◌≡◌, ℕ, List, refl, ap, ◌∙◌, Ok, Option, Files, FaceList}
use Rattle.homology.specs.declared.verdict.HomologyVerdict.TheVariants.{Accepted}
use Rattle.homology_commands.specs.PrintedHomology.{IsHomologyAccepted, IsHomologyVerifyOfText}
use Rattle.homology_files.proofs.RoundTrip.{reads_back_answered}
use Rattle.homology_files.specs.HomologyTexts.{answer_words, cert_of_text}
use Rattle.std.specs.Prelude.{◌++◌, codes}
use Rattle.text_scan.specs.Plain.{line_of}
use Rattle.verify_homology_commands.proofs.VerifyHomologyOutcomes.{homology_verified}
use Rattle.verify_homology_commands.specs.VerifyHomology.{IsInput}
use Rattle.homology.specs.declared.certificate.HomologyCert.TheVariants as certificates

-- the line of an answer in the words of the format
answer_line : (shown : HomologyCert) → homology_line (answer_in shown) ≡ line_of (answer_words (kind_in shown))
answer_line (certificates.Chain lines) = refl
answer_line (certificates.Cocycle lines) = refl

spelled : (mesh : FaceList) (first second : List ℕ) (shown : HomologyCert) → ShowsHomology mesh first second shown
    → cert_of_text (homology_text shown) ≡ Ok shown
spelled mesh first second shown shows =
    ap (λ (answer : List ℕ). cert_of_text (answer ++ cert_text shown)) (answer_line shown)
    ∙ reads_back_answered shown shows.fits

-- a file of a text that spells the certificate
verify_input : (files : Option Files) (words : List (List ℕ)) (mesh : FaceList) (first second text : List ℕ) (shown : HomologyCert)
    → cert_of_text text ≡ Ok shown → IsHomologyVerifyOfText files words mesh first second text → IsInput files words mesh first second shown
verify_input files words mesh first second text shown spells h =
    input_so (codes "verify-homology") (λ bytes. bytes ≡ text) (λ bytes. cert_of_text bytes ≡ Ok shown) files words mesh first second
    (λ bytes is. ap cert_of_text is ∙ spells) h

pub printed_accepted : (mesh : FaceList) (first second : List ℕ) (status : Status) (text : List ℕ)
    → (printed : IsHomologyPrinted mesh first second status text) → IsHomologyAccepted mesh first second printed.shown text
printed_accepted mesh first second status text printed =
    let spells : cert_of_text text ≡ Ok printed.shown =
    ap cert_of_text printed.text_is ∙ spelled mesh first second printed.shown printed.shows in
    record {
      spells = spells;
      accepted = λ files words told answer h answered.
          (homology_verified files words told answer answered).exactly mesh first second printed.shown Accepted
          (verify_input files words mesh first second text printed.shown spells h) printed.shows.holds;
    }

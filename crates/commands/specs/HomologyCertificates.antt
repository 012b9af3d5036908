-- What a certificate of homology shows, and how it is written.
use Rattle.std.specs.Prelude.{◌≢◌, ℕ, List, [], ◌++◌, All, codes, pos}
use Rattle.surf_model.specs.FaceLists.{FaceList}
use Rattle.homology.specs.Verdicts.{IsVerdict}
use Rattle.homology.specs.declared.certificate.EdgeNumber.{EdgeNumber}
use Rattle.homology.specs.declared.certificate.FaceNumber.{FaceNumber}
use Rattle.homology.specs.declared.certificate.HomologyCert.{HomologyCert}
use Rattle.homology.specs.declared.certificate.HomologyCert.TheVariants.{Chain, Cocycle}
use Rattle.homology.specs.declared.verdict.HomologyVerdict.TheVariants.{Accepted}
use Rattle.homology_files.specs.WrittenTexts.{FitsHomologyFormat, cert_text}
use Rattle.commands.specs.Lines.{line}
use Rattle.commands.specs.declared.status.Status.{Status}
use Rattle.commands.specs.declared.status.Status.TheVariants.{No, Yes}

-- no number that is listed is 0: what is not listed is 0
abbrev pub ListsNoZero : HomologyCert → Type 0
ListsNoZero (Chain lines) = All (λ (line : FaceNumber). line.number ≢ pos 0) lines
ListsNoZero (Cocycle lines) = All (λ (line : EdgeNumber). line.number ≢ pos 0) lines

-- The certificate shows whether the two walks are homologous: it is a chain for them, or a cocycle that separates them. It keeps to the
-- format, and lists no number that is 0.
pub record ShowsHomology (mesh : FaceList) (first second : List ℕ) (shown : HomologyCert) : Type 0 where
  pub holds : IsVerdict mesh first second shown Accepted
  pub fits : FitsHomologyFormat shown
  pub no_zeros : ListsNoZero shown

-- whether two walks are homologous
pub data HomologyAnswer : Type 0 where
  Homologous : HomologyAnswer
  NotHomologous : HomologyAnswer

-- the answer that a certificate is for: a chain that they are, a cocycle that they are not
abbrev pub answer_in : HomologyCert → HomologyAnswer
answer_in (Chain lines) = Homologous
answer_in (Cocycle lines) = NotHomologous

-- yes where they are
abbrev pub homology_status : HomologyAnswer → Status
homology_status Homologous = Yes
homology_status NotHomologous = No

-- the phrase of an answer, and its line
abbrev pub homology_phrase : HomologyAnswer → List ℕ
homology_phrase Homologous = codes "homologous"
homology_phrase NotHomologous = codes "not homologous"

abbrev pub homology_line : HomologyAnswer → List ℕ
homology_line answer = line (homology_phrase answer) []

-- a certificate behind the line of the answer that it is for
abbrev pub homology_text : HomologyCert → List ℕ
homology_text shown = homology_line (answer_in shown) ++ cert_text shown

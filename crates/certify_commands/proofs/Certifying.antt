-- What `certify` finds: a list of moves that leads, or a denial that holds.
use Rattle.certify_commands.proofs.Common.{limit_fault, certified, certificate_answer, at_places, differs, yes_or_no, IsSound, sound-decided_by, Answer, Exactly, Convinces, decision_of, Check, Pass, Passes, pass_unless, ◌>>=◌, OrientedMesh, IsOrientedSurface, DenialHolds, IsGood, FaceLabels, LabellingView, signs_of, IsWordOf, PolygonView, IsCutFrom, ◌≡◌, inl, inr, ℕ, ◌<◌, false, List, length, refl, sym, ap, ◌∙◌, subst, arith, ext_get_or, length-map, ◌↔◌, Option, Some, None, slice_get, Files, FaceList, IsFaceList, Homotopic, walk_at, IsWalk, HaveCommonEnds, SplitView, IsSplit, Word}
use Rattle.commands.proofs.Checking.{stops_first, told_stops}
use Rattle.commands.specs.Stops.{Stops, Tells}
use Rattle.commands.specs.declared.certificate.Certificate.{Certificate}
use Rattle.commands.specs.declared.certificate.Certificate.TheVariants.{Moves, Denial}
use Rattle.commands.specs.declared.stop.Stop.{Stop}
use Rattle.labellings.proofs.WalkWordLemmas.{denial_excludes}
use Rattle.polygon_cut.proofs.SphereLemmas.{all_homotopic}
use Rattle.quad_system.proofs.PolygonLabelLemmas.{flips_are}
use Rattle.quad_system.specs.PolygonLabellings.{face_labels, labelling_from}
use Rattle.std.proofs.lemmas.Bool.{cases_lt}
use Rattle.std.proofs.lemmas.List.FromFn.{length-enumerate_from}
use Rattle.std.specs.List.{enumerate_from}
use Rattle.walk_translate.proofs.DecidingLemmas.{words_decide}
use Rattle.surf_model.specs.declared.decisions.Answer.TheVariants as answers

-- ---- denials

-- where no list of moves leads, the polygon has some sides
pub some_sides : (surface : OrientedMesh) (split : SplitView) (polygon : PolygonView) (first second : List ℕ) → IsOrientedSurface surface
    → IsSplit surface split → IsCutFrom surface split polygon → IsWalk surface.mesh first → IsWalk surface.mesh second
    → HaveCommonEnds first second
    → (Homotopic surface.mesh first second → ⊥) → 0 < polygon.degree
some_sides surface split polygon first second o is_split is_cut w z ends apart = elim (cases_lt 0 polygon.degree) [
  | inl some ↦ some
  | inr none ↦
      absurd (apart (all_homotopic surface split first second o is_split (omega (arith, is_cut.degree, none)) w z ends))
]

-- and the words of the walks differ
pub denial_holds : (surface : OrientedMesh) (split : SplitView) (polygon : PolygonView) (first second : List ℕ) (good : LabellingView)
    (one other : Word)
    → IsOrientedSurface surface → IsSplit surface split → IsCutFrom surface split polygon → 0 < polygon.degree → IsWalk surface.mesh first
    → IsWalk surface.mesh second → HaveCommonEnds first second → (Homotopic surface.mesh first second → ⊥)
    → good ≡ labelling_from surface polygon
    → IsGood surface.mesh (labelling_from surface polygon) → IsWordOf surface.mesh good first one → IsWordOf surface.mesh good second other
    → DenialHolds surface.mesh first second (record { labelling = good; first = one; second = other })
denial_holds surface split polygon first second good one other o is_split is_cut some w z ends apart is_good meets f g =
    record {
      good = subst (IsGood surface.mesh) (sym is_good) meets;
      first_word = f;
      second_word = g;
      differ = λ same.
          apart
          ((words_decide surface good first second one other o
          (record { split = split; polygon = polygon; is_split = is_split; is_cut = is_cut; some = some; labelling_is = is_good }) w z
          ends f g).1 same);
    }

-- the labelling has the signs of the surface
pub signs_are : (surface : OrientedMesh) (polygon : PolygonView) (good : LabellingView) → IsOrientedSurface surface
    → good ≡ labelling_from surface polygon → signs_of good ≡ surface.signs
signs_are surface polygon good o is =
    let made : LabellingView = labelling_from surface polygon in
    let many : length (signs_of made) ≡ length surface.mesh.faces =
    length-map made.faces (λ (f : FaceLabels). f.flipped)
    ∙ length-map (enumerate_from 0 surface.mesh.faces) (λ (p : ℕ × List ℕ). face_labels surface polygon p.0 (length p.1))
    ∙ length-enumerate_from 0 surface.mesh.faces in
    ap signs_of is
    ∙ ext_get_or false (signs_of made) surface.signs (many ∙ sym o.coherent.each_face)
    (λ f l. flips_are surface polygon f (omega (arith, l, many)))

-- ---- a certificate is for the right decision

pub convinces_decides : (mesh : FaceList) (first second : List ℕ) (shown : Certificate) → IsFaceList mesh → IsWalk mesh first
    → Convinces mesh first second shown → (decision_of shown ≡ answers.Homotopic) ↔ Homotopic mesh first second
convinces_decides mesh first second (Moves list) valid walk h = ((λ _. (list.moves, h.leads)), (λ _. refl))
convinces_decides mesh first second (Denial denial) valid walk h =
    ((λ e. absurd (differs e)), (λ homotopic. absurd (denial_excludes mesh first second denial valid walk h homotopic)))

-- the check has an end, and one
pub sound-certified : (held : Option Files) (mesh : FaceList) (first second : List ℕ) → IsSound held (certified mesh first second)
sound-certified held mesh first second =
    sound-decided_by held yes_or_no (certificate_answer mesh first second) (Homotopic mesh first second)

-- ---- how the checks of `certify` end

-- what is looked at behind the limits, and behind the walks
abbrev pub after_limits : FaceList → List (List ℕ) → List (List ℕ) → Check Answer
after_limits surface pair allowed = certified surface (walk_at pair 0) (walk_at pair 1)

abbrev pub limited : FaceList → List (List ℕ) → Check (List (List ℕ))
limited surface pair = pass_unless (λ line. Exactly line) (limit_fault surface (walk_at pair 0) (walk_at pair 1)) pair

abbrev pub after_pair : FaceList → List (List ℕ) → Check Answer
after_pair surface pair = limited surface pair >>= after_limits surface pair

pub limits_stop : (surface : FaceList) (pair : List (List ℕ)) (first second line : List ℕ) (stop : Stop) → slice_get pair 0 ≡ Some first
    → slice_get pair 1 ≡ Some second → limit_fault surface first second ≡ Some line → Tells (Exactly line) stop
    → Stops (after_pair surface pair) stop
limits_stop surface pair first second line stop f g e h =
    let fault : limit_fault surface (walk_at pair 0) (walk_at pair 1) ≡ Some line =
    at_places (λ (a b : List ℕ). limit_fault surface a b ≡ Some line) pair first second f g e in
    stops_first (limited surface pair) (after_limits surface pair) stop
    (told_stops (Exactly line) (limited surface pair) stop (rw fault refl) h)

-- what is found behind the limits is what the command gives
pub certificate_found : (surface : FaceList) (pair : List (List ℕ)) (first second : List ℕ) (shown : Certificate) → IsFaceList surface
    → IsWalk surface first → slice_get pair 0 ≡ Some first → slice_get pair 1 ≡ Some second → limit_fault surface first second ≡ None
    → Convinces surface first second shown → Passes (after_pair surface pair) (certificate_answer surface first second (decision_of shown))
certificate_found surface pair first second shown valid walk f g few h =
    let answer : Answer = certificate_answer surface first second (decision_of shown) in
    let none : limit_fault surface (walk_at pair 0) (walk_at pair 1) ≡ None =
    at_places (λ (a b : List ℕ). limit_fault surface a b ≡ None) pair first second f g few in
    inr (
      pair,
      rw none refl,
      at_places (λ (a b : List ℕ). (certified surface a b).Ends (Pass answer)) pair first second f g
          (decision_of shown, refl, convinces_decides surface first second shown valid walk h),
    )

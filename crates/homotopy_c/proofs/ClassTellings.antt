-- What is told of the classes of walks, and what it means.
use Rattle.homotopy_c.proofs.Common.{IsCompactSurface, walk_in_arrays, IsMeshClassesCall, done, told_no_classes, AreClassesTold, IsClassesCall, IsPut, TellsClasses, in_front, Outcome, ◌≡◌, ◌≢◌, ◌↔◌, inl, inr, ℕ, ◌<◌, ◌≤◌, List, [], ◌++◌, length, get_or, take, sym, ap, ◌∙◌, subst, arith, cases_lt, get_or_append_left, take_at, Vec, MatchResult, Option, Some, None, Result, Ok, Err, FaceList}
use Rattle.homotopy_arrays.specs.Classes.{AreClassed, IsNoClassesIn, walks_in_arrays}
use Rattle.homotopy_arrays.specs.declared.classes.NoClasses.{NoClasses}
use Rattle.std.proofs.Common.{drop}
use Rattle.std.proofs.lemmas.List.FromFn.{get_or-map-range_with_len, length-map-range_with_len}
use Rattle.walk_classes.proofs.ClassLemmas.{told_by_numbers}
use Rattle.walk_classes.specs.WalkClasses.{AreClasses, AreInOneClass}
use Rattle.homotopy_arrays.specs.declared.classes.NoClasses.TheVariants as none
use Rattle.homotopy_c.specs.declared.codes.TheConstants as codes
use Rattle.homotopy_c.proofs.CodeLemmas.{walks_code}
use Rattle.homotopy_c.proofs.TellingLemmas.{code_is}

no_classes_code : (fault : NoClasses) → codes.ACCEPTED < (told_no_classes fault).code
no_classes_code none.Count = omega arith
no_classes_code (none.Walk place fault) = walks_code fault
no_classes_code none.OutOfMemory = omega arith

-- numbers that stand in front
record StandInFront (mesh : FaceList) (sizes vertices old classes : List ℕ) : Type 0 where
  given : List ℕ
  is : classes ≡ given ++ drop (length given) old
  each : length given ≡ length sizes
  classed : AreClassed mesh sizes vertices given

classed : (mesh : FaceList) (sizes vertices old classes : List ℕ) (outcome : Outcome) (end : Result (Vec ℕ) NoClasses)
    → MatchResult end (λ given. AreClassed mesh sizes vertices given.items) (IsNoClassesIn mesh sizes vertices)
    → TellsClasses end old classes outcome
    → (outcome.code ≡ codes.DONE → StandInFront mesh sizes vertices old classes) × (outcome.code ≢ codes.DONE → classes ≡ old)
classed mesh sizes vertices old classes outcome (Ok given) right tells = (
  λ _. record {
    given = given.items;
    is = tells.0;
    each = right.classes.classes.each_walk ∙ length-map-range_with_len (walk_in_arrays sizes vertices) 0 (length sizes);
    classed = right;
  },
  λ differs. absurd (differs (code_is outcome done tells.1)),
)
classed mesh sizes vertices old classes outcome (Err fault) right tells =
    ((λ e. absurd (omega (arith, e, code_is outcome (told_no_classes fault) tells.1, no_classes_code fault))), (λ _. tells.0))

stand : (mesh : FaceList) (sizes vertices old classes : List ℕ) (outcome : Outcome) → IsClassesCall mesh sizes vertices old classes outcome
    → (outcome.code ≡ codes.DONE → StandInFront mesh sizes vertices old classes) × (outcome.code ≢ codes.DONE → classes ≡ old)
stand mesh sizes vertices old classes outcome h =
    elim (cases_lt (length old) (length sizes)) [
      | inl less ↦
          (let short = h.short less in
          ((λ e. absurd (omega (arith, e, code_is outcome _ short.1))), (λ _. short.0)))
      | inr room ↦
          (let told_so = h.room room in
          classed mesh sizes vertices old classes outcome told_so.end told_so.right told_so.tells)
    ]

pub classes_mean : (mesh : FaceList) (sizes vertices old classes : List ℕ) (outcome : Outcome)
    → IsMeshClassesCall (Some mesh) sizes vertices old classes outcome → outcome.code ≡ codes.DONE
    → IsCompactSurface mesh × AreClasses mesh (walks_in_arrays sizes vertices) (take (length sizes) classes)
classes_mean mesh sizes vertices old classes outcome h e =
    let stands = (stand mesh sizes vertices old classes outcome h).0 e in
    let front : take (length sizes) classes ≡ stands.given =
    ap (take (length sizes)) stands.is ∙ take_at stands.given (drop (length stands.given) old) (length sizes) stands.each in
    (stands.classed.surface, subst (AreClasses mesh (walks_in_arrays sizes vertices)) (sym front) stands.classed.classes.classes)

pub classes_alike : (mesh : FaceList) (sizes vertices old classes : List ℕ) (outcome : Outcome)
    → IsMeshClassesCall (Some mesh) sizes vertices old classes outcome → outcome.code ≡ codes.DONE
    → (i j : ℕ) → i < length sizes → j < length sizes
    → (get_or classes i 0 ≡ get_or classes j 0) ↔ AreInOneClass mesh (walk_in_arrays sizes vertices i) (walk_in_arrays sizes vertices j)
classes_alike mesh sizes vertices old classes outcome h e i j l m =
    let stands = (stand mesh sizes vertices old classes outcome h).0 e in
    let walks : List (List ℕ) = walks_in_arrays sizes vertices in
    let many : length walks ≡ length sizes = length-map-range_with_len (walk_in_arrays sizes vertices) 0 (length sizes) in
    let read : (k : ℕ) → k < length sizes → get_or walks k [] ≡ walk_in_arrays sizes vertices k =
    λ k below. get_or-map-range_with_len (walk_in_arrays sizes vertices) 0 (length sizes) k k [] below (omega arith) in
    let number : (k : ℕ) → k < length sizes → get_or classes k 0 ≡ get_or stands.given k 0 =
    λ k below. ap (λ (xs : List ℕ). get_or xs k 0) stands.is
    ∙ get_or_append_left stands.given (drop (length stands.given) old) 0 k (omega (arith, below, stands.each)) in
    let told =
    told_by_numbers mesh walks stands.given i j stands.classed.classes.classes (omega (arith, l, many)) (omega (arith, m, many)) in
    let alike : (get_or stands.given i 0 ≡ get_or stands.given j 0)
    ↔ AreInOneClass mesh (walk_in_arrays sizes vertices i) (walk_in_arrays sizes vertices j) =
    subst (λ (w : List ℕ). (get_or stands.given i 0 ≡ get_or stands.given j 0) ↔ AreInOneClass mesh (walk_in_arrays sizes vertices i) w)
    (read j m)
    (subst (λ (w : List ℕ). (get_or stands.given i 0 ≡ get_or stands.given j 0) ↔ AreInOneClass mesh w (get_or walks j [])) (read i l)
    told) in (
      λ same. alike.0 (sym (number i l) ∙ same ∙ number j m),
      λ is. number i l ∙ alike.1 is ∙ sym (number j m),
    )

pub classes_else_same : (held : Option FaceList) (sizes vertices old classes : List ℕ) (outcome : Outcome)
    → IsMeshClassesCall held sizes vertices old classes outcome → outcome.code ≢ codes.DONE → classes ≡ old
classes_else_same (Some mesh) sizes vertices old classes outcome h differs = (stand mesh sizes vertices old classes outcome h).1 differs
classes_else_same None sizes vertices old classes outcome h differs = h.0

-- the numbers that are given stand in front
pub put_classes : (mesh : FaceList) (sizes vertices old classes items : List ℕ) (given : Vec ℕ) (put outcome : Outcome)
    → AreClassed mesh sizes vertices given.items → items ≡ given.items → put ≡ done → IsPut items old classes put outcome
    → length sizes ≤ length old → AreClassesTold mesh sizes vertices old classes outcome
put_classes mesh sizes vertices old classes items given put outcome are is e h room =
    let each : length given.items ≡ length sizes =
    are.classes.classes.each_walk ∙ length-map-range_with_len (walk_in_arrays sizes vertices) 0 (length sizes) in
    let front = h.room (omega (arith, room, each, ap (λ (xs : List ℕ). length xs) is)) in
    record {
      end = Ok given;
      right = are;
      tells = (front.0 ∙ ap (λ (xs : List ℕ). in_front xs old) is, front.1 ∙ e);
    }

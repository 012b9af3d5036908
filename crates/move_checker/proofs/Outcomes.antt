-- What the answer of a step says in terms of the table of moves.
use Rattle.move_checker.proofs.Common.{step_of, MoveFault, OverPeak, ◌≡◌, ℕ, ◌<◌, ◌≤◌, List, subst, refl, ap, arith, ◌↔◌, Result, Ok, Err, IsOk, OnOk, MatchResult, FaceList, apply, darts, Move}
use Rattle.std.specs.Prelude.{Some}
use Rattle.move_checker.proofs.Steps.{Outcome, is_not_allowed, is_over_peak, is_done, outcome}

-- the answer and the walk afterwards are those of the step
abbrev pub IsStep : FaceList → ℕ → List ℕ → Move → Result (Unit {0}) MoveFault → List ℕ → Type 0
IsStep mesh peak walk move answer after =
    MatchResult answer (λ _. step_of mesh peak walk move ≡ Ok after) (λ fault. step_of mesh peak walk move ≡ Err fault)

ok_given : (mesh : FaceList) (peak : ℕ) (walk : List ℕ) (move : Move) (after : List ℕ) → Outcome mesh peak walk move
    → step_of mesh peak walk move ≡ Ok after
    → (apply mesh walk move ≡ Some after) × (darts after ≤ peak)
ok_given mesh peak walk move after (is_not_allowed fault s g ne) e = cc
ok_given mesh peak walk move after (is_over_peak next s g lt) e = cc
ok_given mesh peak walk move after (is_done next s g le) e =
    let same : next ≡ after = cc in
    (cc, subst (λ (w : List ℕ). darts w ≤ peak) same le)

-- a step that is done gives the walk of the table of moves, within the peak
pub step_gives : (mesh : FaceList) (peak : ℕ) (walk : List ℕ) (move : Move) (after : List ℕ) → step_of mesh peak walk move ≡ Ok after
    → (apply mesh walk move ≡ Some after) × (darts after ≤ peak)
step_gives mesh peak walk move after e = ok_given mesh peak walk move after (outcome mesh peak walk move) e

-- and the other way round
given_ok : (mesh : FaceList) (peak : ℕ) (walk : List ℕ) (move : Move) (next : List ℕ) → Outcome mesh peak walk move
    → apply mesh walk move ≡ Some next → darts next ≤ peak
    → step_of mesh peak walk move ≡ Ok next
given_ok mesh peak walk move next (is_not_allowed fault s g ne) e le = cc
given_ok mesh peak walk move next (is_over_peak other s g lt) e le =
    let same : other ≡ next = cc in
    absurd (omega (arith, lt, le, ap darts same))
given_ok mesh peak walk move next (is_done other s g _) e le = cc

pub given_step : (mesh : FaceList) (peak : ℕ) (walk : List ℕ) (move : Move) (next : List ℕ) → apply mesh walk move ≡ Some next
    → darts next ≤ peak
    → step_of mesh peak walk move ≡ Ok next
given_step mesh peak walk move next e le = given_ok mesh peak walk move next (outcome mesh peak walk move) e le

over_given : (mesh : FaceList) (peak : ℕ) (walk : List ℕ) (move : Move) → Outcome mesh peak walk move
    → step_of mesh peak walk move ≡ Err OverPeak
    → (next : List ℕ) × (apply mesh walk move ≡ Some next) × (peak < darts next)
over_given mesh peak walk move (is_not_allowed fault s g ne) e =
    let same : fault ≡ OverPeak = cc in
    absurd (ne same)
over_given mesh peak walk move (is_over_peak next s g lt) e = (next, g, lt)
over_given mesh peak walk move (is_done next s g le) e = cc

given_over : (mesh : FaceList) (peak : ℕ) (walk : List ℕ) (move : Move) (next : List ℕ) → Outcome mesh peak walk move
    → apply mesh walk move ≡ Some next → peak < darts next
    → step_of mesh peak walk move ≡ Err OverPeak
given_over mesh peak walk move next (is_not_allowed fault s g ne) e lt = cc
given_over mesh peak walk move next (is_over_peak other s g _) e lt = s
given_over mesh peak walk move next (is_done other s g le) e lt =
    let same : other ≡ next = cc in
    absurd (omega (arith, lt, le, ap darts same))

pub ok_from_step : (mesh : FaceList) (peak : ℕ) (walk : List ℕ) (move : Move) (answer : Result (Unit {0}) MoveFault) (after : List ℕ)
    → IsStep mesh peak walk move answer after → OnOk answer (apply mesh walk move ≡ Some after)
ok_from_step mesh peak walk move (Ok u) after h = (step_gives mesh peak walk move after h).0
ok_from_step mesh peak walk move (Err fault) after h = tt

pub allowed_from_step : (mesh : FaceList) (peak : ℕ) (walk : List ℕ) (move : Move) (answer : Result (Unit {0}) MoveFault) (after : List ℕ)
    → IsStep mesh peak walk move answer after
    → IsOk answer ↔ ((next : List ℕ) × (apply mesh walk move ≡ Some next) × (darts next ≤ peak))
allowed_from_step mesh peak walk move (Ok u) after h =
    let given = step_gives mesh peak walk move after h in
    (λ ok. (after, given.0, given.1), λ allowed. refl)
allowed_from_step mesh peak walk move (Err fault) after h =
    (λ ok. cc, λ allowed. let done = given_step mesh peak walk move allowed.0 allowed.1 allowed.2 in cc)

pub over_from_step : (mesh : FaceList) (peak : ℕ) (walk : List ℕ) (move : Move) (answer : Result (Unit {0}) MoveFault) (after : List ℕ)
    → IsStep mesh peak walk move answer after
    → (answer ≡ Err OverPeak) ↔ ((next : List ℕ) × (apply mesh walk move ≡ Some next) × (peak < darts next))
over_from_step mesh peak walk move (Ok u) after h =
    (λ e. cc, λ over. let done = given_over mesh peak walk move over.0 (outcome mesh peak walk move) over.1 over.2 in cc)
over_from_step mesh peak walk move (Err fault) after h = (
  λ e. over_given mesh peak walk move (outcome mesh peak walk move) (let same : fault ≡ OverPeak = cc in cc),
  λ over. let done = given_over mesh peak walk move over.0 (outcome mesh peak walk move) over.1 over.2 in cc,
)

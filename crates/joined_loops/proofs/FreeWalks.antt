-- Freely homotopic closed walks have joined quad paths, so on a full wheel they have one cyclic form.
use Rattle.joined_loops.proofs.Common.{step_keeps, IsClosedWalk, FreeStep, Moved, Rotated, after_free, after_all_free, FreelyHomotopic, Joined, PutLaws, moves_keep, IsGood, LabellingView, quad_path, IsFullWheel, IsCyclicallyCanonical, LoopLeads, IsRotation, arith, ◌≡◌, ℕ, sym, ◌∙◌, ap, List, [], ◌∷◌, ◌++◌, append_assoc, common_steps, Some, option_and_then, first_answer, FaceList, IsFaceList, apply_all, led, IsEven, hyper_next, BelongsTo, hyper_stays, hyper_there_and_back, hyper_across}
use Rattle.joined_loops.proofs.Joining.{same-joined, joined-back, joined-on}
use Rattle.joined_loops.proofs.Stepping.{leads-loop, leads-joined}
use Rattle.joined_loops.proofs.Rotating.{joined-rotations}
use Rattle.joined_loops.proofs.ClosedPaths.{quad-loop, goes-last}

-- spokes put on one wheel meet the two laws
hyper-laws : (places : List ℕ) → PutLaws places hyper_next (BelongsTo places) IsEven
hyper-laws places = record {
  stays = λ s i b l. hyper_stays.belongs places s i b l;
  vertex = λ s i j b e l m. hyper_stays.at_vertex places s i j b e l m;
  back = λ s i b l. hyper_there_and_back places s i b l;
  quad = λ s a c b e q. hyper_across places s a c b e q;
}

module _ (mesh : FaceList) (labelling : LabellingView) (valid : IsFaceList mesh) (good : IsGood mesh labelling) where
  abbrev path : List ℕ → List ℕ
  path = quad_path mesh labelling

  step-joined : (step : FreeStep) (walk next : List ℕ) → IsClosedWalk mesh walk → after_free mesh walk step ≡ Some next →
      Joined labelling.places (path walk) (path next)
  step-joined (Moved move) walk next closed e =
      same-joined labelling.places (path walk) (path next) (λ s b even.
      moves_keep mesh labelling hyper_next (BelongsTo labelling.places) IsEven (hyper-laws labelling.places) valid good (move ∷ [])
      walk next closed.is_walk (ap (option_and_then (λ w. apply_all mesh w [])) e) s (b, even))
  step-joined Rotated walk next closed e =
      let last = goes-last mesh labelling walk next closed e in
      let dart = path last.dart in
      let others = path last.others in (
        dart,
        record {
          loop = quad-loop mesh labelling good last.dart;
          same = λ s b even. ap (led hyper_next labelling.places s)
              (ap (λ l. l ++ dart) last.was ∙ append_assoc dart others dart ∙ ap (λ l. dart ++ l) (sym last.is));
        },
      )

  steps-joined : (steps : List FreeStep) (walk next : List ℕ) → IsClosedWalk mesh walk → after_all_free mesh walk steps ≡ Some next →
      Joined labelling.places (path walk) (path next)
  steps-joined [] walk next closed e = grind (arith, common_steps)
  steps-joined (step ∷ steps) walk next closed e =
      let told = first_answer (λ w. after_all_free mesh w steps) (after_free mesh walk step) next e in
      joined-on labelling.places (path walk) (path told.0) (path next) (step-joined step walk told.0 closed told.1)
      (steps-joined steps told.0 next (step_keeps mesh step walk told.0 closed told.1) told.2)

-- freely homotopic closed walks have joined quad paths
pub free-joined : (mesh : FaceList) (labelling : LabellingView) (first second : List ℕ) → IsFaceList mesh → IsGood mesh labelling →
    IsClosedWalk mesh first → FreelyHomotopic mesh first second →
    Joined labelling.places (quad_path mesh labelling first) (quad_path mesh labelling second)
free-joined mesh labelling first second valid good closed free = steps-joined mesh labelling valid good free.0 first second closed free.1

pub one_cyclic_form : (mesh : FaceList) (labelling : LabellingView) (first second one other : List ℕ) → IsFaceList mesh →
    IsGood mesh labelling → IsFullWheel labelling.places → IsClosedWalk mesh first → FreelyHomotopic mesh first second →
    LoopLeads labelling.places (quad_path mesh labelling first) one → LoopLeads labelling.places (quad_path mesh labelling second) other →
    IsCyclicallyCanonical labelling.places one → IsCyclicallyCanonical labelling.places other → IsRotation one other
one_cyclic_form mesh labelling first second one other valid good full closed free leads more canonical other_canonical =
    let places = labelling.places in
    let p = quad_path mesh labelling first in
    let q = quad_path mesh labelling second in
    let p_loop = quad-loop mesh labelling good first in
    let q_loop = quad-loop mesh labelling good second in
    let back = joined-back places p one p_loop (leads-joined places p one p_loop leads) in
    let between = free-joined mesh labelling first second valid good closed free in
    let whole = joined-on places one p other back (joined-on places p q other between (leads-joined places q other q_loop more)) in
    joined-rotations places full one other (leads-loop places p one p_loop leads) (leads-loop places q other q_loop more)
    canonical other_canonical whole

-- Freely homotopic closed walks have one sum over the degree 4.
use Rattle.joined_loops.proofs.Common.{step_keeps, IsClosedWalk, FreeStep, Moved, Rotated, after_free, after_all_free, FreelyHomotopic, spokes_of, sum_of_pairs, PutLaws, moves_keep, quad_path_in_pairs, quad_path_leads_to_sum, flat_wheel_of_good, IsGood, LabellingView, quad_path, in_pairs, IsWordOf, ◌≡◌, ℕ, arith, sym, ◌∙◌, ap, ap₂, List, [], ◌∷◌, ◌++◌, Some, option_and_then, ℤ, first_answer, FaceList, IsFaceList, apply_all}
use Rattle.flat_forms.specs.FlatStates.{IsFlatWheel, IsEvenPoint, flat_next}
use Rattle.flat_forms.specs.Lemmas.FlatLaws.{flat_starts, flat_stays, flat_there_and_back, flat_across}
use Rattle.flat_forms.specs.Vectors.{Vector, origin, plus, less, unit_step}
use Rattle.std.proofs.lemmas.Int.{ints}
use Rattle.turn_words.specs.declared.word.Word.{Word}
use Rattle.turn_words.specs.declared.word.Word.TheVariants.{Turns, Flat}
use Rattle.joined_loops.proofs.ClosedPaths.{goes-last}

abbrev vector : ℤ → ℤ → Vector
vector x y = record { x = x; y = y }

plus-turned : (a b : Vector) → plus a b ≡ plus b a
plus-turned a b = ap₂ vector (omega (arith, ints)) (omega (arith, ints))

plus-grouped : (a b c : Vector) → plus (plus a b) c ≡ plus a (plus b c)
plus-grouped a b c = ap₂ vector (omega (arith, ints)) (omega (arith, ints))

origin-plus : (a : Vector) → plus origin a ≡ a
origin-plus a = ap₂ vector (omega (arith, ints)) (omega (arith, ints))

-- the sum over the pairs of spokes of a list
abbrev sum : List ℕ → Vector
sum q = sum_of_pairs (in_pairs q)

sum-append : (pairs : List (ℕ × ℕ)) (q : List ℕ) → sum (spokes_of pairs ++ q) ≡ plus (sum_of_pairs pairs) (sum q)
sum-append [] q = sym (origin-plus (sum q))
sum-append (pair ∷ pairs) q =
    let step = less (unit_step pair.0) (unit_step pair.1) in
    ap (plus step) (sum-append pairs q) ∙ sym (plus-grouped step (sum_of_pairs pairs) (sum q))

module _ (mesh : FaceList) (labelling : LabellingView) (valid : IsFaceList mesh) (good : IsGood mesh labelling)
    (four : labelling.degree ≡ 4) where
  abbrev path : List ℕ → List ℕ
  path = quad_path mesh labelling

  -- two quad paths, one behind the other
  path-sum : (walk other : List ℕ) → sum (path walk ++ path other) ≡ plus (sum (path walk)) (sum (path other))
  path-sum walk other =
      ap (λ q. sum (q ++ path other)) (sym (quad_path_in_pairs mesh labelling walk)) ∙ sum-append (in_pairs (path walk)) (path other)

  laws : PutLaws labelling.places flat_next (λ _. IsFlatWheel labelling.places) IsEvenPoint
  laws = record {
    stays = λ s i b l. flat_stays.belongs labelling.places s i b l;
    vertex = λ s i j b e l m. flat_stays.at_vertex labelling.places s i j b e l m;
    back = λ s i b l. flat_there_and_back labelling.places s i b l;
    quad = λ s a c b e q. flat_across labelling.places s a c b e q;
  }

  step-sum : (step : FreeStep) (walk next : List ℕ) → IsClosedWalk mesh walk → after_free mesh walk step ≡ Some next →
      sum (path walk) ≡ sum (path next)
  step-sum (Moved move) walk next closed e =
      sym (quad_path_leads_to_sum mesh labelling walk)
      ∙ moves_keep mesh labelling flat_next (λ _. IsFlatWheel labelling.places) IsEvenPoint laws valid good (move ∷ []) walk next
      closed.is_walk (ap (option_and_then (λ w. apply_all mesh w [])) e) origin
      (flat_wheel_of_good mesh labelling good four, flat_starts.at_vertex)
      ∙ quad_path_leads_to_sum mesh labelling next
  step-sum Rotated walk next closed e =
      let last = goes-last mesh labelling walk next closed e in
      ap sum last.was ∙ path-sum last.dart last.others ∙ plus-turned (sum (path last.dart)) (sum (path last.others))
      ∙ sym (path-sum last.others last.dart) ∙ ap sum (sym last.is)

  steps-sum : (steps : List FreeStep) (walk next : List ℕ) → IsClosedWalk mesh walk → after_all_free mesh walk steps ≡ Some next →
      sum (path walk) ≡ sum (path next)
  steps-sum [] walk next closed e = let same : walk ≡ next = cc in ap (λ w. sum (path w)) same
  steps-sum (step ∷ steps) walk next closed e =
      let told = first_answer (λ w. after_all_free mesh w steps) (after_free mesh walk step) next e in
      step-sum step walk told.0 closed told.1
      ∙ steps-sum steps told.0 next (step_keeps mesh step walk told.0 closed told.1) told.2

pub one_sum : (mesh : FaceList) (labelling : LabellingView) (first second : List ℕ) (one other : Word) → IsFaceList mesh →
    IsGood mesh labelling → labelling.degree ≡ 4 → IsClosedWalk mesh first → FreelyHomotopic mesh first second →
    IsWordOf mesh labelling first one → IsWordOf mesh labelling second other → one ≡ other
one_sum mesh labelling first second (Flat x y) (Flat v w) valid good four closed free f g =
    ap (λ (p : Vector). Flat p.x p.y) (f.1 ∙ steps-sum mesh labelling valid good four free.0 first second closed free.1 ∙ sym g.1)
one_sum mesh labelling first second (Turns one) other valid good four closed free f g = absurd (omega (arith, f.0, four))
one_sum mesh labelling first second (Flat x y) (Turns other) valid good four closed free f g = absurd (omega (arith, g.0, four))

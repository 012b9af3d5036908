-- The walk along one of two homotopic walks and back along the other leads each form back to where it starts, so that nothing is left
-- of its
-- spokes; and a walk whose spokes are gone goes nowhere.
use Rattle.move_lifting.proofs.Common.{last_entry, OrientedMesh, IsOrientedSurface, IsCutSurface, IsFreelyPath, last_of, there_and_home, backward_is, free_equality, up, tree_ways, up_path, IsWay, PolygonView, HaveFreeSpokes, spokes_along, backward, free_walk_leads, free_walk_below, PathLeads, PathStep, ◌≡◌, ◌⊎◌, inl, inr, ℕ, suc, ◌-◌, ◌<◌, ◌≤◌, true, List, [], ◌∷◌, ◌++◌, length, drop, take, ap, sym, ◌∙◌, subst, arith, append_assoc, cases_lt, drop_more, All, slice_index, one_reduced_walk, is_used, AreFreelyEqual, HasNoSpur, Homotopic, IsWalk, SplitView, IsSplit, led}
use Rattle.flat_forms.specs.FlatStates.{IsFlatWheel, flat_next, IsEvenPoint}
use Rattle.flat_forms.specs.Lemmas.FlatLaws.{flat_starts, flat_stays, flat_there_and_back, flat_across}
use Rattle.flat_forms.specs.Vectors.{origin}
use Rattle.labellings.proofs.FoldLemmas.{PutLaws, run, run_on}
use Rattle.labellings.proofs.KeepingLemmas.{moves_keep, run_ready}
use Rattle.labellings.proofs.WalkWordLemmas.{quad_path_below, hyper_wheel_of_good, flat_wheel_of_good}
use Rattle.labellings.specs.GoodLabellings.{IsGood}
use Rattle.labellings.specs.Labellings.{LabellingView}
use Rattle.labellings.specs.QuadPaths.{quad_path}
use Rattle.quad_system.proofs.PolygonLabelLemmas.{polygon_good}
use Rattle.quad_system.specs.PolygonLabellings.{labelling_from}
use Rattle.spoke_paths.proofs.LeavingNothing.{turns-leave, flat-leave}
use Rattle.spoke_paths.specs.ReducedWords.{IsReducedWord}
use Rattle.turn_words.specs.HyperStates.{HyperState, IsHyperWheel, BelongsTo, IsEven, empty_state, hyper_next}
use Rattle.turn_words.specs.Lemmas.HyperLaws.{hyper_starts, hyper_stays, hyper_there_and_back, hyper_across}
use Rattle.turn_words.specs.SpokePaths.{turn_word_of}

-- spokes that lead two states to one lead from one
led_apart : {State : Type 0} (places : List ℕ) (next : List ℕ → State → ℕ → State) (Belongs IsAtVertex : State → Type 0)
    → PutLaws places next Belongs IsAtVertex → (path : List ℕ) → All (λ i. i < length places) path → (x y : State) → Belongs x → Belongs y
    → led next places x path ≡ led next places y path → x ≡ y
led_apart places next Belongs IsAtVertex laws [] below x y b c e = e
led_apart places next Belongs IsAtVertex laws (i ∷ path) below x y b c e =
    let here : i < length places = below 0 0 (omega arith) in
    let same : next places x i ≡ next places y i =
    led_apart places next Belongs IsAtVertex laws path (λ k d l. below (suc k) d (omega arith)) (next places x i) (next places y i)
    (laws.stays x i b here) (laws.stays y i c here) e in
    sym (laws.back x i b here) ∙ ap (λ z. next places z i) same ∙ laws.back y i c here

-- a walk without spurs, of which no spokes are left, is one vertex
pub goes_nowhere : (s : OrientedMesh) (split : SplitView) (polygon : PolygonView) → IsOrientedSurface s → IsSplit s split → (walk : List ℕ)
    → IsWalk s.mesh walk → HasNoSpur walk → IsFreelyPath s split polygon [] walk → walk ≡ slice_index walk 0 ∷ []
goes_nowhere s split polygon o t walk w clean free =
    let x : ℕ = slice_index walk 0 in
    let root : ℕ = t.parents.root in
    let ways : ℕ → List ℕ = up s split t in
    let used : is_used s.mesh x ≡ true = w.used 0 0 w.starts in
    let way : IsWay s.mesh x root (up s split t x) = (tree_ways s split o t).way x used in
    let there : AreFreelyEqual s.mesh walk (x ∷ (ways x ++ backward x (ways x))) =
    free root ways (λ v v_used. up_path s split t v v_used) in
    let home : AreFreelyEqual s.mesh (x ∷ (ways x ++ backward x (ways x))) (x ∷ []) =
    subst (λ (l : List ℕ). AreFreelyEqual s.mesh (x ∷ (ways x ++ l)) (x ∷ [])) (sym (backward_is x (ways x)))
    (there_and_home (free_equality s.mesh) x root (ways x) way) in
    one_reduced_walk s.mesh walk (x ∷ []) w.starts ((free_equality s.mesh).on walk (x ∷ (ways x ++ backward x (ways x))) (x ∷ []) there
    home) clean (λ k l. absurd (omega arith))

module _ {s : OrientedMesh} {split : SplitView} {polygon : PolygonView} (is_cut : IsCutSurface s split polygon) where
  open is_cut use {valid as o, tree as t, cut, some}

  -- the closed walk comes home
  comes_home : {State : Type 0} (next : List ℕ → State → ℕ → State) (Belongs IsAtVertex : State → Type 0)
      → PutLaws polygon.places next Belongs IsAtVertex
      → (x : State) → Belongs x → IsAtVertex x
      → (first closed second : List ℕ) → IsWalk s.mesh first → 0 < length closed → 0 < length second → last_of closed ≡ slice_index second 0
      → Homotopic s.mesh first (closed ++ drop 1 second) → Homotopic s.mesh first second
      → led next polygon.places x (quad_path s.mesh (labelling_from s polygon) closed) ≡ x
  comes_home {State = State} next Belongs IsAtVertex laws x b v first closed second w closed_some second_some
      meets there same =
      let labelling : LabellingView = labelling_from s polygon in
      let good : IsGood s.mesh labelling = polygon_good s split polygon o t cut some in
      let front : List ℕ = take (length closed - 1) closed in
      let u : ℕ = slice_index second 0 in
      let closed_is : closed ≡ front ++ u ∷ [] = last_entry closed closed_some ∙ ap (λ y. front ++ y ∷ []) meets in
      let second_is : second ≡ u ∷ drop 1 second = drop_more second 0 0 second_some in
      let home : State = run s.mesh labelling next x closed in
      let whole : closed ++ drop 1 second ≡ front ++ u ∷ drop 1 second = ap (λ (l : List ℕ). l ++ drop 1 second) closed_is
      ∙ append_assoc front (u ∷ []) (drop 1 second) in
      let on : run s.mesh labelling next x (closed ++ drop 1 second) ≡ run s.mesh labelling next home second =
      ap (run s.mesh labelling next x) whole ∙ run_on s.mesh labelling next x front u (drop 1 second)
      ∙ ap (λ (l : List ℕ). run s.mesh labelling next (run s.mesh labelling next x l) (u ∷ drop 1 second)) (sym closed_is)
      ∙ ap (run s.mesh labelling next home) (sym second_is) in
      let one : run s.mesh labelling next x first ≡ run s.mesh labelling next x (closed ++ drop 1 second) =
      moves_keep s.mesh labelling next Belongs IsAtVertex laws o.faces good there.0 first (closed ++ drop 1 second) w there.1 x (b, v) in
      let other : run s.mesh labelling next x first ≡ run s.mesh labelling next x second =
      moves_keep s.mesh labelling next Belongs IsAtVertex laws o.faces good same.0 first second w same.1 x (b, v) in
      led_apart polygon.places next Belongs IsAtVertex laws (quad_path s.mesh labelling second) (quad_path_below s.mesh labelling good
      second)
      home x
      (run_ready s.mesh labelling next Belongs IsAtVertex laws good closed x (b, v)).0 b (sym on ∙ sym one ∙ other)

  -- nothing is left of the spokes of the closed walk, where the two walks are homotopic
  pub nothing_is_left : (spokes : ℕ → ℕ → List ℕ) → HaveFreeSpokes s polygon spokes
      → (first closed second end : List ℕ) (steps : List PathStep) → IsWalk s.mesh first → IsWalk s.mesh closed → 0 < length second
      → last_of closed ≡ slice_index second 0
      → Homotopic s.mesh first (closed ++ drop 1 second) → PathLeads polygon.places (spokes_along spokes closed) steps end
      → IsReducedWord (length polygon.places) (turn_word_of polygon.places end) → Homotopic s.mesh first second → end ≡ []
  nothing_is_left spokes free first closed second end steps w z second_some meets there leads reduced same =
      by degree_is
    where
      good : IsGood s.mesh (labelling_from s polygon)
      good = polygon_good s split polygon o t cut some

      below : All (λ i. i < length polygon.places) (spokes_along spokes closed)
      below = free_walk_below s split polygon o t cut some spokes free closed z

      degree_is : (polygon.degree ≡ 4) ⊎ (5 ≤ polygon.degree)
      degree_is = elim (cases_lt polygon.degree 5) [ inl few ↦ inl (omega (arith, cut.degree)) | inr many ↦ inr many ]

      by : (polygon.degree ≡ 4) ⊎ (5 ≤ polygon.degree) → end ≡ []
      by (inl four) =
          let own : IsFlatWheel polygon.places = flat_wheel_of_good s.mesh (labelling_from s polygon) good four in
          let laws : PutLaws polygon.places flat_next (λ _. IsFlatWheel polygon.places) IsEvenPoint = record {
            stays = λ x i b l. flat_stays.belongs polygon.places x i b l;
            vertex = λ x i j b e l m. flat_stays.at_vertex polygon.places x i j b e l m;
            back = λ x i b l. flat_there_and_back polygon.places x i b l;
            quad = λ x a d b e q. flat_across polygon.places x a d b e q;
          } in
          flat-leave polygon.places (spokes_along spokes closed) end steps own below leads reduced
          (free_walk_leads s split polygon o t cut some flat_next (λ _. IsFlatWheel polygon.places) IsEvenPoint laws spokes free closed z
          origin own flat_starts.at_vertex
          ∙ comes_home flat_next (λ _. IsFlatWheel polygon.places) IsEvenPoint laws origin own
          flat_starts.at_vertex first closed second w z.starts
          second_some meets there same)
      by (inr five) =
          let own : IsHyperWheel polygon.places = hyper_wheel_of_good s.mesh (labelling_from s polygon) good five in
          let laws : PutLaws polygon.places hyper_next (BelongsTo polygon.places) IsEven = record {
            stays = λ x i b l. hyper_stays.belongs polygon.places x i b l;
            vertex = λ x i j b e l m. hyper_stays.at_vertex polygon.places x i j b e l m;
            back = λ x i b l. hyper_there_and_back polygon.places x i b l;
            quad = λ x a d b e q. hyper_across polygon.places x a d b e q;
          } in
          let b : BelongsTo polygon.places empty_state = hyper_starts.belongs polygon.places own in
          turns-leave polygon.places (spokes_along spokes closed) end steps own below leads reduced
          (ap (λ (x : HyperState). x.word)
          (free_walk_leads s split polygon o t cut some hyper_next (BelongsTo polygon.places) IsEven laws spokes free closed z empty_state b
          hyper_starts.at_vertex
          ∙ comes_home hyper_next (BelongsTo polygon.places) IsEven laws empty_state b hyper_starts.at_vertex
          first closed second w z.starts
          second_some meets there same))

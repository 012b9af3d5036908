-- On a torus closed walks with one sum are freely homotopic: the second one is made a walk from the start of the first, along a way
-- there and back, which changes no sum.
use Rattle.free_loops.proofs.Common.{on, parts_turn, freely, FreelyHomotopic, IsEvenPoint, IsFlatWheel, flat_next, spokes_of, sum_of_pairs, Vector, origin, plus, less, unit_step, OrientedMesh, IsOrientedSurface, quad_path_in_pairs, flat_wheel_of_good, IsGood, LabellingView, spokes, quad_path, in_pairs, behind, there_and_home, home_and_there, back, homotopy, IsWay, way_walk, way_on, way_home, start_used, up, tree_ways, PolygonView, IsCutFrom, polygon_good, labelling_from, ◌≡◌, ℕ, List, [], ◌∷◌, ◌++◌, refl, ap, ap₂, sym, ◌∙◌, subst, arith, append_assoc, ℤ, append-nil, FaceList, IsFaceList, Homotopic, SplitView, IsSplit, led}
use Rattle.flat_forms.proofs.SumsOfPairs.{leads-by}
use Rattle.flat_forms.specs.Lemmas.FlatLaws.{flat_stays, flat_there_and_back, flat_across}
use Rattle.flat_forms.specs.Lemmas.StepsInThePlane.{next-next, vertex-again}
use Rattle.labellings.proofs.FoldLemmas.{PutLaws, led-append}
use Rattle.labellings.proofs.KeepingLemmas.{moves_keep}
use Rattle.quad_system.proofs.FlatWordLemmas.{one_sum}
use Rattle.std.proofs.lemmas.Int.{ints}
use Rattle.free_loops.proofs.ClosedLoopLemmas.{way_ends, common_ends}

even_after : (places : List ℕ) (s : Vector) (pairs : List (ℕ × ℕ)) → IsEvenPoint s → IsEvenPoint (led flat_next places s (spokes_of pairs))
even_after places s [] even = even
even_after places s (pair ∷ pairs) even =
    subst (λ z. IsEvenPoint (led flat_next places z (spokes_of pairs))) (sym (next-next places s pair.0 pair.1 even))
    (even_after places (less (plus s (unit_step pair.0)) (unit_step pair.1)) pairs (vertex-again s pair.0 pair.1 even))

plus_turned : (s a b : Vector) → plus (plus s a) b ≡ plus (plus s b) a
plus_turned s a b = ap₂ (λ (x y : ℤ). record { x = x; y = y }) (omega (arith, ints)) (omega (arith, ints))

pairs_turned : (places : List ℕ) (s : Vector) (pairs others : List (ℕ × ℕ)) → IsEvenPoint s
    → led flat_next places (led flat_next places s (spokes_of pairs)) (spokes_of others)
    ≡ led flat_next places (led flat_next places s (spokes_of others)) (spokes_of pairs)
pairs_turned places s pairs others even =
    leads-by places (led flat_next places s (spokes_of pairs)) others (even_after places s pairs even)
    ∙ ap (λ z. plus z (sum_of_pairs others)) (leads-by places s pairs even) ∙ plus_turned s (sum_of_pairs pairs) (sum_of_pairs others)
    ∙ ap (λ z. plus z (sum_of_pairs pairs)) (sym (leads-by places s others even))
    ∙ sym (leads-by places (led flat_next places s (spokes_of others)) pairs (even_after places s others even))

-- the quad path of a walk that is put together of two
path_on : (mesh : FaceList) (labelling : LabellingView) (u v : ℕ) (rest more : List ℕ) → IsWay mesh u v rest
    → quad_path mesh labelling (u ∷ (rest ++ more)) ≡ quad_path mesh labelling (u ∷ rest) ++ quad_path mesh labelling (v ∷ more)
path_on mesh labelling u v [] more h = ap (λ x. quad_path mesh labelling (x ∷ more)) h.0
path_on mesh labelling u v (w ∷ rest) more h =
    ap (λ (l : List ℕ). spokes mesh labelling u w ++ l) (path_on mesh labelling w v rest more h.1)
    ∙ sym (append_assoc (spokes mesh labelling u w) (quad_path mesh labelling (w ∷ rest)) (quad_path mesh labelling (v ∷ more)))

module _ (mesh : FaceList) (labelling : LabellingView) where
  abbrev run : Vector → List ℕ → Vector
  run s walk = led flat_next labelling.places s (quad_path mesh labelling walk)

  walks_turned : (s : Vector) (walk other : List ℕ) → IsEvenPoint s → run (run s walk) other ≡ run (run s other) walk
  walks_turned s walk other even =
      subst (λ (p : List ℕ). led flat_next labelling.places (led flat_next labelling.places s p) (quad_path mesh labelling other)
      ≡ led flat_next labelling.places (run s other) p) (quad_path_in_pairs mesh labelling walk)
      (subst (λ (q : List ℕ). led flat_next labelling.places (led flat_next labelling.places s pairs) q
      ≡ led flat_next labelling.places (led flat_next labelling.places s q) pairs) (quad_path_in_pairs mesh labelling other)
      (pairs_turned labelling.places s (in_pairs (quad_path mesh labelling walk)) (in_pairs (quad_path mesh labelling other)) even))
    where
      pairs : List ℕ
      pairs = spokes_of (in_pairs (quad_path mesh labelling walk))

  run_even : (s : Vector) (walk : List ℕ) → IsEvenPoint s → IsEvenPoint (run s walk)
  run_even s walk even =
      subst (λ (p : List ℕ). IsEvenPoint (led flat_next labelling.places s p)) (quad_path_in_pairs mesh labelling walk)
      (even_after labelling.places s (in_pairs (quad_path mesh labelling walk)) even)

  flat_laws : PutLaws labelling.places flat_next (λ _. IsFlatWheel labelling.places) IsEvenPoint
  flat_laws = record {
    stays = λ x i b l. flat_stays.belongs labelling.places x i b l;
    vertex = λ x i j b e l m. flat_stays.at_vertex labelling.places x i j b e l m;
    back = λ x i b l. flat_there_and_back labelling.places x i b l;
    quad = λ x a d b e q. flat_across labelling.places x a d b e q;
  }

  -- along a way, round a closed walk at its end, and back: the sum is that of the closed walk
  round_and_back : IsFaceList mesh → IsGood mesh labelling → labelling.degree ≡ 4 → (u v : ℕ) (rest others : List ℕ) → IsWay mesh u v rest
      → IsWay mesh v v others → run origin (u ∷ (rest ++ (others ++ back u rest))) ≡ run origin (v ∷ others)
  round_and_back valid good four u v rest others way round =
      let home : IsWay mesh v u (back u rest) = way_home mesh u v rest way in
      let there : List ℕ = quad_path mesh labelling (u ∷ rest) in
      let again : List ℕ = quad_path mesh labelling (v ∷ back u rest) in
      let middle : List ℕ = quad_path mesh labelling (v ∷ others) in
      let whole : quad_path mesh labelling (u ∷ (rest ++ (others ++ back u rest))) ≡ there ++ (middle ++ again) =
      path_on mesh labelling u v rest (others ++ back u rest) way
      ∙ ap (λ (l : List ℕ). there ++ l) (path_on mesh labelling v v others (back u rest) round) in
      let spur : there ++ again ≡ quad_path mesh labelling (u ∷ (rest ++ back u rest)) =
      sym (path_on mesh labelling u v rest (back u rest) way) in
      let state : Vector = run origin (v ∷ others) in
      let gone : Homotopic mesh (u ∷ (rest ++ back u rest)) (u ∷ []) = there_and_home (homotopy mesh) u v rest way in
      let kept : run state (u ∷ (rest ++ back u rest)) ≡ state =
      moves_keep mesh labelling flat_next (λ _. IsFlatWheel labelling.places) IsEvenPoint flat_laws valid good gone.0
      (u ∷ (rest ++ back u rest)) (u ∷ []) (way_walk mesh u u (rest ++ back u rest) (way_on mesh u v u rest (back u rest) way home)) gone.1
      state
      (flat_wheel_of_good mesh labelling good four, run_even origin (v ∷ others) refl) in
      ap (led flat_next labelling.places origin) whole
      ∙ led-append flat_next labelling.places origin there (middle ++ again)
      ∙ led-append flat_next labelling.places (run origin (u ∷ rest)) middle again
      ∙ ap (λ z. led flat_next labelling.places z again) (walks_turned origin (u ∷ rest) (v ∷ others) refl)
      ∙ sym (led-append flat_next labelling.places state there again)
      ∙ ap (led flat_next labelling.places state) spur ∙ kept

-- along a way, round and back is freely homotopic to the closed walk at its end
taken_along : (mesh : FaceList) (u v : ℕ) (rest others : List ℕ) → IsWay mesh u v rest → IsWay mesh v v others
    → FreelyHomotopic mesh (u ∷ (rest ++ (others ++ back u rest))) (v ∷ others)
taken_along mesh u v rest others way round =
    let home : Homotopic mesh (v ∷ (others ++ (back u rest ++ rest))) (v ∷ others) =
    subst (λ (l : List ℕ). Homotopic mesh (v ∷ (others ++ (back u rest ++ rest))) (v ∷ l)) (append-nil others)
    (behind (homotopy mesh) v v others (back u rest ++ rest) [] round (home_and_there (homotopy mesh) u v rest way)) in
    on mesh (u ∷ (rest ++ (others ++ back u rest))) (v ∷ ((others ++ back u rest) ++ rest)) (v ∷ others)
    (parts_turn mesh u v rest (others ++ back u rest) (way_ends mesh u v rest way))
    (freely mesh (v ∷ ((others ++ back u rest) ++ rest)) (v ∷ others)
    (subst (λ (l : List ℕ). Homotopic mesh (v ∷ l) (v ∷ others)) (sym (append_assoc others (back u rest) rest)) home))

-- closed walks with one sum are freely homotopic
pub sums_free : (s : OrientedMesh) (split : SplitView) (polygon : PolygonView) (o : IsOrientedSurface s) (t : IsSplit s split)
    → IsCutFrom s split polygon → polygon.degree ≡ 4 → (u v : ℕ) (rest others : List ℕ) → IsWay s.mesh u u rest → IsWay s.mesh v v others
    → led flat_next polygon.places origin (quad_path s.mesh (labelling_from s polygon) (u ∷ rest))
    ≡ led flat_next polygon.places origin (quad_path s.mesh (labelling_from s polygon) (v ∷ others))
    → FreelyHomotopic s.mesh (u ∷ rest) (v ∷ others)
sums_free s split polygon o t cut four u v rest others first second same =
    let ways = tree_ways s split o t in
    let u_way : IsWay s.mesh u t.parents.root (up s split t u) = ways.way u (start_used s.mesh u u rest first) in
    let v_way : IsWay s.mesh v t.parents.root (up s split t v) = ways.way v (start_used s.mesh v v others second) in
    let there : List ℕ = up s split t u ++ back v (up s split t v) in
    let along : IsWay s.mesh u v there =
    way_on s.mesh u t.parents.root v (up s split t u) (back v (up s split t v)) u_way
    (way_home s.mesh v t.parents.root (up s split t v) v_way) in
    let round : List ℕ = there ++ (others ++ back u there) in
    let round_way : IsWay s.mesh u u round =
    way_on s.mesh u v u there (others ++ back u there) along
    (way_on s.mesh v v u others (back u there) second (way_home s.mesh u v there along)) in
    let sums = round_and_back s.mesh (labelling_from s polygon) o.faces (polygon_good s split polygon o t cut (omega arith)) four u v there
    others along second in
    let moved : Homotopic s.mesh (u ∷ rest) (u ∷ round) =
    (one_sum s split polygon (u ∷ rest) (u ∷ round) o t cut four (way_walk s.mesh u u rest first) (way_walk s.mesh u u round round_way)
    (common_ends s.mesh u rest round first round_way)).1 (same ∙ sym sums) in
    on s.mesh (u ∷ rest) (u ∷ round) (v ∷ others) (freely s.mesh (u ∷ rest) (u ∷ round) moved)
    (taken_along s.mesh u v there others along second)

-- Closed walks of a cut surface are freely homotopic where steps lead from their quad paths to closed lists that are rotations of one
-- another; and on a sphere they always are.
use Rattle.free_loops.proofs.Common.{on, turn, closes, end_is, freely, IsClosedWalk, FreelyHomotopic, OrientedMesh, IsOrientedSurface, quad_path_below, quad_path, IsWay, HasWays, SameLoop, loop_mul, loop_inv, loop_one, loop_of, Loops, spoke, group_of, up, tree_ways, PolygonView, IsCutFrom, polygon_good, loop_of_path, loops_keep, labelling_from, leads-on, IsLoop, rotate, LoopLeads, IsRotation, ◌≡◌, ℕ, ◌+◌, ◌<◌, ◌%◌, List, [], ◌∷◌, length, ap, sym, ◌∙◌, subst, arith, eq-eqb, lt-ltb, Some, Homotopic, SplitView, IsSplit}
use Rattle.polygon_cut.proofs.SphereLemmas.{all_homotopic}
use Rattle.polygon_cut.proofs.WalkLemmas.{walk_way}
use Rattle.polygon_cut.proofs.WayLemmas.{loop_start}
use Rattle.free_loops.proofs.LoopStepLemmas.{steps_free}
use Rattle.free_loops.proofs.ClosedLoopLemmas.{SameFreeLoop, loops_turn, common_ends, even_path, free_loop, free_path}

-- a closed walk is a way from its start to its start
pub closed_way : (s : OrientedMesh) (u : ℕ) (rest : List ℕ) → IsClosedWalk s.mesh (u ∷ rest) → IsWay s.mesh u u rest
closed_way s u rest h =
    subst (λ x. IsWay s.mesh u x rest) (end_is u rest ∙ closes s.mesh u rest h) (walk_way s.mesh u rest h.is_walk)

-- a rotation is a loop step
rotation_leads : (places path other : List ℕ) → IsRotation path other → LoopLeads places path other
rotation_leads places path other r =
    let count : ℕ = r.count in
    let within : count < length path + 1 = omega (arith, r.within) in
    (rotate count ∷ [], rw (eq-eqb (count % 2) 0 r.even, lt-ltb count (length path + 1) within) (ap Some (sym r.is)))

module _ (s : OrientedMesh) (split : SplitView) (o : IsOrientedSurface s) (t : IsSplit s split) where
  -- walks that are freely one loop
  meet : (u v : ℕ) (rest others : List ℕ) (loop : Loops s split t) → IsClosedWalk s.mesh (v ∷ others)
      → FreelyHomotopic s.mesh (u ∷ rest) (t.parents.root ∷ loop.rest) → FreelyHomotopic s.mesh (v ∷ others) (t.parents.root ∷ loop.rest)
      → FreelyHomotopic s.mesh (u ∷ rest) (v ∷ others)
  meet u v rest others loop closed h k =
      on s.mesh (u ∷ rest) (t.parents.root ∷ loop.rest) (v ∷ others) h
      (turn s.mesh (v ∷ others) (t.parents.root ∷ loop.rest) closed k)

  -- on a sphere
  pub sphere_free : split.genus ≡ 0 → (u v : ℕ) (rest others : List ℕ) → IsClosedWalk s.mesh (u ∷ rest) → IsClosedWalk s.mesh (v ∷ others)
      → FreelyHomotopic s.mesh (u ∷ rest) (v ∷ others)
  sphere_free none u v rest others h k =
      let root : ℕ = t.parents.root in
      let ways : HasWays s.mesh root (up s split t) = tree_ways s split o t in
      let first : Loops s split t = loop_of s.mesh root (up s split t) ways u u rest (closed_way s u rest h) in
      let second : Loops s split t = loop_of s.mesh root (up s split t) ways v v others (closed_way s v others k) in
      let same : Homotopic s.mesh (root ∷ first.rest) (root ∷ second.rest) =
      all_homotopic s split (root ∷ first.rest) (root ∷ second.rest) o t none (loop_start s.mesh root first) (loop_start s.mesh root second)
      (common_ends s.mesh root first.rest second.rest first.is_way second.is_way) in
      meet u v rest others second k
      (on s.mesh (u ∷ rest) (root ∷ first.rest) (root ∷ second.rest)
      (free_loop s.mesh root (up s split t) ways u rest (closed_way s u rest h)) (freely s.mesh _ _ same))
      (free_loop s.mesh root (up s split t) ways v others (closed_way s v others k))

  module _ (polygon : PolygonView) (cut : IsCutFrom s split polygon) (some : 0 < polygon.degree) where
    -- a closed walk is freely the loop of each closed list that steps lead to from its quad path
    led_free : (u : ℕ) (rest path : List ℕ) → IsClosedWalk s.mesh (u ∷ rest)
        → LoopLeads polygon.places (quad_path s.mesh (labelling_from s polygon) (u ∷ rest)) path
        → FreelyHomotopic s.mesh (u ∷ rest) (t.parents.root ∷ (loop_of_path s split o t polygon path).rest)
    led_free u rest path h leads =
        let quad : List ℕ = quad_path s.mesh (labelling_from s polygon) (u ∷ rest) in
        let start : Loops s split t = loop_of_path s split o t polygon quad in
        let end : Loops s split t = loop_of_path s split o t polygon path in
        let way : IsWay s.mesh u u rest = closed_way s u rest h in
        let loop : IsLoop polygon.places quad = record {
          below = quad_path_below s.mesh (labelling_from s polygon) (polygon_good s split polygon o t cut some) (u ∷ rest);
          even = even_path s.mesh (labelling_from s polygon) (u ∷ rest);
        } in
        let stepped : SameFreeLoop start end =
        steps_free {X = Loops s split t} SameLoop loop_mul loop_inv (loop_one s.mesh t.parents.root t.parents.root_used)
        (group_of s split t) (spoke s split o t polygon) SameFreeLoop (loops_turn s.mesh t.parents.root) polygon.places
        (loops_keep s split o t polygon cut some) quad path loop leads in
        on s.mesh (u ∷ rest) (t.parents.root ∷ start.rest) (t.parents.root ∷ end.rest)
        (free_path s split o t polygon cut some u rest way) stepped

    -- closed walks whose quad paths lead to rotations of one another
    pub rotations_free : (u v : ℕ) (rest others one other : List ℕ) → IsClosedWalk s.mesh (u ∷ rest) → IsClosedWalk s.mesh (v ∷ others)
        → LoopLeads polygon.places (quad_path s.mesh (labelling_from s polygon) (u ∷ rest)) one
        → LoopLeads polygon.places (quad_path s.mesh (labelling_from s polygon) (v ∷ others)) other
        → IsRotation one other → FreelyHomotopic s.mesh (u ∷ rest) (v ∷ others)
    rotations_free u v rest others one other h k first second r =
        let on_to : LoopLeads polygon.places (quad_path s.mesh (labelling_from s polygon) (u ∷ rest)) other =
        leads-on polygon.places (quad_path s.mesh (labelling_from s polygon) (u ∷ rest)) one other first
        (rotation_leads polygon.places one other r) in
        meet u v rest others (loop_of_path s split o t polygon other) k (led_free u rest other h on_to) (led_free v others other k second)

-- On a sphere nothing is left over: each dart's loop is nothing, so any two walks with common ends are homotopic.
use Rattle.polygon_cut.proofs.Common.{dart_between, names_all, darts_of, edge_of, OrientedMesh, IsOrientedSurface, ◌≡◌, inl, inr, ℕ, zero, suc, ◌+◌, ◌*◌, ◌<◌, Bool, true, List, [], ◌∷◌, refl, ap, sym, ◌∙◌, subst, arith, cases_eq, slice_index, if◌then◌else◌, Homotopic, count_below, IsWalk, HaveCommonEnds, SplitView, IsSplit, is_left}
use Rattle.std.specs.Prelude.{length}
use Rattle.polygon_cut.proofs.GroupLemmas.{quotient}
use Rattle.polygon_cut.proofs.WayLemmas.{IsWay, HasWays, loop_mul, loop_inv, loop_of, start_used}
use Rattle.polygon_cut.proofs.LoopLemmas.{SameLoop, no_dart, first_dart, from_loops, homotopy}
use Rattle.polygon_cut.proofs.TreeWayLemmas.{up, tree_ways}
use Rattle.polygon_cut.proofs.ValueLemmas.{Valued, all_values}
use Rattle.polygon_cut.proofs.DartLoopLemmas.{Loops, value, value_along, value_of_tree, one_of}
use Rattle.polygon_cut.proofs.SpokeLemmas.{value_twin, face_rounds, group_of}
use Rattle.polygon_cut.proofs.WalkLemmas.{walk_way, other_way}

-- where none is counted, none is there
none_counted : (test : ℕ → Bool) (n i : ℕ) → count_below test n ≡ 0 → i < n → test i ≡ true → ⊥
none_counted test zero i none l is = absurd (omega arith)
none_counted test (suc n) i none l is = elim (cases_eq i n) [
  | inl last ↦
      let top : test n ≡ true = ap test (sym last) ∙ is in
      let one : count_below test n + 1 ≡ 0 = subst (λ b. count_below test n + (if b then 1 else 0) ≡ 0) top none in
      absurd (omega arith)
  | inr other ↦ none_counted test n i (omega arith) (omega arith) is
]

-- the values of all darts are nothing: they are those of labels that are all one
no_value : {s : OrientedMesh} {split : SplitView} (o : IsOrientedSurface s) (t : IsSplit s split) → split.genus ≡ 0
    → (d : ℕ) → d < darts_of s → SameLoop (value s split o t d) (one_of s split t)
no_value {s} {split} o t sphere d l =
    let nothing : Loops s split t = one_of s split t in
    let g = group_of s split t in
    let valued : Valued SameLoop loop_mul loop_inv nothing s split (value s split o t) (λ _. nothing) (λ _. 0) (darts_of s) = record {
      twins = value_twin s split o t;
      faces = face_rounds o t;
      of_tree = λ x k is. refl;
      of_cotree = λ x k is. refl;
      tree_one = value_of_tree (homotopy s.mesh) split o t;
      left = λ x k is other. absurd (none_counted (is_left split) (length s.table) (edge_of s x) (t.genus ∙ ap (λ n. 2 * n) sphere)
          ((names_all s o).edge_below x k) is);
      last_in_root = λ x k same. absurd (omega arith);
    } in
    g.on (value s split o t d) (quotient loop_mul loop_inv nothing nothing) nothing (all_values g o t valued
    (names_all s o).edge_below (names_all s o).face_below d l) (g.cancels nothing)

-- so is the loop of each walk
no_loop : {s : OrientedMesh} {split : SplitView} (o : IsOrientedSurface s) (t : IsSplit s split) → split.genus ≡ 0
    → (u v : ℕ) (rest : List ℕ) (way : IsWay s.mesh u v rest)
    → SameLoop (loop_of s.mesh t.parents.root (up s split t) (tree_ways s split o t) u v rest way) (one_of s split t)
no_loop {s} {split} o t sphere u v [] way = no_dart s.mesh t.parents.root (up s split t) (tree_ways s split o t) u v way
no_loop {s} {split} o t sphere u v (w ∷ rest) way =
    let g = group_of s split t in
    let nothing : Loops s split t = one_of s split t in
    let ways : HasWays s.mesh t.parents.root (up s split t) = tree_ways s split o t in
    let found = dart_between s o u w way.0 in
    let d : ℕ = found.0 in
    let l : d < darts_of s = found.1.within in
    let one_way : IsWay s.mesh u w (w ∷ []) = (way.0, (refl, start_used s.mesh w v rest way.1)) in
    let x : Loops s split t = loop_of s.mesh t.parents.root (up s split t) ways u w (w ∷ []) one_way in
    let y : Loops s split t = loop_of s.mesh t.parents.root (up s split t) ways w v rest way.1 in
    let whole : Loops s split t = loop_of s.mesh t.parents.root (up s split t) ways u v (w ∷ rest) way in
    let val : Loops s split t = value s split o t d in
    let dart : SameLoop x nothing =
    g.on x val nothing (g.turn val x (value_along (homotopy s.mesh) split o t u w d found.1 one_way)) (no_value o t sphere d l) in
    g.on whole (loop_mul x y) nothing (first_dart s.mesh t.parents.root (up s split t) ways u w v rest way one_way way.1)
    (g.on (loop_mul x y) (loop_mul nothing nothing) nothing (g.mul_same x nothing y nothing dart (no_loop o t sphere w v rest way.1))
    (g.one_left nothing))

pub all_homotopic : (s : OrientedMesh) (split : SplitView) (first second : List ℕ) → IsOrientedSurface s → IsSplit s split → split.genus ≡ 0
    → IsWalk s.mesh first → IsWalk s.mesh second → HaveCommonEnds first second → Homotopic s.mesh first second
all_homotopic s split [] second o t sphere w z ends = grind arith
all_homotopic s split (u ∷ rest) [] o t sphere w z ends = grind arith
all_homotopic s split (u ∷ rest) (v ∷ others) o t sphere w z ends =
    let g = group_of s split t in
    let nothing : Loops s split t = one_of s split t in
    let ways : HasWays s.mesh t.parents.root (up s split t) = tree_ways s split o t in
    let end : ℕ = slice_index (u ∷ rest) (length rest) in
    let way : IsWay s.mesh u end rest = walk_way s.mesh u rest w in
    let along : IsWay s.mesh u end others = other_way s.mesh u v rest others z ends in
    let x : Loops s split t = loop_of s.mesh t.parents.root (up s split t) ways u end rest way in
    let y : Loops s split t = loop_of s.mesh t.parents.root (up s split t) ways u end others along in
    subst (λ a. Homotopic s.mesh (u ∷ rest) (a ∷ others)) ends.starts
    (from_loops s.mesh t.parents.root (up s split t) ways u end rest others way along
    (g.on x nothing y (no_loop o t sphere u end rest way) (g.turn y nothing (no_loop o t sphere u end others along))))

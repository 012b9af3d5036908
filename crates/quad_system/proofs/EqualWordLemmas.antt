-- Walks with common ends are homotopic exactly where they have one canonical word.
-- From one word to moves: their turn words reach one word, so they read to the same product
-- of spokes, and the walks are these products.
use Rattle.quad_system.proofs.Common.{OrientedMesh, IsOrientedSurface, rotations_of, quad_path_below, hyper_wheel_of_good, one_word_of_homotopic, IsGood, LabellingView, quad_path, IsWay, SameLoop, loop_of, from_loops, Loops, group_of, up, tree_ways, walk_way, other_way, PolygonView, IsCutFrom, across, labelling_from, same_word, ◌≡◌, ◌↔◌, ℕ, ◌<◌, ◌≤◌, List, [], ◌∷◌, length, sym, subst, arith, slice_index, Homotopic, IsWalk, HaveCommonEnds, SplitView, IsSplit}
use Rattle.turn_words.specs.Canonical.{IsCanonicalOf}
use Rattle.turn_words.specs.SpokePaths.{turn_word_of}
use Rattle.turn_words.specs.declared.word.Word.TheVariants.{Turns}
use Rattle.quad_system.proofs.PolygonLabelLemmas.{polygon_good}
use Rattle.quad_system.proofs.PushWorthLemmas.{loop_of_path}
use Rattle.quad_system.proofs.FreePathLemmas.{places_wheel}
use Rattle.quad_system.proofs.SpokeProductLemmas.{loops_keep, spoke_at, walk_product}

-- walks from one vertex whose turn words have one canonical word are homotopic
equal_words : (s : OrientedMesh) (split : SplitView) (polygon : PolygonView) (u v : ℕ) (rest others canonical : List ℕ)
    → IsOrientedSurface s → IsSplit s split → IsCutFrom s split polygon → 5 ≤ polygon.degree
    → IsWay s.mesh u v rest → IsWay s.mesh u v others
    → IsCanonicalOf polygon.degree (turn_word_of polygon.places (quad_path s.mesh (labelling_from s polygon) (u ∷ rest))) canonical
    → IsCanonicalOf polygon.degree (turn_word_of polygon.places (quad_path s.mesh (labelling_from s polygon) (u ∷ others))) canonical
    → Homotopic s.mesh (u ∷ rest) (u ∷ others)
equal_words s split polygon u v rest others canonical o t c five way along f g =
    let some : 0 < polygon.degree = omega arith in
    let number : polygon.degree ≡ length polygon.places = sym (c.places some).each_spoke in
    let labelling : LabellingView = labelling_from s polygon in
    let good : IsGood s.mesh labelling = polygon_good s split polygon o t c some in
    let group = group_of s split t in
    let first : List ℕ = quad_path s.mesh labelling (u ∷ rest) in
    let second : List ℕ = quad_path s.mesh labelling (u ∷ others) in
    let x : Loops s split t = loop_of s.mesh t.parents.root (up s split t) (tree_ways s split o t) u v rest way in
    let y : Loops s split t = loop_of s.mesh t.parents.root (up s split t) (tree_ways s split o t) u v others along in
    let a : Loops s split t = loop_of_path s split o t polygon first in
    let b : Loops s split t = loop_of_path s split o t polygon second in
    let equal : SameLoop a b =
    same_word polygon.places (spoke_at polygon) (across (rotations_of s) polygon) (places_wheel s split polygon o t c some) _
    (loops_keep s split o t polygon c some) (hyper_wheel_of_good s.mesh labelling good five) first second canonical
    (quad_path_below s.mesh labelling good (u ∷ rest)) (quad_path_below s.mesh labelling good (u ∷ others))
    (subst (λ n. IsCanonicalOf n (turn_word_of polygon.places first) canonical) number f).reached
    (subst (λ n. IsCanonicalOf n (turn_word_of polygon.places second) canonical) number g).reached in
    from_loops s.mesh t.parents.root (up s split t) (tree_ways s split o t) u v rest others way along
    (group.on x a y (walk_product s split o t polygon c some u v rest way)
    (group.on a b y equal (group.turn y b (walk_product s split o t polygon c some u v others along))))

-- walks with common ends are homotopic exactly where their canonical words are one
pub one_word : (s : OrientedMesh) (split : SplitView) (polygon : PolygonView) (first second one two : List ℕ)
    → IsOrientedSurface s → IsSplit s split → IsCutFrom s split polygon → 5 ≤ polygon.degree
    → IsWalk s.mesh first → IsWalk s.mesh second → HaveCommonEnds first second
    → IsCanonicalOf polygon.degree (turn_word_of polygon.places (quad_path s.mesh (labelling_from s polygon) first)) one
    → IsCanonicalOf polygon.degree (turn_word_of polygon.places (quad_path s.mesh (labelling_from s polygon) second)) two
    → Homotopic s.mesh first second ↔ (one ≡ two)
one_word s split polygon [] second one two o t c five w z ends f g = grind arith
one_word s split polygon (u ∷ rest) [] one two o t c five w z ends f g = grind arith
one_word s split polygon (u ∷ rest) (v ∷ others) one two o t c five w z ends f g = (
  (λ homotopic.
      let same : Turns one ≡ Turns two =
      one_word_of_homotopic s.mesh (labelling_from s polygon) (u ∷ rest) (v ∷ others) (Turns one) (Turns two) o.faces
      (polygon_good s split polygon o t c (omega arith)) w homotopic (five, f) (five, g) in
      cc),
  (λ same.
      let canonical : (w word : List ℕ) → Type 0 = λ w word.
      IsCanonicalOf polygon.degree (turn_word_of polygon.places (quad_path s.mesh (labelling_from s polygon) w)) word in
      subst (λ x. Homotopic s.mesh (u ∷ rest) (x ∷ others)) ends.starts
      (equal_words s split polygon u (slice_index (u ∷ rest) (length rest)) rest others one o t c five (walk_way s.mesh u rest w)
      (other_way s.mesh u v rest others z ends) f
      (subst (λ x. canonical (x ∷ others) one) (sym ends.starts) (subst (canonical (v ∷ others)) (sym same) g)))),
)

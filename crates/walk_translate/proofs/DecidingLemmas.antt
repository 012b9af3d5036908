-- Equal words mean homotopic walks, on the surface from which the polygon of the labelling was cut.
use Rattle.walk_translate.proofs.Common.{flat_next, Vector, origin, OrientedMesh, IsOrientedSurface, quad_path_leads_to_sum, LabellingView, quad_path, IsWordOf, PolygonView, IsCutFrom, one_sum, labelling_from, ◌≡◌, ℕ, ◌≤◌, List, ap, sym, ◌∙◌, subst, arith, [], ◌↔◌, ℤ, Option, Some, None, MatchOption, Homotopic, IsWalk, HaveCommonEnds, AreWalkPair, SplitView, IsSplit, led, Turns, Flat, DoDecide, LabelledView, IsLabelledSurface, IsWordUnder, HasSphereSplit, IsLabelledByCut}
use Rattle.polygon_cut.proofs.SphereLemmas.{all_homotopic}
use Rattle.quad_system.proofs.EqualWordLemmas.{one_word}
use Rattle.surf_model.specs.declared.decisions.Answer.{Answer}
use Rattle.turn_words.specs.declared.word.Word.{Word}
use Rattle.surf_model.specs.declared.decisions.Answer.TheVariants as answers

abbrev pub vector : ℤ → ℤ → Vector
vector x y = record { x = x; y = y }

same_turns : (a b : List ℕ) → Turns a ≡ Turns b → a ≡ b
same_turns a b e = cc

same_vector : (a b u v : ℤ) → Flat a b ≡ Flat u v → vector a b ≡ vector u v
same_vector a b u v e = cc

from_polygon : (surface : OrientedMesh) (split : SplitView) (polygon : PolygonView) (first second : List ℕ) (one other : Word)
    → IsOrientedSurface surface → IsSplit surface split → IsCutFrom surface split polygon → IsWalk surface.mesh first
    → IsWalk surface.mesh second
    → HaveCommonEnds first second → IsWordOf surface.mesh (labelling_from surface polygon) first one
    → IsWordOf surface.mesh (labelling_from surface polygon) second other → Homotopic surface.mesh first second ↔ (one ≡ other)
from_polygon s split polygon first second (Turns one) (Turns other) o t c w z ends f g =
    let law = one_word s split polygon first second one other o t c f.0 w z ends f.1 g.1 in
    ((λ h. ap Turns (law.0 h)), (λ e. law.1 (same_turns one other e)))
from_polygon s split polygon first second (Turns one) (Flat x y) o t c w z ends f g =
    let five : 5 ≤ polygon.degree = f.0 in
    let four : polygon.degree ≡ 4 = g.0 in
    absurd (omega arith)
from_polygon s split polygon first second (Flat x y) (Turns other) o t c w z ends f g =
    let five : 5 ≤ polygon.degree = g.0 in
    let four : polygon.degree ≡ 4 = f.0 in
    absurd (omega arith)
from_polygon s split polygon first second (Flat x y) (Flat right up) o t c w z ends f g =
    let labelling : LabellingView = labelling_from s polygon in
    let law = one_sum s split polygon first second o t c f.0 w z ends in
    let here : vector x y ≡ led flat_next polygon.places origin (quad_path s.mesh labelling first) =
    f.1 ∙ sym (quad_path_leads_to_sum s.mesh labelling first) in
    let there : vector right up ≡ led flat_next polygon.places origin (quad_path s.mesh labelling second) =
    g.1 ∙ sym (quad_path_leads_to_sum s.mesh labelling second) in (
      (λ h. ap (λ (p : Vector). Flat p.x p.y) (here ∙ law.0 h ∙ sym there)),
      (λ e. law.1 (sym here ∙ same_vector x y right up e ∙ there)),
    )

-- the words decide
pub words_decide : (surface : OrientedMesh) (labelling : LabellingView) (first second : List ℕ) (one other : Word)
    → IsOrientedSurface surface → IsLabelledByCut surface labelling → IsWalk surface.mesh first → IsWalk surface.mesh second
    → HaveCommonEnds first second → IsWordOf surface.mesh labelling first one → IsWordOf surface.mesh labelling second other
    → Homotopic surface.mesh first second ↔ (one ≡ other)
words_decide surface labelling first second one other o h w z ends f g =
    from_polygon surface h.split h.polygon first second one other o h.is_split h.is_cut w z ends
    (subst (λ l. IsWordOf surface.mesh l first one) h.labelling_is f) (subst (λ l. IsWordOf surface.mesh l second other) h.labelling_is g)

-- the words under the labels of a cut decide, also on a sphere, which has none
pub labels_decide : (surface : OrientedMesh) (labels : Option LabellingView) (first second : List ℕ) (one other : Word)
    → IsOrientedSurface surface → MatchOption labels (HasSphereSplit surface) (IsLabelledByCut surface)
    → AreWalkPair surface.mesh first second → MatchOption labels (one ≡ Turns []) (λ labelling. IsWordOf surface.mesh labelling first one)
    → MatchOption labels (other ≡ Turns []) (λ labelling. IsWordOf surface.mesh labelling second other)
    → Homotopic surface.mesh first second ↔ (one ≡ other)
labels_decide surface None first second one other o sphere walks here there = (
  λ _. here ∙ sym there,
  λ _. all_homotopic surface sphere.split first second o sphere.is_split sphere.none walks.first_walk walks.second_walk walks.ends,
)
labels_decide surface (Some labelling) first second one other o cut walks here there =
    words_decide surface labelling first second one other o cut walks.first_walk walks.second_walk walks.ends here there

pub under_decide : (labelled : LabelledView) → IsLabelledSurface labelled → DoDecide labelled.surface.mesh (IsWordUnder labelled)
under_decide labelled h = λ first second one other walks here there.
    labels_decide labelled.surface labelled.labels first second one other h.oriented h.labels walks here there

-- two words that are one, and two that are not
pub equal_decides : {P Q : Type 0} (answer : Answer) → P ↔ Q → Q → answer ≡ answers.Homotopic → (answer ≡ answers.Homotopic) ↔ P
equal_decides answer same q e = ((λ _. same.1 q), (λ _. e))

pub unequal_decides : {P Q : Type 0} (answer : Answer) → P ↔ Q → (Q → ⊥) → answer ≡ answers.Different → (answer ≡ answers.Homotopic) ↔ P
unequal_decides answer same not_q e =
    ((λ homotopic. absurd (let both : answers.Different ≡ answers.Homotopic = sym e ∙ homotopic in cc)), (λ p. absurd (not_q (same.0 p))))

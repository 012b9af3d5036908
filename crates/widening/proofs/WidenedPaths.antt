-- Under a widened labelling the walks of the component have the same spokes, and so the same words.
use Rattle.widening.proofs.Common.{IsGood, LabellingView, signs_of, tail_label, head_label, IsOfComponent, walk_alone, IsRenamed, renamed_side, renamed, start_alike, end_alike, ◌≡◌, ◌↔◌, ◌⊎◌, inl, inr, ℕ, suc, ◌+◌, ◌<◌, ◌≤◌, Bool, true, false, cond, List, [], ◌∷◌, ◌++◌, length, get_or, refl, ap, sym, ◌∙◌, subst, arith, Option, Some, PartsView, component_at, component_mesh, IsSide, tail_of, head_of, FaceList, FaceSide, IsFaceList, is_edge, submesh, is_flipped, start_under, end_under, Side}
use Rattle.connectivity.proofs.EdgeLemmas.{HasSideBetween, side_between}
use Rattle.flat_forms.specs.Pairs.{sum_of_pairs}
use Rattle.labellings.proofs.SideLemmas.{HasPartner, entry_of, partner_of, side_found}
use Rattle.labellings.specs.QuadPaths.{side_from, spokes, spokes_of_sides, spokes_by_labels, quad_path}
use Rattle.labellings.specs.WalkWords.{IsWordOf, in_pairs}
use Rattle.manifold_check.proofs.PieceSides.{valid_alone}
use Rattle.surf_model.specs.Walks.{IsWalk}
use Rattle.turn_words.specs.Canonical.{IsCanonicalOf}
use Rattle.turn_words.specs.SpokePaths.{turn_word_of}
use Rattle.turn_words.specs.declared.word.Word.{Word}
use Rattle.turn_words.specs.declared.word.Word.TheVariants.{Turns, Flat}
use Rattle.widening.proofs.WidenedLemmas.{Widening, HasSameLabels, same_labels, good_widened}

-- where a side of the component starts and ends under the narrow labelling and under the wide one
record HasSameEnds (mesh : FaceList) (names : List ℕ) (narrow wide : LabellingView) (side : Side) : Type 0 where
  starts : start_under (submesh mesh names) (signs_of narrow) side ≡ start_under mesh (signs_of wide) (renamed_side names side)
  ends : end_under (submesh mesh names) (signs_of narrow) side ≡ end_under mesh (signs_of wide) (renamed_side names side)

same_ends : (mesh : FaceList) (parts : PartsView) (part : ℕ) (signs : List Bool) (narrow wide : LabellingView) (side : Side)
    → Widening mesh parts part signs narrow wide → IsSide (component_mesh mesh parts part) side
    → HasSameEnds mesh (component_at parts part) narrow wide side
same_ends mesh parts part signs narrow wide side h is =
    let names : List ℕ = component_at parts part in
    let alone : FaceList = submesh mesh names in
    let Inside : ℕ → Type 0 = IsOfComponent parts.places part in
    record {
      starts = ap (λ ss. start_under alone ss side) h.signs_are ∙ start_alike mesh Inside names signs side h.piece is
          ∙ ap (λ ss. start_under mesh ss (renamed_side names side)) (sym h.widened.all_signs);
      ends = ap (λ ss. end_under alone ss side) h.signs_are ∙ end_alike mesh Inside names signs side h.piece is
          ∙ ap (λ ss. end_under mesh ss (renamed_side names side)) (sym h.widened.all_signs);
    }

-- the side that runs along a dart
along : (mesh : FaceList) (labelling : LabellingView) (side : Side) (u v : ℕ) → IsFaceList mesh → IsGood mesh labelling → IsSide mesh side
    → start_under mesh (signs_of labelling) side ≡ u → end_under mesh (signs_of labelling) side ≡ v
    → side_from mesh labelling u v ≡ Some (entry_of mesh side)
along mesh labelling side u v valid good is starts ends =
    subst (λ x. side_from mesh labelling x v ≡ Some (entry_of mesh side)) starts
    (subst (λ y. side_from mesh labelling (start_under mesh (signs_of labelling) side) y ≡ Some (entry_of mesh side)) ends
    (side_found mesh labelling side valid good is))

spokes_are : (mesh : FaceList) (labelling : LabellingView) (u v : ℕ) (side other : Side)
    → side_from mesh labelling u v ≡ Some (entry_of mesh side) → side_from mesh labelling v u ≡ Some (entry_of mesh other)
    → spokes mesh labelling u v
    ≡ spokes_by_labels (tail_label mesh labelling side) (head_label mesh labelling side) (tail_label mesh labelling other)
    (head_label mesh labelling other)
spokes_are mesh labelling u v side other one two =
    ap (λ (s : Option FaceSide). spokes_of_sides mesh labelling s (side_from mesh labelling v u)) one
    ∙ ap (spokes_of_sides mesh labelling (Some (entry_of mesh side))) two

same_spokes : (a b c d x y z w : ℕ) → a ≡ x → b ≡ y → c ≡ z → d ≡ w → spokes_by_labels a b c d ≡ spokes_by_labels x y z w
same_spokes a b c d x y z w e f g k =
    ap (λ t. spokes_by_labels t b c d) e ∙ ap (λ t. spokes_by_labels x t c d) f ∙ ap (λ t. spokes_by_labels x y t d) g
    ∙ ap (spokes_by_labels x y z) k

-- the dart along a side of the component has the same spokes
spokes_by_side : (mesh : FaceList) (parts : PartsView) (part : ℕ) (signs : List Bool) (narrow wide : LabellingView) (side : Side) (u v : ℕ)
    → Widening mesh parts part signs narrow wide → IsSide (component_mesh mesh parts part) side
    → start_under (component_mesh mesh parts part) (signs_of narrow) side ≡ u
    → end_under (component_mesh mesh parts part) (signs_of narrow) side ≡ v
    → spokes mesh wide u v ≡ spokes (component_mesh mesh parts part) narrow u v
spokes_by_side mesh parts part signs narrow wide side u v h is starts ends =
    let names : List ℕ = component_at parts part in
    let alone : FaceList = submesh mesh names in
    let Inside : ℕ → Type 0 = IsOfComponent parts.places part in
    let valid : IsFaceList alone = valid_alone mesh Inside names h.piece h.valid in
    let good : IsGood mesh wide = good_widened mesh parts part signs narrow wide h in
    let p : HasPartner alone narrow side = partner_of alone narrow side h.good is in
    let other : Side = p.partner in
    let is_other : IsSide alone other = p.partners.second in
    let other_starts : start_under alone (signs_of narrow) other ≡ v = sym p.meets.opposite.ends ∙ ends in
    let other_ends : end_under alone (signs_of narrow) other ≡ u = sym p.meets.opposite.starts ∙ starts in
    let here : HasSameEnds mesh names narrow wide side = same_ends mesh parts part signs narrow wide side h is in
    let there : HasSameEnds mesh names narrow wide other = same_ends mesh parts part signs narrow wide other h is_other in
    let one : HasSameLabels mesh names narrow wide side = same_labels mesh parts part signs narrow wide side h is in
    let two : HasSameLabels mesh names narrow wide other = same_labels mesh parts part signs narrow wide other h is_other in
    let up : Side = renamed_side names side in
    let up_other : Side = renamed_side names other in
    let r : IsRenamed mesh names side = renamed mesh Inside names side h.piece is in
    let s : IsRenamed mesh names other = renamed mesh Inside names other h.piece is_other in
    spokes_are mesh wide u v up up_other
    (along mesh wide up u v h.valid good r.in_mesh (sym here.starts ∙ starts) (sym here.ends ∙ ends))
    (along mesh wide up_other v u h.valid good s.in_mesh (sym there.starts ∙ other_starts) (sym there.ends ∙ other_ends))
    ∙ same_spokes _ _ _ _ _ _ _ _ (sym one.tail) (sym one.head) (sym two.tail) (sym two.head)
    ∙ sym (spokes_are alone narrow u v side other (along alone narrow side u v valid h.good is starts ends)
    (along alone narrow other v u valid h.good is_other other_starts other_ends))

-- a side runs along a dart of its edge, or against it
runs : (mesh : FaceList) (signs : List Bool) (side : Side) (u v : ℕ) (b : Bool) → is_flipped signs side.face.0 ≡ b
    → ((tail_of mesh side ≡ u) × (head_of mesh side ≡ v)) ⊎ ((tail_of mesh side ≡ v) × (head_of mesh side ≡ u))
    → ((start_under mesh signs side ≡ u) × (end_under mesh signs side ≡ v))
    ⊎ ((start_under mesh signs side ≡ v) × (end_under mesh signs side ≡ u))
runs mesh signs side u v true e (inl k) =
    inr (ap (λ x. cond x (head_of mesh side) (tail_of mesh side)) e ∙ k.1, ap (λ x. cond x (tail_of mesh side) (head_of mesh side)) e ∙ k.0)
runs mesh signs side u v true e (inr k) =
    inl (ap (λ x. cond x (head_of mesh side) (tail_of mesh side)) e ∙ k.1, ap (λ x. cond x (tail_of mesh side) (head_of mesh side)) e ∙ k.0)
runs mesh signs side u v false e (inl k) =
    inl (ap (λ x. cond x (head_of mesh side) (tail_of mesh side)) e ∙ k.0, ap (λ x. cond x (tail_of mesh side) (head_of mesh side)) e ∙ k.1)
runs mesh signs side u v false e (inr k) =
    inr (ap (λ x. cond x (head_of mesh side) (tail_of mesh side)) e ∙ k.0, ap (λ x. cond x (tail_of mesh side) (head_of mesh side)) e ∙ k.1)

-- each dart of the component has the same spokes
spokes_alike : (mesh : FaceList) (parts : PartsView) (part : ℕ) (signs : List Bool) (narrow wide : LabellingView) (u v : ℕ)
    → Widening mesh parts part signs narrow wide → is_edge (component_mesh mesh parts part) u v ≡ true
    → spokes mesh wide u v ≡ spokes (component_mesh mesh parts part) narrow u v
spokes_alike mesh parts part signs narrow wide u v h is =
    let alone : FaceList = component_mesh mesh parts part in
    let found : HasSideBetween alone u v = side_between alone u v is in
    elim (runs alone (signs_of narrow) found.side u v (is_flipped (signs_of narrow) found.side.face.0) refl found.ends) [
      | inl k ↦ spokes_by_side mesh parts part signs narrow wide found.side u v h found.in_mesh k.0 k.1
      | inr k ↦
          (let p : HasPartner alone narrow found.side = partner_of alone narrow found.side h.good found.in_mesh in
          spokes_by_side mesh parts part signs narrow wide p.partner u v h p.partners.second (sym p.meets.opposite.ends ∙ k.1)
          (sym p.meets.opposite.starts ∙ k.0))
    ]

path_by_edges : (mesh : FaceList) (parts : PartsView) (part : ℕ) (signs : List Bool) (narrow wide : LabellingView) (walk : List ℕ)
    → Widening mesh parts part signs narrow wide
    → ((k : ℕ) → k + 1 < length walk → is_edge (component_mesh mesh parts part) (get_or walk k 0) (get_or walk (k + 1) 0) ≡ true)
    → quad_path mesh wide walk ≡ quad_path (component_mesh mesh parts part) narrow walk
path_by_edges mesh parts part signs narrow wide [] h edges = refl
path_by_edges mesh parts part signs narrow wide (u ∷ []) h edges = refl
path_by_edges mesh parts part signs narrow wide (u ∷ v ∷ walk) h edges =
    let alone : FaceList = component_mesh mesh parts part in
    let rest : (k : ℕ) → k + 1 < length (v ∷ walk) → is_edge alone (get_or (v ∷ walk) k 0) (get_or (v ∷ walk) (k + 1) 0) ≡ true =
    λ k l.
    let next : suc k + 1 ≡ suc (k + 1) = omega arith in
    subst (λ j. is_edge alone (get_or (v ∷ walk) k 0) (get_or (u ∷ v ∷ walk) j 0) ≡ true) next (edges (suc k) (omega arith)) in
    ap (λ (s : List ℕ). s ++ quad_path mesh wide (v ∷ walk))
    (spokes_alike mesh parts part signs narrow wide u v h (edges 0 (omega arith)))
    ∙ ap (λ (s : List ℕ). spokes alone narrow u v ++ s) (path_by_edges mesh parts part signs narrow wide (v ∷ walk) h rest)

pub path_alike : (mesh : FaceList) (parts : PartsView) (part : ℕ) (signs : List Bool) (narrow wide : LabellingView) (walk : List ℕ)
    → Widening mesh parts part signs narrow wide → IsWalk mesh walk → get_or parts.places (get_or walk 0 0) 0 ≡ part
    → quad_path mesh wide walk ≡ quad_path (component_mesh mesh parts part) narrow walk
path_alike mesh parts part signs narrow wide walk h w start =
    let alone : IsWalk (component_mesh mesh parts part) walk = walk_alone mesh parts part walk h.parts_of h.within w start in
    path_by_edges mesh parts part signs narrow wide walk h (λ k l. alone.edges k (omega arith))

-- what a word says speaks of the degree, the places and the path alone
abbrev WordOfPath : ℕ → List ℕ → List ℕ → Word → Type 0
WordOfPath degree places path (Turns word) = (5 ≤ degree) × IsCanonicalOf degree (turn_word_of places path) word
WordOfPath degree places path (Flat x y) = (degree ≡ 4) × (record { x = x; y = y } ≡ sum_of_pairs (in_pairs path))

from_word : (mesh : FaceList) (labelling : LabellingView) (walk : List ℕ) (word : Word) → IsWordOf mesh labelling walk word
    → WordOfPath labelling.degree labelling.places (quad_path mesh labelling walk) word
from_word mesh labelling walk (Turns word) h = h
from_word mesh labelling walk (Flat x y) h = h

to_word : (mesh : FaceList) (labelling : LabellingView) (walk : List ℕ) (word : Word)
    → WordOfPath labelling.degree labelling.places (quad_path mesh labelling walk) word → IsWordOf mesh labelling walk word
to_word mesh labelling walk (Turns word) h = h
to_word mesh labelling walk (Flat x y) h = h

carried : (d e : ℕ) (ps qs path other : List ℕ) (word : Word) → d ≡ e → ps ≡ qs → path ≡ other → WordOfPath d ps path word
    → WordOfPath e qs other word
carried d e ps qs path other word one two three h =
    subst (λ x. WordOfPath x qs other word) one (subst (λ s. WordOfPath d s other word) two
    (subst (λ s. WordOfPath d ps s word) three h))

pub word_alike : (mesh : FaceList) (parts : PartsView) (part : ℕ) (signs : List Bool) (narrow wide : LabellingView) (walk : List ℕ)
    (word : Word) → Widening mesh parts part signs narrow wide → IsWalk mesh walk → get_or parts.places (get_or walk 0 0) 0 ≡ part
    → IsWordOf mesh wide walk word ↔ IsWordOf (component_mesh mesh parts part) narrow walk word
word_alike mesh parts part signs narrow wide walk word h w start =
    let alone : FaceList = component_mesh mesh parts part in
    let path = path_alike mesh parts part signs narrow wide walk h w start in (
      λ is. to_word alone narrow walk word (carried wide.degree narrow.degree wide.places narrow.places (quad_path mesh wide walk)
          (quad_path alone narrow walk) word h.widened.degree h.widened.places path (from_word mesh wide walk word is)),
      λ is. to_word mesh wide walk word (carried narrow.degree wide.degree narrow.places wide.places (quad_path alone narrow walk)
          (quad_path mesh wide walk) word (sym h.widened.degree) (sym h.widened.places) (sym path) (from_word alone narrow walk word is)),
    )

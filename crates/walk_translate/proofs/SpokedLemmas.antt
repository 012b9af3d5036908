-- Walks whose darts are looked up once: the spokes of their darts, and the states to which they lead.
use Rattle.walk_translate.proofs.Common.{flat_next, origin, OrientedMesh, IsOrientedSurface, quad_path_below, hyper_wheel_of_good, IsGood, LabellingView, spokes, quad_path, spoke_list, IsWordOf, one_sum, ◌≡◌, ◌⊎◌, inl, inr, ℕ, zero, suc, ◌+◌, ◌*◌, ◌<◌, ◌≤◌, true, false, List, [], ◌∷◌, ◌++◌, length, get_or, refl, ap, sym, ◌∙◌, subst, arith, add-one, append-nil, get_or_append_left, get_or_default, length-append, ◌↔◌, All, IsTrue, Option, Some, None, IfSome, edge_swap, head_used, table_pair, Edge, IsTableOf, HasEnds, edge_in, FaceList, is_edge, is_used, Homotopic, darts, IsWalk, AreWalkPair, led, HyperState, IsHyperWheel, BelongsTo, IsEven, empty_state, hyper_next, Turns, AreSpokesBelow, AreSpokesOf, spokes_kept_at, IsLabelledByCut}
use Rattle.labellings.proofs.FoldLemmas.{PutLaws}
use Rattle.labellings.proofs.KeepingLemmas.{moves_keep}
use Rattle.std.proofs.Math.Seq.{get_or-append_seam}
use Rattle.surf_model.specs.declared.names.Spoke.{Spoke}
use Rattle.turn_words.proofs.Led.{led-append}
use Rattle.turn_words.proofs.Spokes.{canonical}
use Rattle.turn_words.specs.Canonical.{IsCanonicalOf}
use Rattle.turn_words.specs.Lemmas.HyperLaws.{hyper_starts, hyper_stays, hyper_there_and_back, hyper_across}
use Rattle.turn_words.specs.SpokePaths.{turn_word_of}
use Rattle.walk_translate.proofs.LabelLemmas.{cut_is_good}
use Rattle.walk_translate.proofs.DecidingLemmas.{words_decide}

-- ---- the spokes of a walk's darts

-- where one dart more leads
pub led_on : {State : Type 0} (next : List ℕ → State → ℕ → State) (places : List ℕ) (s t u : State) (first second : List ℕ)
    → t ≡ led next places s first → u ≡ led next places t second → u ≡ led next places s (first ++ second)
led_on {State} next places s t u first second e f =
    f ∙ ap (λ (v : State). led next places v second) e ∙ sym (led-append next places s first second)

pub before_or_last : (k n : ℕ) → k < n + 1 → (k < n) ⊎ (k ≡ n)
before_or_last k n l = grind arith

-- one edge more
pub spokes_more : (mesh : FaceList) (labelling : LabellingView) (table : List Edge) (n : ℕ) (kept : List (Option (Spoke × Spoke)))
    (there back : Option (Spoke × Spoke)) → AreSpokesBelow mesh labelling table n kept
    → spokes mesh labelling (edge_in table n).low (edge_in table n).high ≡ spoke_list there
    → spokes mesh labelling (edge_in table n).high (edge_in table n).low ≡ spoke_list back
    → AreSpokesBelow mesh labelling table (n + 1) ((kept ++ there ∷ []) ++ back ∷ [])
spokes_more mesh labelling table n kept there back is up down =
    let one : List (Option (Spoke × Spoke)) = kept ++ there ∷ [] in
    let more : length one ≡ length kept + 1 = length-append kept (there ∷ []) in
    let early : (i : ℕ) → i < 2 * n → spokes_kept_at (one ++ back ∷ []) i ≡ spokes_kept_at kept i =
    λ i l.
    get_or_append_left one (back ∷ []) None i (omega (arith, more, is.two_each))
    ∙ get_or_append_left kept (there ∷ []) None i (omega (arith, is.two_each)) in
    let first : spokes_kept_at (one ++ back ∷ []) (2 * n) ≡ there =
    get_or_append_left one (back ∷ []) None (2 * n) (omega (arith, more, is.two_each))
    ∙ ap (λ i. get_or one i None) (sym is.two_each) ∙ get_or-append_seam kept there [] None in
    let second : spokes_kept_at (one ++ back ∷ []) (2 * n + 1) ≡ back =
    ap (λ i. get_or (one ++ back ∷ []) i None) (omega (arith, more, is.two_each)) ∙ get_or-append_seam one back [] None in
    record {
      two_each = omega (arith, length-append one (back ∷ []), more, is.two_each);
      there = λ k l. elim (before_or_last k n l) [
        | inl before ↦ is.there k before ∙ ap spoke_list (sym (early (2 * k) (omega (arith, before))))
        | inr last ↦
            subst (λ i.
            spokes mesh labelling (edge_in table i).low (edge_in table i).high ≡ spoke_list (spokes_kept_at (one ++ back ∷ []) (2 * i)))
            (sym last) (up ∙ ap spoke_list (sym first))
      ];
      back = λ k l. elim (before_or_last k n l) [
        | inl before ↦ is.back k before ∙ ap spoke_list (sym (early (2 * k + 1) (omega (arith, before))))
        | inr last ↦
            subst (λ i. spokes mesh labelling (edge_in table i).high (edge_in table i).low
            ≡ spoke_list (spokes_kept_at (one ++ back ∷ []) (2 * i + 1))) (sym last) (down ∙ ap spoke_list (sym second))
      ];
    }

-- the spokes that are kept of a dart
pub kept_spokes : (mesh : FaceList) (labelling : LabellingView) (table : List Edge) (kept : List (Option (Spoke × Spoke))) (edge u v : ℕ)
    (found : Option (Spoke × Spoke)) → IsTableOf mesh table → AreSpokesOf mesh labelling table kept → edge < length table
    → HasEnds u v (edge_in table edge) → (u < v → found ≡ spokes_kept_at kept (2 * edge))
    → (v ≤ u → found ≡ spokes_kept_at kept (2 * edge + 1))
    → spokes mesh labelling u v ≡ spoke_list found
kept_spokes mesh labelling table kept edge u v found h is l (inl ends) up down =
    let rises : (edge_in table edge).low < (edge_in table edge).high =
    (h.edges edge (record { low = 0; high = 0; sides = [] }) l).ordered in
    ap (λ x. spokes mesh labelling x v) (sym ends.0) ∙ ap (spokes mesh labelling (edge_in table edge).low) (sym ends.1)
    ∙ is.there edge l ∙ ap spoke_list (sym (up (omega (arith, rises, ends.0, ends.1))))
kept_spokes mesh labelling table kept edge u v found h is l (inr ends) up down =
    let rises : (edge_in table edge).low < (edge_in table edge).high =
    (h.edges edge (record { low = 0; high = 0; sides = [] }) l).ordered in
    ap (λ x. spokes mesh labelling x v) (sym ends.1) ∙ ap (spokes mesh labelling (edge_in table edge).high) (sym ends.0)
    ∙ is.back edge l ∙ ap spoke_list (sym (down (omega (arith, rises, ends.0, ends.1))))

-- the spokes of a dart are spokes of the wheel
pub spokes_below : (mesh : FaceList) (labelling : LabellingView) (u v : ℕ) (found : Option (Spoke × Spoke)) → IsGood mesh labelling
    → spokes mesh labelling u v ≡ spoke_list found
    → IfSome found (λ pair. (pair.0.0 < length labelling.places) × (pair.1.0 < length labelling.places))
spokes_below mesh labelling u v None good e = tt
spokes_below mesh labelling u v (Some pair) good e =
    let below : All (λ i. i < length labelling.places) (pair.0.0 ∷ pair.1.0 ∷ []) =
    subst (All (λ i. i < length labelling.places)) (append-nil (spokes mesh labelling u v) ∙ e)
    (quad_path_below mesh labelling good (u ∷ v ∷ [])) in
    (below 0 0 (omega arith), below 1 0 (omega arith))

-- an edge of the table joins its ends
pub joined : (mesh : FaceList) (table : List Edge) (k u v : ℕ) → IsTableOf mesh table → k < length table → HasEnds u v (edge_in table k)
    → is_edge mesh u v ≡ true
joined mesh table k u v h l (inl ends) =
    ap (λ x. is_edge mesh x v) (sym ends.0) ∙ ap (is_edge mesh (edge_in table k).low) (sym ends.1) ∙ table_pair mesh table k h l
joined mesh table k u v h l (inr ends) =
    ap (λ x. is_edge mesh x v) (sym ends.1) ∙ ap (is_edge mesh (edge_in table k).high) (sym ends.0)
    ∙ edge_swap mesh (edge_in table k).high (edge_in table k).low ∙ table_pair mesh table k h l

-- the vertices are a walk where the first is used and neighbours are edges
pub walk_of_edges : (mesh : FaceList) (walk : List ℕ) → 0 < length walk → is_used mesh (get_or walk 0 0) ≡ true
    → ((k : ℕ) → k < darts walk → is_edge mesh (get_or walk k 0) (get_or walk (k + 1) 0) ≡ true) → IsWalk mesh walk
walk_of_edges mesh walk some first edges = record { starts = some; used = λ k d l. used k d l; edges = edges }
  where
    used : (k d : ℕ) → k < length walk → is_used mesh (get_or walk k d) ≡ true
    used zero d l = subst (λ v. is_used mesh v ≡ true) (get_or_default walk 0 0 d l) first
    used (suc k) d l =
        subst (λ v. is_used mesh v ≡ true) (ap (λ n. get_or walk n 0) (add-one k) ∙ get_or_default walk (suc k) 0 d l)
        (head_used mesh (get_or walk k 0) (get_or walk (k + 1) 0) (edges k (omega arith)))

-- and none where two neighbours are no edge
pub no_walk : (mesh : FaceList) (walk : List ℕ) (k u v : ℕ) → k < darts walk → false ≡ is_edge mesh u v → u ≡ get_or walk k 0
    → v ≡ get_or walk (k + 1) 0 → IsWalk mesh walk → ⊥
no_walk mesh walk k u v l none e f w =
    let wrong : false ≡ true = none ∙ ap (λ x. is_edge mesh x v) e ∙ ap (is_edge mesh (get_or walk k 0)) f ∙ w.edges k l in cc

-- what is told of what holds, and of what does not
pub told_yes : {P : Type 0} → P → IsTrue true ↔ P
told_yes p = ((λ _. p), (λ _. refl))

pub told_no : {P : Type 0} → (P → ⊥) → IsTrue false ↔ P
told_no none = ((λ e. absurd (let wrong : false ≡ true = e in cc)), (λ p. absurd (none p)))

-- ---- what decides

-- over four spokes the points to which the spokes lead
pub points_decide : (surface : OrientedMesh) (labelling : LabellingView) → IsOrientedSurface surface
    → IsLabelledByCut surface labelling → labelling.degree ≡ 4 → (first second : List ℕ) → AreWalkPair surface.mesh first second
    → Homotopic surface.mesh first second
    ↔ (led flat_next labelling.places origin (quad_path surface.mesh labelling first)
    ≡ led flat_next labelling.places origin (quad_path surface.mesh labelling second))
points_decide surface labelling o h four first second pair =
    subst (λ (l : LabellingView). Homotopic surface.mesh first second
    ↔ (led flat_next l.places origin (quad_path surface.mesh l first) ≡ led flat_next l.places origin (quad_path surface.mesh l second)))
    (sym h.labelling_is)
    (one_sum surface h.split h.polygon first second o h.is_split h.is_cut
    (sym (ap (λ (l : LabellingView). l.degree) h.labelling_is) ∙ four) pair.first_walk pair.second_walk pair.ends)

-- the word of the state to which the spokes lead
pub word_of_state : (mesh : FaceList) (labelling : LabellingView) (walk : List ℕ) → IsGood mesh labelling → 5 ≤ labelling.degree
    → IsWordOf mesh labelling walk (Turns (led hyper_next labelling.places empty_state (quad_path mesh labelling walk)).word)
word_of_state mesh labelling walk good five =
    let path : List ℕ = quad_path mesh labelling walk in (
      five,
      subst (λ n. IsCanonicalOf n (turn_word_of labelling.places path) (led hyper_next labelling.places empty_state path).word)
          good.shape.each_spoke
          (canonical labelling.places path (hyper_wheel_of_good mesh labelling good five) (quad_path_below mesh labelling good walk)),
    )

-- over more the states
pub states_decide : (surface : OrientedMesh) (labelling : LabellingView) → IsOrientedSurface surface
    → IsLabelledByCut surface labelling → 5 ≤ labelling.degree → (first second : List ℕ) → AreWalkPair surface.mesh first second
    → Homotopic surface.mesh first second
    ↔ (led hyper_next labelling.places empty_state (quad_path surface.mesh labelling first)
    ≡ led hyper_next labelling.places empty_state (quad_path surface.mesh labelling second))
states_decide surface labelling o h five first second pair =
    let mesh : FaceList = surface.mesh in
    let places : List ℕ = labelling.places in
    let good : IsGood mesh labelling = cut_is_good surface labelling o h in
    let own : IsHyperWheel places = hyper_wheel_of_good mesh labelling good five in
    let laws : PutLaws places hyper_next (BelongsTo places) IsEven = record {
      stays = λ x i b l. hyper_stays.belongs places x i b l;
      vertex = λ x i j b e l m. hyper_stays.at_vertex places x i j b e l m;
      back = λ x i b l. hyper_there_and_back places x i b l;
      quad = λ x a d b e q. hyper_across places x a d b e q;
    } in
    let words = words_decide surface labelling first second _ _ o h pair.first_walk pair.second_walk pair.ends
    (word_of_state mesh labelling first good five) (word_of_state mesh labelling second good five) in (
      λ homotopic.
          moves_keep mesh labelling hyper_next (BelongsTo places) IsEven laws o.faces good homotopic.0 first second pair.first_walk
          homotopic.1 empty_state (hyper_starts.belongs places own, hyper_starts.at_vertex),
      λ e. words.1 (ap (λ (s : HyperState). Turns s.word) e),
    )

-- a degree that is not four is larger
pub five_then : (mesh : FaceList) (labelling : LabellingView) → IsGood mesh labelling → (labelling.degree ≡ 4 → ⊥) → 5 ≤ labelling.degree
five_then mesh labelling good other = elim good.degree [ inl five ↦ five | inr flat ↦ absurd (other flat.0) ]

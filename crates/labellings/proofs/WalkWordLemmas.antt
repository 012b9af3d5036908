-- Under a good labelling, homotopic walks have one word: moves keep the state to which the spokes lead, and the word is that of the state.
use Rattle.labellings.proofs.Common.{IsFlatWheel, flat_next, origin, IsGood, LabellingView, side_from, spokes, spokes_of_sides, spokes_by_labels, quad_path, in_pairs, IsWordOf, Denial, ◌≡◌, ℕ, ◌<◌, ◌≤◌, List, [], ◌∷◌, ◌++◌, length, refl, ap, sym, ◌∙◌, subst, arith, Option, Some, None, FaceList, FaceSide, IsFaceList, Homotopic, IsWalk, turns, canonical, IsCanonicalOf, led, HyperState, IsHyperWheel, BelongsTo, IsEven, empty_state, hyper_next, turn_word_of, IsWheel, Word, Turns, Flat}
use Rattle.flat_forms.proofs.SumsOfPairs.{leads-to-sum}
use Rattle.flat_forms.specs.Lemmas.FlatLaws.{flat_starts, flat_stays, flat_there_and_back, flat_across}
use Rattle.flat_forms.specs.Pairs.{spokes_of, sum_of_pairs}
use Rattle.labellings.specs.Denials.{DenialHolds}
use Rattle.std.proofs.lemmas.List.Elements.{All-append, All-nil}
use Rattle.std.specs.Prelude.{All}
use Rattle.turn_words.proofs.Unique.{unique}
use Rattle.turn_words.specs.Lemmas.HyperLaws.{hyper_starts, hyper_stays, hyper_there_and_back, hyper_across}
use Rattle.flat_forms.specs.FlatStates as flat
use Rattle.labellings.proofs.FoldLemmas.{PutLaws, head_within}
use Rattle.labellings.proofs.KeepingLemmas.{found_side, moves_keep}

-- ---- the spokes of a walk are spokes of the wheel

pub both_below : (n a b c d : ℕ) → a < n → b < n → All (λ i. i < n) (spokes_by_labels a b c d)
both_below n a b c d l k = grind arith

spokes_below : (mesh : FaceList) (labelling : LabellingView) → IsGood mesh labelling → (u v : ℕ) (side other : Option FaceSide)
    → side_from mesh labelling u v ≡ side
    → All (λ i. i < length labelling.places) (spokes_of_sides mesh labelling side other)
spokes_below mesh labelling good u v None other e = All-nil (λ i. i < length labelling.places)
spokes_below mesh labelling good u v (Some x) None e = All-nil (λ i. i < length labelling.places)
spokes_below mesh labelling good u v (Some x) (Some y) e = grind (arith, found_side, both_below, head_within)

pub quad_path_below : (mesh : FaceList) (labelling : LabellingView) → IsGood mesh labelling → (walk : List ℕ)
    → All (λ i. i < length labelling.places) (quad_path mesh labelling walk)
quad_path_below mesh labelling good [] = All-nil (λ i. i < length labelling.places)
quad_path_below mesh labelling good (u ∷ []) = All-nil (λ i. i < length labelling.places)
quad_path_below mesh labelling good (u ∷ v ∷ walk) =
    All-append (λ i. i < length labelling.places) (spokes mesh labelling u v) (quad_path mesh labelling (v ∷ walk))
    (spokes_below mesh labelling good u v (side_from mesh labelling u v) (side_from mesh labelling v u) refl)
    (quad_path_below mesh labelling good (v ∷ walk))

-- ---- the spokes of a walk come in pairs

labels_in_pairs : (a b c d : ℕ) (rest : List ℕ) → spokes_of (in_pairs rest) ≡ rest
    → spokes_of (in_pairs (spokes_by_labels a b c d ++ rest)) ≡ spokes_by_labels a b c d ++ rest
labels_in_pairs a b c d rest e = grind arith

sides_in_pairs : (mesh : FaceList) (labelling : LabellingView) (side other : Option FaceSide) (rest : List ℕ)
    → spokes_of (in_pairs rest) ≡ rest
    → spokes_of (in_pairs (spokes_of_sides mesh labelling side other ++ rest)) ≡ spokes_of_sides mesh labelling side other ++ rest
sides_in_pairs mesh labelling None other rest e = e
sides_in_pairs mesh labelling (Some x) None rest e = e
sides_in_pairs mesh labelling (Some x) (Some y) rest e = grind (arith, labels_in_pairs)

pub quad_path_in_pairs : (mesh : FaceList) (labelling : LabellingView) (walk : List ℕ)
    → spokes_of (in_pairs (quad_path mesh labelling walk)) ≡ quad_path mesh labelling walk
quad_path_in_pairs mesh labelling [] = refl
quad_path_in_pairs mesh labelling (u ∷ []) = refl
quad_path_in_pairs mesh labelling (u ∷ v ∷ walk) =
    sides_in_pairs mesh labelling (side_from mesh labelling u v) (side_from mesh labelling v u) (quad_path mesh labelling (v ∷ walk))
    (quad_path_in_pairs mesh labelling (v ∷ walk))

-- so they lead from the start of the plane to the sum over the pairs
pub quad_path_leads_to_sum : (mesh : FaceList) (labelling : LabellingView) (walk : List ℕ)
    → led flat_next labelling.places origin (quad_path mesh labelling walk) ≡ sum_of_pairs (in_pairs (quad_path mesh labelling walk))
quad_path_leads_to_sum mesh labelling walk =
    ap (led flat_next labelling.places origin) (sym (quad_path_in_pairs mesh labelling walk))
    ∙ leads-to-sum labelling.places (in_pairs (quad_path mesh labelling walk))

-- ---- the wheel of a good labelling

wheel_of_good : (mesh : FaceList) (labelling : LabellingView) → IsGood mesh labelling → IsWheel labelling.places
wheel_of_good mesh labelling good = grind arith

pub hyper_wheel_of_good : (mesh : FaceList) (labelling : LabellingView) → IsGood mesh labelling → 5 ≤ labelling.degree
    → IsHyperWheel labelling.places
hyper_wheel_of_good mesh labelling good five = grind (arith, wheel_of_good)

pub flat_wheel_of_good : (mesh : FaceList) (labelling : LabellingView) → IsGood mesh labelling → labelling.degree ≡ 4
    → IsFlatWheel labelling.places
flat_wheel_of_good mesh labelling good four = grind (arith, wheel_of_good)

-- ---- homotopic walks have one word

-- the canonical word of a list of spokes is that of the state to which they lead
word_of_state : (places spokes word : List ℕ) → IsHyperWheel places → All (λ i. i < length places) spokes
    → IsCanonicalOf (length places) (turn_word_of places spokes) word
    → word ≡ (led hyper_next places empty_state spokes).word
word_of_state places spokes word own below is =
    unique (length places) (turn_word_of places spokes) word (led hyper_next places empty_state spokes).word
    (turns places spokes own below) is (canonical places spokes own below)

one_turn_word : (mesh : FaceList) (labelling : LabellingView) (first second one other : List ℕ) → IsFaceList mesh
    → IsGood mesh labelling → IsWalk mesh first
    → Homotopic mesh first second → 5 ≤ labelling.degree
    → IsCanonicalOf labelling.degree (turn_word_of labelling.places (quad_path mesh labelling first)) one
    → IsCanonicalOf labelling.degree (turn_word_of labelling.places (quad_path mesh labelling second)) other
    → one ≡ other
one_turn_word mesh labelling first second one other valid good walk homotopic five f g =
    let places : List ℕ = labelling.places in
    let own : IsHyperWheel places = hyper_wheel_of_good mesh labelling good five in
    let laws : PutLaws places hyper_next (BelongsTo places) IsEven = record {
      stays = λ x i b l. hyper_stays.belongs places x i b l;
      vertex = λ x i j b e l m. hyper_stays.at_vertex places x i j b e l m;
      back = λ x i b l. hyper_there_and_back places x i b l;
      quad = λ x a d b e q. hyper_across places x a d b e q;
    } in
    let state : led hyper_next places empty_state (quad_path mesh labelling first) ≡ led hyper_next places empty_state
    (quad_path mesh labelling second) =
    moves_keep mesh labelling hyper_next (BelongsTo places) IsEven laws valid good homotopic.0 first second walk homotopic.1 empty_state
    (hyper_starts.belongs places own, hyper_starts.at_vertex) in
    let word : (w canonical : List ℕ) → IsCanonicalOf labelling.degree (turn_word_of places (quad_path mesh labelling w)) canonical
    → canonical ≡ (led hyper_next places empty_state (quad_path mesh labelling w)).word =
    λ w canonical is.
    word_of_state places (quad_path mesh labelling w) canonical own (quad_path_below mesh labelling good w)
    (subst (λ n. IsCanonicalOf n (turn_word_of places (quad_path mesh labelling w)) canonical) (sym good.shape.each_spoke) is) in
    word first one f ∙ ap (λ (x : HyperState). x.word) state ∙ sym (word second other g)

one_point : (mesh : FaceList) (labelling : LabellingView) (first second : List ℕ) → IsFaceList mesh → IsGood mesh labelling
    → IsWalk mesh first
    → Homotopic mesh first second → labelling.degree ≡ 4
    → sum_of_pairs (in_pairs (quad_path mesh labelling first)) ≡ sum_of_pairs (in_pairs (quad_path mesh labelling second))
one_point mesh labelling first second valid good walk homotopic four =
    let places : List ℕ = labelling.places in
    let laws : PutLaws places flat_next (λ _. IsFlatWheel places) flat.IsEvenPoint = record {
      stays = λ x i b l. flat_stays.belongs places x i b l;
      vertex = λ x i j b e l m. flat_stays.at_vertex places x i j b e l m;
      back = λ x i b l. flat_there_and_back places x i b l;
      quad = λ x a d b e q. flat_across places x a d b e q;
    } in
    sym (quad_path_leads_to_sum mesh labelling first)
    ∙ moves_keep mesh labelling flat_next (λ _. IsFlatWheel places) flat.IsEvenPoint laws valid good homotopic.0 first second walk
    homotopic.1 origin
    (flat_wheel_of_good mesh labelling good four, flat_starts.at_vertex)
    ∙ quad_path_leads_to_sum mesh labelling second

pub one_word_of_homotopic : (mesh : FaceList) (labelling : LabellingView) (first second : List ℕ) (one other : Word) → IsFaceList mesh
    → IsGood mesh labelling
    → IsWalk mesh first
    → Homotopic mesh first second → IsWordOf mesh labelling first one → IsWordOf mesh labelling second other → one ≡ other
one_word_of_homotopic mesh labelling first second (Turns one) (Turns other) valid good walk homotopic f g =
    ap Turns (one_turn_word mesh labelling first second one other valid good walk homotopic f.0 f.1 g.1)
one_word_of_homotopic mesh labelling first second (Turns one) (Flat x y) valid good walk homotopic f g = absurd (omega (arith, f.0, g.0))
one_word_of_homotopic mesh labelling first second (Flat x y) (Turns other) valid good walk homotopic f g = absurd (omega (arith, f.0, g.0))
one_word_of_homotopic mesh labelling first second (Flat x y) (Flat v w) valid good walk homotopic f g = grind (arith, one_point)

pub denial_excludes : (mesh : FaceList) (first second : List ℕ) (denial : Denial) → IsFaceList mesh → IsWalk mesh first
    → DenialHolds mesh first second denial
    → Homotopic mesh first second → ⊥
denial_excludes mesh first second denial valid walk holds homotopic = grind (arith, one_word_of_homotopic)

-- What free words decide among several components.
use Rattle.component_deciding.proofs.Common.{FreelyHomotopic, IsClosedWalk, AreLabelledApart, IsFreeAmong, IsFreeUnder, IsOwnLabelled, IsOwnWalk, IsToldAt, SeveralView, labelled_at, IsApart, Apart, own_mesh, own_walk, ◌≡◌, ◌↔◌, ℕ, ◌<◌, List, [], length, sym, ap, ap₂, ◌∙◌, subst, IfOk, IfSome, MatchOption, None, Ok, Err, Option, Result, Some, component_mesh, FaceList, HasGenus, IsLabelledSurface, LabelledView}
use Rattle.component_deciding.specs.declared.free.PlacedWord.{PlacedWord}
use Rattle.std.specs.declared.alloc.AllocError.{AllocError}
use Rattle.free_loops.proofs.DecidingLemmas.{free_words_decide}
use Rattle.free_loops.specs.FreeWords.{DoDecideFree}
use Rattle.free_loops.specs.declared.word.FreeWord.{FreeWord}
use Rattle.free_loops.specs.declared.word.FreeWord.TheVariants.{Ring}
use Rattle.component_deciding.proofs.FreeComponents.{StartsIn, one_place, own_closed_walk, own_free, place_within, sphere_free}
use Rattle.component_deciding.proofs.WordLemmas.{Tells}

at_free : (apart : Apart) (k : ℕ) (found : Option LabelledView) (first second : List ℕ) (one other : FreeWord) → IsApart apart
    → k < length apart.parts.components → IfSome found (IsOwnLabelled apart k) → StartsIn apart k first → StartsIn apart k second
    → Tells apart found k first (one ≡ Ring []) (λ labelled own. IsFreeUnder labelled own one)
    → Tells apart found k second (other ≡ Ring []) (λ labelled own. IsFreeUnder labelled own other)
    → FreelyHomotopic apart.mesh.faces first second ↔ (one ≡ other)
at_free apart k None first second one other is l none a b here there =
    ((λ _. here.1 ∙ sym there.1), (λ _. sphere_free apart k is l here.0 first second a b))
at_free apart k (Some labelled) first second one other is l h a b here there =
    let alone : FaceList = component_mesh apart.mesh.faces apart.parts k in
    let one_closed : IsClosedWalk labelled.surface.mesh (own_walk alone first) =
    subst (λ (m : FaceList). IsClosedWalk m (own_walk alone first)) (sym h.mesh) (own_closed_walk apart k is l first a) in
    let other_closed : IsClosedWalk labelled.surface.mesh (own_walk alone second) =
    subst (λ (m : FaceList). IsClosedWalk m (own_walk alone second)) (sym h.mesh) (own_closed_walk apart k is l second b) in
    let told : FreelyHomotopic (own_mesh alone) (own_walk alone first) (own_walk alone second) ↔ (one ≡ other) =
    subst (λ (m : FaceList). FreelyHomotopic m (own_walk alone first) (own_walk alone second) ↔ (one ≡ other)) h.mesh
    (free_words_decide labelled.surface labelled.labels h.labels.oriented h.labels.labels (own_walk alone first) (own_walk alone second)
    one other one_closed other_closed here there) in
    let free = own_free apart k is l first second a b in
    ((λ leads. told.0 (free.0 leads)), (λ e. free.1 (told.1 e)))

abbrev placed : ℕ → FreeWord → PlacedWord
placed place word = record { place = place; word = word }

same_placed : (one other : PlacedWord) → one.place ≡ other.place → one.word ≡ other.word → one ≡ other
same_placed one other e f = ap₂ placed e f

pub among_decide_free : (several : SeveralView) → AreLabelledApart several
    → DoDecideFree several.apart.mesh.faces (IsFreeAmong several)
among_decide_free several h = λ first second one other first_closed second_closed here there.
    let apart : Apart = several.apart in
    let k : ℕ = one.place in
    let a : StartsIn apart k first = record { closed = first_closed; place = sym here.place } in
    let within : k < length apart.parts.components = place_within apart k first h.apart a in
    let told = λ (places : one.place ≡ other.place).
    at_free apart k (labelled_at several k) first second one.word other.word h.apart within (h.labelled k within) a
    (record { closed = second_closed; place = sym there.place ∙ sym places }) here.word
    (subst (λ (p : ℕ). IsToldAt several p second (other.word ≡ Ring []) (λ labelled own. IsFreeUnder labelled own other.word)) (sym places)
    there.word) in (
      (λ free.
          let places : one.place ≡ other.place = sym (one_place apart k h.apart within first second a free) ∙ sym there.place in
          same_placed one other places ((told places).0 free)),
      (λ same. (told (ap (λ (p : PlacedWord). p.place) same)).1 (ap (λ (p : PlacedWord). p.word) same)),
    )

-- on a connected surface, where each place is 0
pub whole_decide_free : (labelled : LabelledView) → IsLabelledSurface labelled
    → DoDecideFree labelled.surface.mesh
    (λ (walk : List ℕ) (placed : PlacedWord). (placed.place ≡ 0) × IsFreeUnder labelled walk placed.word)
whole_decide_free labelled h = λ first second one other first_closed second_closed here there.
    let told = free_words_decide labelled.surface labelled.labels h.oriented h.labels first second one.word other.word first_closed
    second_closed here.1 there.1 in (
      (λ free. same_placed one other (here.0 ∙ sym there.0) (told.0 free)),
      (λ same. told.1 (ap (λ (p : PlacedWord). p.word) same)),
    )

-- what is found of a walk over its own vertices is found of it
pub free_found : (several : SeveralView) (k : ℕ) (labelled : LabelledView) (walk own : List ℕ) (found : Result PlacedWord AllocError)
    → StartsIn several.apart k walk → IsOwnWalk several.apart k walk own → labelled_at several k ≡ Some labelled
    → IfOk found (λ placed. placed.place ≡ k) → IfOk found (λ placed. IsFreeUnder labelled own placed.word)
    → IfOk found (IsFreeAmong several walk)
free_found several k labelled walk own (Err fault) start here there at told = told
free_found several k labelled walk own (Ok placed) start here there at told =
    let alone : FaceList = component_mesh several.apart.mesh.faces several.apart.parts k in
    let under : IsFreeUnder labelled (own_walk alone walk) placed.word =
    subst (λ (w : List ℕ). IsFreeUnder labelled w placed.word) here.by_number told in
    record {
      place = at ∙ sym start.place;
      word = subst (λ (p : ℕ). IsToldAt several p walk (placed.word ≡ Ring []) (λ labels own. IsFreeUnder labels own placed.word)) (sym at)
          (subst (λ (o : Option LabelledView). MatchOption o (HasGenus alone 0 × (placed.word ≡ Ring []))
          (λ labels. IsFreeUnder labels (own_walk alone walk) placed.word)) (sym there) under);
    }

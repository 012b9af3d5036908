-- What words of walks decide, on a connected surface and among several components.
use Rattle.component_deciding.proofs.Common.{AreLabelledApart, IsOwnLabelled, IsFreeAmong, IsFreeUnder, IsToldAt, IsWordAmong, SeveralView, place_of_walk, labelled_at, unboxed, IsApart, IsOwnWalk, own_mesh, own_walk, Apart, ◌≡◌, ◌≢◌, ◌↔◌, inl, inr, ℕ, zero, suc, ◌<◌, eqb, List, [], ◌∷◌, ◌++◌, length, get_or, set, get_or-set_same, get_or-set_other, sym, ap, ◌∙◌, refl, subst, length-set, both_ways, cases_Bool, eq-eqb, eqb-true, Box, IfSome, MatchOption, None, Option, Some, component_mesh, FaceList, HasGenus, Homotopic, IsWalk, AreWalkPair, DoDecide, IsWordFound, IsWordUnder, LabelledView}
use Rattle.turn_words.specs.declared.word.Word.{Word}
use Rattle.turn_words.specs.declared.word.Word.TheVariants.{Turns}
use Rattle.walk_translate.proofs.DecidingLemmas.{under_decide}
use Rattle.component_deciding.specs.declared.free.PlacedWord.{PlacedWord}
use Rattle.free_loops.specs.declared.word.FreeWord.TheVariants.{Ring}
use Rattle.component_deciding.proofs.ComponentLemmas.{IsNumbered}
use Rattle.component_deciding.proofs.OwnSurfaces.{own_homotopic, own_walks, walk_back}
use Rattle.component_deciding.proofs.SphereLemmas.{homotopic_on_sphere}

-- ---- several components

numbered : (apart : Apart) (k : ℕ) → IsApart apart → k < length apart.parts.components
    → IsNumbered apart.mesh.faces apart.parts apart.own k
numbered apart k is l = record { parts_are = is.parts; numbers_are = is.own; within = l }

at_decide : (apart : Apart) (k : ℕ) (found : Option LabelledView) (first second : List ℕ) (one other : Word) → IsApart apart
    → k < length apart.parts.components
    → IfSome found (IsOwnLabelled apart k) → AreWalkPair apart.mesh.faces first second → get_or apart.parts.places (get_or first 0 0) 0 ≡ k
    → MatchOption found (HasGenus (component_mesh apart.mesh.faces apart.parts k) 0 × (one ≡ Turns []))
    (λ labelled. IsWordUnder labelled (own_walk (component_mesh apart.mesh.faces apart.parts k) first) one)
    → MatchOption found (HasGenus (component_mesh apart.mesh.faces apart.parts k) 0 × (other ≡ Turns []))
    (λ labelled. IsWordUnder labelled (own_walk (component_mesh apart.mesh.faces apart.parts k) second) other)
    → Homotopic apart.mesh.faces first second ↔ (one ≡ other)
at_decide apart k None first second one other is l none walks at here there =
    ((λ _. here.1 ∙ sym there.1), (λ _. homotopic_on_sphere apart k first second is l here.0 at walks))
at_decide apart k (Some labelled) first second one other is l h walks at here there =
    let mesh : FaceList = apart.mesh.faces in
    let alone : FaceList = component_mesh mesh apart.parts k in
    let own : IsNumbered mesh apart.parts apart.own k = numbered apart k is l in
    let alike = own_homotopic mesh apart.parts apart.own k first second own walks at in
    let pair : AreWalkPair labelled.surface.mesh (own_walk alone first) (own_walk alone second) =
    subst (λ (m : FaceList). AreWalkPair m (own_walk alone first) (own_walk alone second)) (sym h.mesh)
    (own_walks mesh apart.parts apart.own k first second own walks at) in
    let told : Homotopic (own_mesh alone) (own_walk alone first) (own_walk alone second) ↔ (one ≡ other) =
    subst (λ (m : FaceList). Homotopic m (own_walk alone first) (own_walk alone second) ↔ (one ≡ other)) h.mesh
    (under_decide labelled h.labels (own_walk alone first) (own_walk alone second) one other pair here there) in
    ((λ leads. told.0 (alike.0 leads)), (λ e. alike.1 (told.1 e)))

pub among_decide : (several : SeveralView) → AreLabelledApart several → DoDecide several.apart.mesh.faces (IsWordAmong several)
among_decide several h = λ first second one other walks here there.
    let apart : Apart = several.apart in
    let k : ℕ = get_or apart.parts.places (get_or first 0 0) 0 in
    let within : k < length apart.parts.components =
    h.apart.parts.places.below (get_or first 0 0) (walks.first_walk.used 0 0 walks.first_walk.starts) in
    let same : get_or apart.parts.places (get_or second 0 0) 0 ≡ k =
    ap (λ (v : ℕ). get_or apart.parts.places v 0) (sym walks.ends.starts) in
    at_decide apart k (labelled_at several k) first second one other h.apart within (h.labelled k within) walks refl here
    (subst (λ (p : ℕ). IsToldAt several p second (other ≡ Turns []) (λ labelled own. IsWordUnder labelled own other)) same there)

-- ---- one component more is labelled

-- only the component at a place has got labels
pub record IsLabelledMore (place : ℕ) (several next : SeveralView) : Type 0 where
  pub labelled : AreLabelledApart next
  pub same : next.apart ≡ several.apart
  pub stay : (labelled : LabelledView) → labelled_at several place ≡ Some labelled → labelled_at next place ≡ Some labelled
  pub others : (k : ℕ) → k ≢ place → labelled_at next k ≡ labelled_at several k

-- what is told of a walk in a component with these labels, or with none
abbrev pub Tells : Apart → Option LabelledView → ℕ → List ℕ → Type 0 → (LabelledView → List ℕ → Type 0) → Type 0
Tells apart found k walk OnSphere Under =
    MatchOption found (HasGenus (component_mesh apart.mesh.faces apart.parts k) 0 × OnSphere)
    (λ labelled. Under labelled (own_walk (component_mesh apart.mesh.faces apart.parts k) walk))

-- nothing is told of a walk of a component without labels, unless it is a sphere
told_stays : (apart : Apart) (k : ℕ) (before after : Option LabelledView) (walk : List ℕ) (OnSphere : Type 0)
    (Under : LabelledView → List ℕ → Type 0) → (HasGenus (component_mesh apart.mesh.faces apart.parts k) 0 → ⊥)
    → ((labelled : LabelledView) → before ≡ Some labelled → after ≡ Some labelled)
    → Tells apart before k walk OnSphere Under → Tells apart after k walk OnSphere Under
told_stays apart k None after walk OnSphere Under not stay is = absurd (not is.0)
told_stays apart k (Some labelled) after walk OnSphere Under not stay is =
    subst (λ (o : Option LabelledView). Tells apart o k walk OnSphere Under) (sym (stay labelled refl)) is

-- so what is told stays where one component more is labelled
stays_at : (several next : SeveralView) (place k : ℕ) (walk : List ℕ) (OnSphere : Type 0) (Under : LabelledView → List ℕ → Type 0)
    → IsLabelledMore place several next → (HasGenus (component_mesh several.apart.mesh.faces several.apart.parts place) 0 → ⊥)
    → IsToldAt several k walk OnSphere Under → IsToldAt next k walk OnSphere Under
stays_at several next place k walk OnSphere Under more not is =
    let apart : Apart = several.apart in
    let there : Tells apart (labelled_at next k) k walk OnSphere Under = elim (cases_Bool (eqb k place)) [
      | inl same ↦
          (let here : place ≡ k = sym (eqb-true k place same) in
          told_stays apart k (labelled_at several k) (labelled_at next k) walk OnSphere Under
          (subst (λ (p : ℕ). HasGenus (component_mesh apart.mesh.faces apart.parts p) 0 → ⊥) here not)
          (subst (λ (p : ℕ). (labelled : LabelledView) → labelled_at several p ≡ Some labelled → labelled_at next p ≡ Some labelled) here
          more.stay) is)
      | inr differ ↦
          subst (λ (o : Option LabelledView). Tells apart o k walk OnSphere Under)
          (sym (more.others k (λ e. both_ways (eqb k place) differ (eq-eqb k place e)))) is
    ] in
    subst (λ (a : Apart). Tells a (labelled_at next k) k walk OnSphere Under) (sym more.same) there

pub words_stay : (several next : SeveralView) (place : ℕ) (walk : List ℕ) (word : Word) → IsLabelledMore place several next
    → (HasGenus (component_mesh several.apart.mesh.faces several.apart.parts place) 0 → ⊥) → IsWordAmong several walk word
    → IsWordAmong next walk word
words_stay several next place walk word more not is =
    let told = stays_at several next place (place_of_walk several walk) walk (word ≡ Turns [])
    (λ labelled own. IsWordUnder labelled own word) more not is in
    subst (λ (p : ℕ). IsToldAt next p walk (word ≡ Turns []) (λ labelled own. IsWordUnder labelled own word))
    (ap (λ (a : Apart). get_or a.parts.places (get_or walk 0 0) 0) (sym more.same)) told

pub free_words_stay : (several next : SeveralView) (place : ℕ) (walk : List ℕ) (placed : PlacedWord) → IsLabelledMore place several next
    → (HasGenus (component_mesh several.apart.mesh.faces several.apart.parts place) 0 → ⊥) → IsFreeAmong several walk placed
    → IsFreeAmong next walk placed
free_words_stay several next place walk placed more not is = record {
  place = is.place ∙ ap (λ (a : Apart). get_or a.parts.places (get_or walk 0 0) 0) (sym more.same);
  word = stays_at several next place placed.place walk (placed.word ≡ Ring [])
      (λ labelled own. IsFreeUnder labelled own placed.word) more not is.word;
}

-- the labels of a component are those of its own mesh
pub own_labels : (several : SeveralView) (k : ℕ) (labelled : LabelledView) → AreLabelledApart several
    → k < length several.apart.parts.components → labelled_at several k ≡ Some labelled → IsOwnLabelled several.apart k labelled
own_labels several k labelled is l there =
    subst (λ (o : Option LabelledView). IfSome o (IsOwnLabelled several.apart k)) there (is.labelled k l)

-- on a sphere there are no labels
pub on_sphere : (apart : Apart) (k : ℕ) (found : Option LabelledView) (walk : List ℕ) (OnSphere : Type 0)
    (Under : LabelledView → List ℕ → Type 0) → IfSome found (IsOwnLabelled apart k)
    → HasGenus (component_mesh apart.mesh.faces apart.parts k) 0 → OnSphere → Tells apart found k walk OnSphere Under
on_sphere apart k None walk OnSphere Under none sphere told = (sphere, told)
on_sphere apart k (Some labelled) walk OnSphere Under h sphere told = absurd (h.no_sphere sphere)

pub sphere_found : (several : SeveralView) (k : ℕ) (walk : List ℕ) (found : Option Word) → AreLabelledApart several
    → k < length several.apart.parts.components → get_or several.apart.parts.places (get_or walk 0 0) 0 ≡ k
    → HasGenus (component_mesh several.apart.mesh.faces several.apart.parts k) 0
    → MatchOption found (IsWalk several.apart.mesh.faces walk → ⊥) (λ word. IsWalk several.apart.mesh.faces walk × (word ≡ Turns []))
    → IsWordFound several.apart.mesh.faces (IsWordAmong several) walk found
sphere_found several k walk None is l at sphere none = none
sphere_found several k walk (Some word) is l at sphere told = (
  told.0,
  subst (λ (p : ℕ). IsToldAt several p walk (word ≡ Turns []) (λ labelled own. IsWordUnder labelled own word)) (sym at)
      (on_sphere several.apart k (labelled_at several k) walk (word ≡ Turns []) (λ labelled own. IsWordUnder labelled own word)
      (is.labelled k l) sphere told.1),
)

-- what is found of a walk over its own vertices is found of it
pub word_found : (several : SeveralView) (k : ℕ) (labelled : LabelledView) (walk own : List ℕ) (found : Option Word)
    → AreLabelledApart several → k < length several.apart.parts.components
    → get_or several.apart.parts.places (get_or walk 0 0) 0 ≡ k → IsOwnWalk several.apart k walk own
    → labelled_at several k ≡ Some labelled → IsWordFound labelled.surface.mesh (IsWordUnder labelled) own found
    → IsWordFound several.apart.mesh.faces (IsWordAmong several) walk found
word_found several k labelled walk own None is l at here there none = λ w.
    let apart : Apart = several.apart in
    let mesh : FaceList = apart.mesh.faces in
    let e : labelled.surface.mesh ≡ own_mesh (component_mesh mesh apart.parts k) = (own_labels several k labelled is l there).mesh in
    let pair : AreWalkPair mesh walk walk =
    record { first_walk = w; second_walk = w; ends = record { starts = refl; ends = refl } } in
    none (subst (λ (m : FaceList). IsWalk m own) (sym e)
    (subst (IsWalk (own_mesh (component_mesh mesh apart.parts k))) (sym here.by_number)
    (own_walks mesh apart.parts apart.own k walk walk (numbered apart k is.apart l) pair at).first_walk))
word_found several k labelled walk own (Some word) is l at here there found =
    let apart : Apart = several.apart in
    let mesh : FaceList = apart.mesh.faces in
    let alone : FaceList = component_mesh mesh apart.parts k in
    let e : labelled.surface.mesh ≡ own_mesh alone = (own_labels several k labelled is l there).mesh in
    let home : IsWalk (own_mesh alone) (own_walk alone walk) =
    subst (IsWalk (own_mesh alone)) here.by_number (subst (λ (m : FaceList). IsWalk m own) e found.0) in
    let under : IsWordUnder labelled (own_walk alone walk) word =
    subst (λ (w : List ℕ). IsWordUnder labelled w word) here.by_number found.1 in (
      walk_back mesh apart.parts apart.own k walk (numbered apart k is.apart l) here.there home,
      subst (λ (p : ℕ). IsToldAt several p walk (word ≡ Turns []) (λ labelled own. IsWordUnder labelled own word)) (sym at)
          (subst (λ (o : Option LabelledView). MatchOption o (HasGenus alone 0 × (word ≡ Turns []))
          (λ labels. IsWordUnder labels (own_walk alone walk) word)) (sym there) under),
    )

-- ---- lists of labels

-- nothing is labelled, and one component more is not
pub none_more : {X : Type 0} (xs : List (Option X)) → ((k : ℕ) → get_or xs k None ≡ None) → (k : ℕ) → get_or (xs ++ None ∷ []) k None ≡ None
none_more {X} [] none zero = refl
none_more {X} [] none (suc k) = refl
none_more {X} (x ∷ xs) none zero = none zero
none_more {X} (x ∷ xs) none (suc k) = none_more xs (λ j. none (suc j)) k

-- the component at a place has labels now, which had none
pub labelled_more : (apart : Apart) (labelled : List (Option (Box LabelledView))) (place : ℕ) (one : Box LabelledView)
    → AreLabelledApart (record { apart = apart; labelled = labelled }) → place < length apart.parts.components
    → get_or labelled place None ≡ None → IsOwnLabelled apart place one.value
    → IsLabelledMore place (record { apart = apart; labelled = labelled })
    (record { apart = apart; labelled = set labelled place (Some one) })
labelled_more apart labelled place one is l none own =
    let next : List (Option (Box LabelledView)) = set labelled place (Some one) in
    let inside : place < length labelled = subst (λ (n : ℕ). place < n) (sym is.each) l in
    let here : unboxed (get_or next place None) ≡ Some one.value = ap unboxed (get_or-set_same labelled place (Some one) None inside) in
    let others : (k : ℕ) → k ≢ place → unboxed (get_or next k None) ≡ unboxed (get_or labelled k None) =
    λ k differ. ap unboxed (get_or-set_other labelled place k (Some one) None differ) in
    record {
      labelled = record {
        apart = is.apart;
        each = length-set labelled place (Some one) ∙ is.each;
        labelled = λ k few. elim (cases_Bool (eqb k place)) [
          | inl same ↦
              (let at : k ≡ place = eqb-true k place same in
              subst (λ (p : ℕ). IfSome (unboxed (get_or next p None)) (IsOwnLabelled apart p)) (sym at)
              (subst (λ (o : Option LabelledView). IfSome o (IsOwnLabelled apart place)) (sym here) own))
          | inr differ ↦
              subst (λ (o : Option LabelledView). IfSome o (IsOwnLabelled apart k))
              (sym (others k (λ e. both_ways (eqb k place) differ (eq-eqb k place e)))) (is.labelled k few)
        ];
      };
      same = refl;
      stay = λ labels e. absurd (let wrong : None ≡ Some labels = sym (ap unboxed none) ∙ e in cc);
      others = others;
    }

-- To be in one class is an equivalence, so the least places tell classes apart.
use Rattle.walk_classes.proofs.Common.{◌≡◌, ◌↔◌, inl, inr, ℕ, ◌<◌, List, [], length, get_or, refl, sym, ◌∙◌, ◌++◌, subst, arith, same_lists, get_or_default, FaceList, IsWalk, walk_at, AreInOneClass, IsLeastInClass, AreClasses}
use Rattle.std.proofs.lemmas.Bool.{cases_lt}
use Rattle.surf_model.proofs.ContextLemmas.{one_after_another}
use Rattle.surf_model.proofs.WayBackLemmas.{list_undone}
use Rattle.surf_model.specs.Rewriting.{way_back}

-- ---- an equivalence

pub alike_itself : (mesh : FaceList) (walk : List ℕ) → AreInOneClass mesh walk walk
alike_itself mesh walk = record { ends = record { starts = refl; ends = refl }; homotopic = ([], refl) }

pub alike_back : (mesh : FaceList) (first second : List ℕ) → IsWalk mesh first → AreInOneClass mesh first second
    → AreInOneClass mesh second first
alike_back mesh first second w h = record {
  ends = record { starts = sym h.ends.starts; ends = sym h.ends.ends };
  homotopic = (way_back mesh h.homotopic.0, list_undone mesh h.homotopic.0 first second w h.homotopic.1);
}

pub alike_on : (mesh : FaceList) (first second third : List ℕ) → AreInOneClass mesh first second → AreInOneClass mesh second third
    → AreInOneClass mesh first third
alike_on mesh first second third h k = record {
  ends = record { starts = h.ends.starts ∙ k.ends.starts; ends = h.ends.ends ∙ k.ends.ends };
  homotopic = (
    h.homotopic.0 ++ k.homotopic.0,
    one_after_another mesh h.homotopic.0 k.homotopic.0 first second third h.homotopic.1 k.homotopic.1,
  );
}

-- ---- least places

-- a walk has one least place
pub one_least : (mesh : FaceList) (walks : List (List ℕ)) (walk : List ℕ) (m n : ℕ) → IsLeastInClass mesh walks walk m
    → IsLeastInClass mesh walks walk n → m ≡ n
one_least mesh walks walk m n here there = elim (cases_lt m n) [
  | inl less ↦ absurd (there.least m less here.alike)
  | inr more ↦
      elim (cases_lt n m) [
        | inl less ↦ absurd (here.least n less there.alike)
        | inr other ↦ omega (arith, more, other)
      ]
]

-- which is that of each walk in its class
least_alike : (mesh : FaceList) (walks : List (List ℕ)) (walk other : List ℕ) (place : ℕ) → IsWalk mesh walk
    → AreInOneClass mesh walk other → IsLeastInClass mesh walks walk place → IsLeastInClass mesh walks other place
least_alike mesh walks walk other place w same h = record {
  within = h.within;
  alike = alike_on mesh (walk_at walks place) walk other h.alike same;
  least = λ j l h2. h.least j l (alike_on mesh (walk_at walks j) other walk h2 (alike_back mesh walk other w same));
}

pub told_by_numbers : (mesh : FaceList) (walks : List (List ℕ)) (numbers : List ℕ) (i j : ℕ) → AreClasses mesh walks numbers
    → i < length walks → j < length walks
    → (get_or numbers i 0 ≡ get_or numbers j 0) ↔ AreInOneClass mesh (walk_at walks i) (walk_at walks j)
told_by_numbers mesh walks numbers i j are l m =
    let first : List ℕ = walk_at walks i in
    let second : List ℕ = walk_at walks j in
    let least : ℕ = get_or numbers i 0 in
    let here : IsLeastInClass mesh walks first least = are.least i l in
    let there : IsLeastInClass mesh walks second (get_or numbers j 0) = are.least j m in (
      (λ same.
          let other : IsLeastInClass mesh walks second least = subst (IsLeastInClass mesh walks second) (sym same) there in
          alike_on mesh first (walk_at walks least) second
          (alike_back mesh (walk_at walks least) first (are.are_walks least here.within) here.alike) other.alike),
      (λ same. one_least mesh walks second least (get_or numbers j 0)
          (least_alike mesh walks first second least (are.are_walks i l) same here) there),
    )

pub one_numbering : (mesh : FaceList) (walks : List (List ℕ)) (numbers others : List ℕ) → AreClasses mesh walks numbers
    → AreClasses mesh walks others → numbers ≡ others
one_numbering mesh walks numbers others are also =
    same_lists numbers others (are.each_walk ∙ sym also.each_walk)
    (λ k d l.
    let few : k < length walks = omega (arith, l, are.each_walk) in
    get_or_default numbers k d 0 l
    ∙ one_least mesh walks (walk_at walks k) (get_or numbers k 0) (get_or others k 0) (are.least k few) (also.least k few)
    ∙ get_or_default others k 0 d (omega (arith, few, also.each_walk)))

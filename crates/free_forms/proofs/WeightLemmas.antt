-- A dart weighs one, and as much as the faces that are expanded below it have sides but one each. So it weighs no more than the mesh has
-- sides.
use Rattle.free_forms.proofs.Common.{OpenView, HasFaceParents, parent_of, expansion, ◌≡◌, inl, inr, ℕ, zero, suc, ◌+◌, ◌-◌, ◌*◌, ◌<◌, ◌≤◌, List, [], ◌∷◌, length, take, refl, ap, sym, ◌∙◌, arith, cases_eq, eq-eqb, nat_tests, take_more, take_all, sum_by-cons, sum_by_push, All, Option, Some, None, sum_by, FaceList, face_at, total_sides, run}
use Rattle.std.proofs.lemmas.List.Elements.{All-nil, All-cons}
use Rattle.free_forms.proofs.Expansions.{acting, by_face, parent_face_of, found_face, expansion_size}
use Rattle.free_forms.proofs.OnceLemmas.{list_on, list_in, listed, times, listed_once}
use Rattle.free_forms.proofs.StepLemmas.{weight, count_on, count_in, count_from}

-- the sides of a face but one
abbrev others : FaceList → ℕ → ℕ
others mesh f = length (face_at mesh f) - 1

-- ---- what the faces below a dart weigh

abbrev counted : OpenView → ℕ → ℕ → ℕ → ℕ → ℕ
counted surface n = acting surface count_on count_in n

abbrev total : FaceList → List ℕ → ℕ
total mesh faces = sum_by (others mesh) faces

-- of darts on level n: what is counted, by the faces that are listed
abbrev IsCounted : OpenView → ℕ → Type 0
IsCounted surface n =
    (u v s : ℕ) (faces : List ℕ)
    → counted surface n s u v + total surface.mesh faces ≡ suc s + total surface.mesh (listed surface n faces u v)

counted_along : (surface : OpenView) (n : ℕ) → IsCounted surface n → (u : ℕ) (vs : List ℕ) (s : ℕ) (faces : List ℕ)
    → run (counted surface n) s u vs + total surface.mesh faces
    ≡ s + length vs + total surface.mesh (run (listed surface n) faces u vs)
counted_along surface n each u [] s faces = omega arith
counted_along surface n each u (v ∷ vs) s faces =
    omega (
      arith,
      each u v s faces,
      counted_along surface n each v vs (counted surface n s u v) (listed surface n faces u v),
    )

counted_by_face : (surface : OpenView) (n : ℕ) → IsCounted surface n → (u v s : ℕ) (faces : List ℕ) (o : Option ℕ)
    → by_face surface count_on count_in (counted surface n) o s u v + total surface.mesh faces
    ≡ suc s + total surface.mesh (by_face surface list_on list_in (listed surface n) o faces u v)
counted_by_face surface n each u v s faces None = refl
counted_by_face surface n each u v s faces (Some f) =
    omega (
      arith,
      counted_along surface n each u (expansion surface.mesh (parent_of surface f) u) (suc s) (f ∷ faces),
      sum_by-cons (others surface.mesh) f faces,
      expansion_size surface f u,
    )

is_counted : (surface : OpenView) (n : ℕ) → IsCounted surface n
is_counted surface zero u v s faces = refl
is_counted surface (suc n) u v s faces =
    counted_by_face surface n (is_counted surface n) u v s faces (parent_face_of surface u v)

-- ---- the faces below a dart are faces of the mesh

abbrev AreFaces : OpenView → List ℕ → Type 0
AreFaces surface faces = All (λ f. f < length surface.mesh.faces) faces

faces_along : (surface : OpenView) (n : ℕ) → ((u v : ℕ) (faces : List ℕ) → AreFaces surface faces
    → AreFaces surface (listed surface n faces u v))
    → (u : ℕ) (vs : List ℕ) (faces : List ℕ) → AreFaces surface faces → AreFaces surface (run (listed surface n) faces u vs)
faces_along surface n each u [] faces all = all
faces_along surface n each u (v ∷ vs) faces all =
    faces_along surface n each v vs (listed surface n faces u v) (each u v faces all)

faces_by_face : (surface : OpenView) (n : ℕ) → ((u v : ℕ) (faces : List ℕ) → AreFaces surface faces
    → AreFaces surface (listed surface n faces u v))
    → (u v : ℕ) (faces : List ℕ) → AreFaces surface faces → (o : Option ℕ) → parent_face_of surface u v ≡ o
    → AreFaces surface (by_face surface list_on list_in (listed surface n) o faces u v)
faces_by_face surface n each u v faces all None e = all
faces_by_face surface n each u v faces all (Some f) e =
    faces_along surface n each u (expansion surface.mesh (parent_of surface f) u) (f ∷ faces)
    (All-cons (λ (g : ℕ). g < length surface.mesh.faces) f faces (found_face surface u v f e).within all)

are_faces : (surface : OpenView) (n : ℕ) (u v : ℕ) (faces : List ℕ) → AreFaces surface faces → AreFaces surface (listed surface n faces u v)
are_faces surface zero u v faces all = all
are_faces surface (suc n) u v faces all =
    faces_by_face surface n (are_faces surface n) u v faces all (parent_face_of surface u v) refl

-- ---- numbers below n, each once at most, come to no more than all numbers below n

-- what all numbers below n come to
sum_below : (ℕ → ℕ) → ℕ → ℕ
sum_below w zero = 0
sum_below w (suc n) = sum_below w n + w n

-- what those of them come to that stand in a list, each as often as it stands there
sum_in : (ℕ → ℕ) → List ℕ → ℕ → ℕ
sum_in w xs zero = 0
sum_in w xs (suc n) = sum_in w xs n + times n xs * w n

sum_in-nil : (w : ℕ → ℕ) (n : ℕ) → sum_in w [] n ≡ 0
unfolding sum_in
sum_in-nil w zero = refl
sum_in-nil w (suc n) = omega (arith, sum_in-nil w n)

one_time : (x n : ℕ) (xs : List ℕ) (a : ℕ) → x ≡ n → times n (x ∷ xs) * a ≡ times n xs * a + a
one_time x n xs a same = rw (eq-eqb x n same) (omega arith)

no_time : (x n : ℕ) (xs : List ℕ) → (x ≡ n → ⊥) → times n (x ∷ xs) ≡ times n xs
no_time x n xs other = grind (arith, nat_tests)

sum_in-past : (w : ℕ → ℕ) (x : ℕ) (xs : List ℕ) (n : ℕ) → n ≤ x → sum_in w (x ∷ xs) n ≡ sum_in w xs n
unfolding sum_in
sum_in-past w x xs zero l = refl
sum_in-past w x xs (suc n) l =
    ap (λ (a : ℕ). sum_in w (x ∷ xs) n + a * w n) (no_time x n xs (λ same. omega (arith, same, l)))
    ∙ ap (λ (a : ℕ). a + times n xs * w n) (sum_in-past w x xs n (omega arith))

sum_in-cons : (w : ℕ → ℕ) (x : ℕ) (xs : List ℕ) (n : ℕ) → x < n → sum_in w (x ∷ xs) n ≡ w x + sum_in w xs n
unfolding sum_in
sum_in-cons w x xs zero l = absurd (omega arith)
sum_in-cons w x xs (suc n) l =
    elim (cases_eq x n) [
      | inl same ↦ omega (arith, one_time x n xs (w n) same, sum_in-past w x xs n (omega arith), ap w same)
      | inr other ↦
          ap (λ (a : ℕ). sum_in w (x ∷ xs) n + a * w n) (no_time x n xs other)
          ∙ omega (arith, sum_in-cons w x xs n (omega arith))
    ]

sum_listed : (w : ℕ → ℕ) (xs : List ℕ) (n : ℕ) → All (λ x. x < n) xs → sum_by w xs ≡ sum_in w xs n
sum_listed w [] n all = sym (sum_in-nil w n)
sum_listed w (x ∷ xs) n all =
    sum_by-cons w x xs ∙ ap (λ (a : ℕ). w x + a) (sum_listed w xs n (λ k d l. all (suc k) d (omega (arith, l))))
    ∙ sym (sum_in-cons w x xs n (all 0 0 (omega arith)))

at_most_one : (k a : ℕ) → k ≤ 1 → k * a ≤ a
at_most_one zero a few = omega arith
at_most_one (suc zero) a few = omega arith
at_most_one (suc (suc k)) a few = absurd (omega arith)

sum_once : (w : ℕ → ℕ) (xs : List ℕ) (n : ℕ) → ((x : ℕ) → times x xs ≤ 1) → sum_in w xs n ≤ sum_below w n
unfolding sum_in sum_below
sum_once w xs zero once = omega arith
sum_once w xs (suc n) once = omega (arith, sum_once w xs n once, at_most_one (times n xs) (w n) (once n))

-- ---- the bound

-- the sides of the first faces but one each
sum_faces : (mesh : FaceList) (n : ℕ) → ((f : ℕ) → f < length mesh.faces → 0 < length (face_at mesh f)) → n ≤ length mesh.faces
    → sum_below (others mesh) n + n ≤ sum_by length (take n mesh.faces)
unfolding sum_below
sum_faces mesh zero some l = omega arith
sum_faces mesh (suc n) some l =
    let up : suc n ≡ n + 1 = omega arith in
    let more : sum_by length (take (suc n) mesh.faces) ≡ sum_by length (take n mesh.faces) + length (face_at mesh n) =
    ap (λ (k : ℕ). sum_by length (take k mesh.faces)) up ∙ ap (sum_by length) (take_more mesh.faces n [] (omega arith))
    ∙ sum_by_push length (take n mesh.faces) (face_at mesh n) in
    omega (arith, more, sum_faces mesh n some (omega arith), some n (omega arith))

-- a dart and all faces weigh no more than one and all sides
pub dart_bound : {surface : OpenView} (u v : ℕ) → HasFaceParents surface
    → counted surface (length surface.mesh.faces) 0 u v + length surface.mesh.faces ≤ total_sides surface.mesh + 1
dart_bound {surface} u v has =
    let mesh : FaceList = surface.mesh in
    let n : ℕ = length mesh.faces in
    let faces : List ℕ = listed surface n [] u v in
    let all : AreFaces surface faces = are_faces surface n u v [] (All-nil (λ (f : ℕ). f < n)) in
    let most : sum_below (others mesh) n + n ≤ sum_by length (take n mesh.faces) = grind (arith, sum_faces) in
    let whole : sum_by length (take n mesh.faces) ≡ total_sides mesh = ap (sum_by length) (take_all n mesh.faces (omega arith)) in
    omega (
      arith,
      is_counted surface n u v 0 [],
      sum_listed (others mesh) faces n all,
      sum_once (others mesh) faces n (λ x. listed_once x n u v has),
      most,
      whole,
    )

-- so the weight of a way is at most that of its darts
pub weight_bound : {surface : OpenView} (most u : ℕ) (vs : List ℕ) → HasFaceParents surface → 0 < most → total_sides surface.mesh ≤ most
    → weight surface u vs ≤ length vs * most
weight_bound {surface} most u vs has some few = omega (arith, go 0 u vs)
  where
    act : ℕ → ℕ → ℕ → ℕ
    act = counted surface (length surface.mesh.faces)

    from : (s u v : ℕ) → act s u v ≡ s + act 0 u v
    from zero u v = omega arith
    from (suc s) u v = omega (arith, count_from surface (length surface.mesh.faces) s u v, from s u v)

    dart : (u v : ℕ) → act 0 u v ≤ most
    dart u v = elim (cases_eq (length surface.mesh.faces) 0) [
      | inl none ↦ alone u v (length surface.mesh.faces) none
      | inr faces ↦ omega (arith, dart_bound u v has)
    ]
      where
        alone : (u v n : ℕ) → n ≡ 0 → counted surface n 0 u v ≤ most
        alone u v zero e = omega arith
        alone u v (suc n) e = absurd (omega arith)

    go : (s u : ℕ) (vs : List ℕ) → run act s u vs ≤ s + length vs * most
    go s u [] = omega arith
    go s u (v ∷ vs) = omega (arith, go (act s u v) v vs, from s u v, dart u v)

-- and each dart weighs one at least
pub weight_long : (surface : OpenView) (u : ℕ) (vs : List ℕ) → length vs ≤ weight surface u vs
weight_long surface u vs = omega (arith, go 0 u vs)
  where
    n : ℕ
    n = length surface.mesh.faces

    go : (s u : ℕ) (vs : List ℕ) → s + length vs ≤ run (counted surface n) s u vs
    go s u [] = omega arith
    go s u (v ∷ vs) =
        let one : suc s ≤ counted surface n s u v = omega (arith, is_counted surface n u v s []) in
        omega (arith, go (counted surface n s u v) v vs, one)

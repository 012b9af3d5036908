-- The numbers of a mesh, and the genera of the components of a surface: that they are there, and that there are no others.
use Rattle.closed_surfaces.proofs.Common.{IsPart, corner_used, IsOfComponent, piece_of_parts, closed_alone, coherent_alone, ◌≡◌, inl, inr, ℕ, zero, suc, ◌+◌, ◌*◌, ◌<◌, ◌≤◌, Bool, true, eqb, List, ◌∷◌, ◌++◌, length, get_or, refl, sym, ap, ◌∙◌, subst, arith, add-one, [], cases_lt, eq-eqb, ext_get_or, get_or_append_left, get_or_push, length_push, All-head, All-tail, length-range_with_len, get_or-range_with_len, range_with_len, ℤ, pos, ◌+ℤ◌, ◌-ℤ◌, filter, All, some_table, PartsView, AreParts, component_at, component_mesh, EachTwoAreJoined, place_of_face, Edge, IsTableOf, FaceList, IsFaceList, IsFace, face_at, is_used, LiesOnSphere, AreNumbersOf, HasGenus, IsOrientableSurface, signs_among, submesh, IsSurface, SurfaceNumbers}
use Rattle.closed_surfaces.specs.ComponentGenera.{AreGeneraOf}
use Rattle.closed_surfaces.specs.declared.component.Part.{Part}
use Rattle.manifold_check.proofs.PieceSides.{valid_alone, faces_by_name}
use Rattle.std.proofs.lemmas.Int.{ints}
use Rattle.surf_model.proofs.OneTableLemmas.{one_table}
use Rattle.surf_model.specs.Numbers.{count_below}
use Rattle.tree_cotree.proofs.GenusLemmas.{table_and_genus}
use Rattle.closed_surfaces.proofs.SomeParts.{some_parts, same_count, same_places, same_meshes}

-- ---- numbers

-- the numbers of a mesh, by its table
abbrev pub numbers_with : FaceList → List Edge → SurfaceNumbers
numbers_with mesh table =
    record {
      vertices = count_below (is_used mesh) mesh.count;
      edges = length table;
      faces = length mesh.faces;
      euler = (pos (count_below (is_used mesh) mesh.count) -ℤ pos (length table)) +ℤ pos (length mesh.faces);
    }

pub are_numbers : (mesh : FaceList) (table : List Edge) → IsTableOf mesh table → AreNumbersOf mesh (numbers_with mesh table)
are_numbers mesh table h =
    record { vertices = refl; table = table; is_table = h; edges = refl; faces = refl; euler = refl }

pub some_numbers : (mesh : FaceList) → IsFaceList mesh → (numbers : SurfaceNumbers) × AreNumbersOf mesh numbers
some_numbers mesh valid =
    let table = some_table mesh valid in (numbers_with mesh table.0, are_numbers mesh table.0 table.1)

abbrev four : (v e f : ℕ) (x : ℤ) → SurfaceNumbers
four v e f x = record { vertices = v; edges = e; faces = f; euler = x }

pub one_numbers : (mesh : FaceList) (a b : SurfaceNumbers) → AreNumbersOf mesh a → AreNumbersOf mesh b → a ≡ b
one_numbers mesh a b p q =
    let v : a.vertices ≡ b.vertices = p.vertices ∙ sym q.vertices in
    let e : a.edges ≡ b.edges = p.edges ∙ ap (λ (t : List Edge). length t) (one_table mesh p.table q.table p.is_table q.is_table)
    ∙ sym q.edges in
    let f : a.faces ≡ b.faces = p.faces ∙ sym q.faces in
    let x : a.euler ≡ b.euler = p.euler ∙ rw (v, e, f) refl ∙ sym q.euler in
    ap (λ (n : ℕ). four n a.edges a.faces a.euler) v ∙ ap (λ (n : ℕ). four b.vertices n a.faces a.euler) e
    ∙ ap (λ (n : ℕ). four b.vertices b.edges n a.euler) f ∙ ap (λ (z : ℤ). four b.vertices b.edges b.faces z) x

-- ---- the genus of a connected surface

-- from natural numbers to integers
pub genus_from : (v e f g : ℕ) → v + f + 2 * g ≡ e + 2 → pos 2 -ℤ pos (2 * g) ≡ (pos v -ℤ pos e) +ℤ pos f
genus_from v e f g is = omega (arith, ints)

-- two genera of one Euler characteristic
one_half : (g h : ℕ) → pos 2 -ℤ pos (2 * g) ≡ pos 2 -ℤ pos (2 * h) → g ≡ h
one_half g h is = omega (arith, ints)

pub one_genus : (mesh : FaceList) (g h : ℕ) → HasGenus mesh g → HasGenus mesh h → g ≡ h
one_genus mesh g h p q =
    one_half g h (p.2 ∙ ap (λ (n : SurfaceNumbers). n.euler) (one_numbers mesh p.0 q.0 p.1 q.1) ∙ sym q.2)

-- a genus in natural numbers
pub by_counts : (mesh : FaceList) (numbers : SurfaceNumbers) (g : ℕ) → AreNumbersOf mesh numbers → HasGenus mesh g
    → numbers.vertices + numbers.faces + 2 * g ≡ numbers.edges + 2
by_counts mesh numbers g are has =
    counts_from numbers.vertices numbers.edges numbers.faces g
    (has.2 ∙ ap (λ (n : SurfaceNumbers). n.euler) (one_numbers mesh has.0 numbers has.1 are) ∙ are.euler)
  where
    counts_from : (v e f g : ℕ) → pos 2 -ℤ pos (2 * g) ≡ (pos v -ℤ pos e) +ℤ pos f → v + f + 2 * g ≡ e + 2
    counts_from v e f g is = omega (arith, ints)

pub some_genus : (mesh : FaceList) → IsFaceList mesh → IsSurface mesh → (g : ℕ) × HasGenus mesh g
some_genus mesh valid is =
    let found = table_and_genus mesh valid is in (
      found.2,
      (
        numbers_with mesh found.0,
        are_numbers mesh found.0 found.1,
        genus_from (count_below (is_used mesh) mesh.count) (length found.0) (length mesh.faces) found.2 found.3,
      ),
    )

-- ---- spheres among the components

-- a part is the component of its vertices, however the parts are told
pub part_sphere : (part : Part) (v : ℕ) → IsPart part → is_used part.whole.faces v ≡ true → get_or part.parts.places v 0 ≡ part.place
    → LiesOnSphere part.whole.faces v → HasGenus part.alone.mesh 0
part_sphere part v is used here sphere =
    let mesh : FaceList = part.whole.faces in
    let there : get_or sphere.0.places v 0 ≡ part.place =
    same_places mesh (length sphere.0.components) (length part.parts.components) sphere.0.places part.parts.places sphere.1.places
    is.parts.places v used ∙ here in
    subst (λ (m : FaceList). HasGenus m 0) (sym is.mesh)
    (subst (λ (m : FaceList). HasGenus m 0)
    (sym (same_meshes mesh part.parts sphere.0 part.place is.whole.valid is.parts sphere.1 is.within))
    (subst (λ (k : ℕ). HasGenus (component_mesh mesh sphere.0 k) 0) there sphere.2))

-- a connected mesh is the component of each of its vertices
filter_all : (p : ℕ → Bool) (xs : List ℕ) → All (λ x. p x ≡ true) xs → filter p xs ≡ xs
filter_all p [] h = refl
filter_all p (x ∷ xs) h =
    rw (All-head (λ y. p y ≡ true) x xs h, filter_all p xs (All-tail (λ y. p y ≡ true) x xs h)) refl

whole_component : (mesh : FaceList) (parts : PartsView) (v : ℕ) → IsFaceList mesh → EachTwoAreJoined mesh → is_used mesh v ≡ true
    → AreParts mesh parts → component_mesh mesh parts (get_or parts.places v 0) ≡ mesh
whole_component mesh parts v valid joined used h =
    let k : ℕ = get_or parts.places v 0 in
    let all : List ℕ = range_with_len 0 (length mesh.faces) in
    let test : ℕ → Bool = λ f. eqb (place_of_face mesh parts.places f) k in
    let passes : All (λ f. test f ≡ true) all =
    λ i d few.
    let within : i < length mesh.faces = omega (arith, few, length-range_with_len 0 (length mesh.faces)) in
    let is : get_or all i d ≡ i = get_or-range_with_len 0 (length mesh.faces) i d within ∙ (let e : 0 + i ≡ i = omega arith in e) in
    subst (λ f. eqb (place_of_face mesh parts.places f) k ≡ true) (sym is)
    (eq-eqb (place_of_face mesh parts.places i) k (placed i within)) in
    ap (submesh mesh) (h.faces k (h.places.below v used) ∙ filter_all test all passes)
    ∙ ap (λ (faces : List (List ℕ)). record { count = mesh.count; faces = faces }) (faces_by_name mesh)
  where
    placed : (f : ℕ) → f < length mesh.faces → place_of_face mesh parts.places f ≡ get_or parts.places v 0
    placed f within =
        let face : IsFace mesh.count (face_at mesh f) = valid.faces f [] within in
        let corner : is_used mesh (get_or (face_at mesh f) 0 0) ≡ true =
        corner_used mesh (get_or (face_at mesh f) 0 0) (record { face = record { 0 = f }; at = 0 })
        (record { side = record { face = within; place = omega (arith, face.polygon) }; vertex = refl }) in
        (h.places.joined (get_or (face_at mesh f) 0 0) v corner used).1 (joined (get_or (face_at mesh f) 0 0) v corner used)

pub whole_sphere : (mesh : FaceList) (v : ℕ) → IsFaceList mesh → EachTwoAreJoined mesh → is_used mesh v ≡ true → LiesOnSphere mesh v
    → HasGenus mesh 0
whole_sphere mesh v valid joined used sphere =
    subst (λ (m : FaceList). HasGenus m 0) (whole_component mesh sphere.0 v valid joined used sphere.1) sphere.2

-- ---- the genera of the components

-- a connected surface
pub record IsComponentSurface (mesh : FaceList) : Type 0 where
  pub valid : IsFaceList mesh
  pub surface : IsSurface mesh

-- each component of a surface is a connected one
pub component_surface : (mesh : FaceList) (parts : PartsView) (k : ℕ) → IsFaceList mesh → IsOrientableSurface mesh → AreParts mesh parts
    → k < length parts.components → IsComponentSurface (component_mesh mesh parts k)
component_surface mesh parts k valid is h l =
    let piece = piece_of_parts mesh parts k h l in
    record {
      valid = valid_alone mesh (IsOfComponent parts.places k) (component_at parts k) piece valid;
      surface = record {
        closed = closed_alone mesh parts k h l is.manifold;
        orientable = (
          signs_among is.orientable.0 (component_at parts k),
          coherent_alone mesh (IsOfComponent parts.places k) (component_at parts k) is.orientable.0 piece is.orientable.1,
        );
      };
    }

-- the genera of the first n components
pub record AreGeneraUpTo (mesh : FaceList) (parts : PartsView) (genera : List ℕ) (n : ℕ) : Type 0 where
  pub long : length genera ≡ n
  pub each : (k : ℕ) → k < n → HasGenus (component_mesh mesh parts k) (get_or genera k 0)

pub genera_none : (mesh : FaceList) (parts : PartsView) → AreGeneraUpTo mesh parts [] 0
genera_none mesh parts = record { long = refl; each = λ k less. absurd (omega arith) }

pub genera_more : (mesh : FaceList) (parts : PartsView) (genera : List ℕ) (n genus : ℕ) → AreGeneraUpTo mesh parts genera n
    → HasGenus (component_mesh mesh parts n) genus → AreGeneraUpTo mesh parts (genera ++ genus ∷ []) (n + 1)
genera_more mesh parts genera n genus before here =
    record {
      long = omega (arith, length_push genera genus, before.long);
      each = λ k less. elim (cases_lt k n) [
        | inl earlier ↦
            subst (HasGenus (component_mesh mesh parts k))
            (sym (get_or_append_left genera (genus ∷ []) 0 k (omega (arith, earlier, before.long)))) (before.each k earlier)
        | inr last ↦
            (let same : n ≡ k = omega (arith, less, last) in
            let value : get_or (genera ++ genus ∷ []) k 0 ≡ genus =
            get_or_push genera genus 0 k (omega (arith, same, before.long)) in
            subst (HasGenus (component_mesh mesh parts k)) (sym value)
            (subst (λ (m : ℕ). HasGenus (component_mesh mesh parts m) genus) same here))
      ];
    }

pub genera_all : (mesh : FaceList) (parts : PartsView) (genera : List ℕ) → AreParts mesh parts
    → AreGeneraUpTo mesh parts genera (length parts.components) → AreGeneraOf mesh genera
genera_all mesh parts genera h all =
    record { parts = parts; are_parts = h; each = all.long; genus = λ k l. all.each k (omega (arith, l, all.long)) }

record HasGenera (mesh : FaceList) (parts : PartsView) (n : ℕ) : Type 0 where
  genera : List ℕ
  are : AreGeneraUpTo mesh parts genera n

genera_upto : (mesh : FaceList) (parts : PartsView) → IsFaceList mesh → IsOrientableSurface mesh → AreParts mesh parts → (n : ℕ)
    → n ≤ length parts.components → HasGenera mesh parts n
genera_upto mesh parts valid is h zero l = record { genera = []; are = genera_none mesh parts }
genera_upto mesh parts valid is h (suc n) l =
    let before : HasGenera mesh parts n = genera_upto mesh parts valid is h n (omega arith) in
    let here : IsComponentSurface (component_mesh mesh parts n) = component_surface mesh parts n valid is h (omega arith) in
    let found = some_genus (component_mesh mesh parts n) here.valid here.surface in
    record {
      genera = before.genera ++ found.0 ∷ [];
      are = subst (AreGeneraUpTo mesh parts (before.genera ++ found.0 ∷ [])) (add-one n)
          (genera_more mesh parts before.genera n found.0 before.are found.1);
    }

pub some_genera : (mesh : FaceList) → IsFaceList mesh → IsOrientableSurface mesh → (genera : List ℕ) × AreGeneraOf mesh genera
some_genera mesh valid is =
    let parts = some_parts mesh valid in
    let all : HasGenera mesh parts.0 (length parts.0.components) =
    genera_upto mesh parts.0 valid is parts.1 (length parts.0.components) (omega arith) in
    (all.genera, genera_all mesh parts.0 all.genera parts.1 all.are)

pub one_genera : (mesh : FaceList) (a b : List ℕ) → IsFaceList mesh → AreGeneraOf mesh a → AreGeneraOf mesh b → a ≡ b
one_genera mesh a b valid p q =
    let many : length a ≡ length b =
    p.each ∙ same_count mesh _ _ p.parts.places q.parts.places p.are_parts.places q.are_parts.places ∙ sym q.each in
    ext_get_or 0 a b many
    (λ k l.
    let same : component_mesh mesh p.parts k ≡ component_mesh mesh q.parts k =
    same_meshes mesh p.parts q.parts k valid p.are_parts q.are_parts (omega (arith, l, p.each)) in
    one_genus (component_mesh mesh q.parts k) (get_or a k 0) (get_or b k 0)
    (subst (λ (m : FaceList). HasGenus m (get_or a k 0)) same (p.genus k l)) (q.genus k (omega (arith, l, many))))
